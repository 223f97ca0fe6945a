use Rattle.std.proofs.Common.{sym, rules, nat_lt}
use Rattle.std.proofs.lemmas.List.Sorted.{IsPartitionPoint-from_clause, IsPartitionedBy-ltb}
use Rattle.iv_store_plain.proofs.Places.{all_below, by_point, never_falls}
use Rattle.iv_store_plain.proofs.place.place.Goals as goal

pub returns-in-Some-clause-value : goal.returns-in-Some-clause-value
returns-in-Some-clause-value c = sym (all_below c.args.number c.args.rows.now c.in-Some.row.now c.requires (sym c.in-Some.ensures.value) c.if-row-number.true)

pub returns-in_default-clause-value : goal.returns-in_default-clause-value
returns-in_default-clause-value c =
    by_point c.args.number c.partition_point.result c.args.rows.now c.partition_point.ensures.bound
    (IsPartitionPoint-from_clause (λ r. nat_lt r.number c.args.number) _ _ c.partition_point.ensures.partitioned
    (IsPartitionedBy-ltb (λ r. r.number) _ c.args.number (never_falls 0 c.args.rows.now c.requires)) (λ a r q k. search rules))
