use Rattle.std.specs.Prelude.{◌+◌, leb, slice_get}
use Rattle.std.proofs.Common.{rules, ap, ◌∙◌}
use Rattle.std.proofs.lemmas.List.{take_rest}
use Rattle.std.proofs.lemmas.List.Sorted.{IsPartitionPoint-from_clause, IsPartitionedBy-leb}
use Rattle.iv_numbers.proofs.RowsAbove.{above_found, above_point, first_from, never_falls}
use Rattle.iv_numbers.proofs.held_rows.above.Goals as goal

pub returns-then-is_at : goal.returns-then-is_at
returns-then-is_at c =
    let here = c.is_at.ensures c.if-is_at.true in
    c.first_of.ensures ∙ ap (λ l. slice_get l 0) (take_rest c.args.rows.now (c.likely_place-likely.result + 1))
    ∙ first_from (c.likely_place-likely.result + 1) c.args.rows.now
    ∙ above_found c.args.row c.likely_place-likely.result c.args.rows.now c.requires here.0 here.1

pub returns : goal.returns
returns c =
    c.first_of-2.ensures ∙ ap (λ l. slice_get l 0) (take_rest c.args.rows.now c.partition_point-place.result)
    ∙ first_from c.partition_point-place.result c.args.rows.now
    ∙ above_point c.args.row c.partition_point-place.result c.args.rows.now c.partition_point-place.ensures.bound
    (IsPartitionPoint-from_clause (λ m. leb m c.args.row) _ _ c.partition_point-place.ensures.partitioned
    (IsPartitionedBy-leb (λ m. m) _ c.args.row (never_falls c.args.rows.now c.requires)) (λ a r q k. search rules))
