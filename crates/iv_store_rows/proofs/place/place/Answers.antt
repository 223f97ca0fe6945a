use Rattle.std.proofs.Common.{sym, rules, nat_lt, ◌∙◌}
use Rattle.std.proofs.lemmas.List.Sorted.{IsPartitionPoint-from_clause, IsPartitionedBy-ltb}
use Rattle.iv_store_rows.specs.InSlots.{slot_number}
use Rattle.iv_store_rows.proofs.ByNumber.{all_below, by_point, found_at, never_falls}
use Rattle.iv_store_rows.proofs.SlotLaws.{some_slot}
use Rattle.iv_store_rows.proofs.place.place.Goals as goal

pub returns-then-has_number-clause-value : goal.returns-then-has_number-clause-value
returns-then-has_number-clause-value c =
    found_at slot_number 0 c.args.number c.likely_place-likely.result c.args.slots.now c.requires (sym c.has_number.ensures.value ∙ c.if-has_number.true)

pub returns-in-Some-clause-value : goal.returns-in-Some-clause-value
returns-in-Some-clause-value c =
    sym (all_below slot_number c.args.number c.args.slots.now c.in-Some.slot.now c.requires (sym c.in-Some.ensures.value) c.if-slot-number.true)

pub returns-in_default-clause-value : goal.returns-in_default-clause-value
returns-in_default-clause-value c =
    by_point slot_number c.args.number c.partition_point.result c.args.slots.now some_slot c.partition_point.ensures.bound
    (IsPartitionPoint-from_clause (λ s. nat_lt s.row.number c.args.number) _ _ c.partition_point.ensures.partitioned
    (IsPartitionedBy-ltb (λ s. s.row.number) _ c.args.number (never_falls slot_number 0 c.args.slots.now c.requires)) (λ a r q k. search rules))
