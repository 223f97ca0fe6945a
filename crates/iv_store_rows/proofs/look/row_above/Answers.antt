use Rattle.std.proofs.Common.{◌∙◌, ap, sym}
use Rattle.std.specs.Option.{option_copied}
use Rattle.iv_numbers.proofs.RowsAbove.{fewer_above}
use Rattle.iv_store_rows.specs.Filing.{held_for}
use Rattle.iv_store_rows.proofs.Looking.{found_next, passed_next, none_next}
use Rattle.iv_store_rows.proofs.look.row_above.Goals as goal

pub returns-in-Some-row_of : goal.returns-in-Some-row_of
returns-in-Some-row_of c =
    sym (found_next c.args.table c.loop-next.after c.in-Some.next c.args.slots.now c.args.numbers.now c.in-Some-row_of.row.now c.requires
    c.next_above.ensures.rising (sym c.next_above.ensures.next ∙ c.in-Some.is) (sym c.row_of.ensures ∙ ap option_copied c.in-Some-row_of.is))
    ∙ c.loop-next.invariant

pub loop-next-smaller : goal.loop-next-smaller
loop-next-smaller c =
    fewer_above c.loop-next.after c.in-Some.next (held_for c.args.numbers.now c.args.table).rows (sym c.next_above.ensures.next ∙ c.in-Some.is)

pub loop-next-preserved : goal.loop-next-preserved
loop-next-preserved c =
    sym (passed_next c.args.table c.loop-next.after c.in-Some.next c.args.slots.now c.args.numbers.now c.requires
    c.next_above.ensures.rising (sym c.next_above.ensures.next ∙ c.in-Some.is) (sym c.row_of.ensures ∙ ap option_copied c.in_default-row_of.is))
    ∙ c.loop-next.invariant

pub returns : goal.returns
returns c =
    sym (none_next c.args.table c.loop-next.after c.args.slots.now c.args.numbers.now c.requires (sym c.next_above.ensures.next ∙ c.in_default.is))
    ∙ c.loop-next.invariant
