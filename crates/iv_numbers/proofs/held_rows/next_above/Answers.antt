use Rattle.std.proofs.Common.{sym, ◌∙◌}
use Rattle.iv_numbers.proofs.RowsFound.{rising_front, rising_back}
use Rattle.iv_numbers.proofs.RowsAbove.{above_back, above_front, above_first}
use Rattle.iv_numbers.proofs.held_rows.next_above.Goals as goal

pub above-requires : goal.above-requires
above-requires c = rising_back c.args.front.now c.args.back.now c.requires

pub returns-then-is_behind : goal.returns-then-is_behind
returns-then-is_behind c =
    let here = c.is_behind.ensures.behind c.if-is_behind.true in
    c.above.ensures ∙ sym (above_back c.args.row c.args.front.now c.args.back.now c.requires here.0 here.1)

pub above-requires-2 : goal.above-requires-2
above-requires-2 c = rising_front c.args.front.now c.args.back.now c.requires

pub returns-in-Some : goal.returns-in-Some
returns-in-Some c = sym (above_front c.args.row c.in-Some.number c.args.front.now c.args.back.now (sym c.above-2.ensures ∙ c.in-Some.is))

pub returns-in-None : goal.returns-in-None
returns-in-None c = c.first_of.ensures
    ∙ above_first c.args.row c.args.front.now c.args.back.now (sym c.above-2.ensures ∙ c.in-None.is) (c.is_behind.ensures.before c.if-is_behind.false)
