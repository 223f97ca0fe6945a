use Rattle.std.proofs.Common.{ℕ, ◌+◌, ◌-◌, ◌/◌, ◌<◌, ◌≤◌, sym, length, arith}
use Rattle.iv_exec_actions.proofs.Halving.{found_here, above_middle, below_middle, found_nowhere}
use Rattle.iv_exec_actions.proofs.row.change_of.Goals as goal

between : (low high most : ℕ) → low < high → high ≤ most → low + (high - low) / 2 < most
between low high most l h = omega arith

pub returns-then-change-number : goal.returns-then-change-number
returns-then-change-number c =
    let middle = c.loop-low.low + (c.loop-low.high - c.loop-low.low) / 2 in
    sym
    (found_here 0 c.args.number c.args.changes.now middle c.index-changes-middle.result c.requires
    (between c.loop-low.low c.loop-low.high (length c.args.changes.now) c.loop-low-test.true c.loop-low.invariant.within)
    c.index-changes-middle.is c.if-change-number.true)

pub loop-low-preserved-then-change-number-2 : goal.loop-low-preserved-then-change-number-2
loop-low-preserved-then-change-number-2 c =
    let middle = c.loop-low.low + (c.loop-low.high - c.loop-low.low) / 2 in
    above_middle c.args.number c.args.changes.now c.loop-low.low c.loop-low.high middle c.index-changes-middle.result c.requires
    (between c.loop-low.low c.loop-low.high (length c.args.changes.now) c.loop-low-test.true c.loop-low.invariant.within)
    c.index-changes-middle.is c.if-change-number-2.true c.loop-low.invariant

pub loop-low-preserved : goal.loop-low-preserved
loop-low-preserved c =
    let middle = c.loop-low.low + (c.loop-low.high - c.loop-low.low) / 2 in
    below_middle c.args.number c.args.changes.now c.loop-low.low c.loop-low.high middle c.index-changes-middle.result c.requires
    (between c.loop-low.low c.loop-low.high (length c.args.changes.now) c.loop-low-test.true c.loop-low.invariant.within)
    c.index-changes-middle.is (omega (arith, c.if-change-number.false, c.if-change-number-2.false)) c.loop-low.invariant

pub returns : goal.returns
returns c = sym (found_nowhere c.args.number c.args.changes.now c.loop-low.low c.loop-low.high c.loop-low-test.false c.loop-low.invariant)
