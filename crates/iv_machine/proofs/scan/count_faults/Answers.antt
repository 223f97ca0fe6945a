use Rattle.std.proofs.Common.{◌≡◌, ◌∙◌, ◌+◌, ◌-◌, ◌^◌, sym, ap, min, drop, length, [], arith}
use Rattle.iv_machine.specs.Databases.{is_chosen}
use Rattle.iv_machine.proofs.Scans.{no_item, scan_from}
use Rattle.iv_machine.proofs.scan.count_faults.Goals as goal

pub returns : goal.returns
returns c =
    let e : drop c.loop-constraint.constraint-index c.args.constraints.now ≡ [] = no_item c.args.constraints.now c.loop-constraint.constraint-index c.loop-constraint-test.false in
    let here : min (c.loop-constraint.count + 0) (2 ^ 64 - 1) ≡ c.loop-constraint.count = omega (arith, c.loop-constraint.invariant.small) in
    sym here
    ∙ ap (λ l. min (c.loop-constraint.count + length (scan_from c.args.rows.now (is_chosen c.args.modes.now c.args.which) c.loop-constraint.id l)) (2 ^ 64 - 1)) (sym e)
    ∙ c.loop-constraint.invariant.left
