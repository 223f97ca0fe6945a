use Rattle.std.proofs.Common.{◌≡◌, ◌++◌, drop, map}
use Rattle.iv_expr.specs.declared.row.Change.{Change}
use Rattle.iv_exec_actions.proofs.finding.push_rows.Given as goal

abbrev pub invariant-loop-change : goal.invariant-loop-change
invariant-loop-change l =
    l.numbers.items ++ map (λ (c : Change). c.row) (drop l.change-index l.changes) ≡ l.initial.numbers.items ++ map (λ (c : Change). c.row) l.changes
