use Rattle.std.proofs.Common.{◌≡◌, ◌-◌, ◌+◌, drop, length}
use Rattle.std.specs.List.{enumerate_from}
use Rattle.iv_exec_context.specs.Sides.{placed_failure}
use Rattle.iv_exec_context.proofs.failures.query.in_items.Given as goal

abbrev pub invariant-loop-at : goal.invariant-loop-at
invariant-loop-at g l =
    placed_failure l.scope (enumerate_from (l.at + 1) (drop l.at l.expressions)) ≡ placed_failure l.scope (enumerate_from 1 l.expressions)

abbrev pub decreases-loop-at : goal.decreases-loop-at
decreases-loop-at g l = length l.expressions - l.at
