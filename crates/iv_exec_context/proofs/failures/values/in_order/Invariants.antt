use Rattle.std.proofs.Common.{◌≡◌, ◌-◌, drop, length}
use Rattle.std.specs.List.{enumerate_from}
use Rattle.iv_account.specs.Failures.{values_failure}
use Rattle.iv_exec_context.proofs.failures.values.in_order.Given as goal

abbrev pub invariant-loop-at : goal.invariant-loop-at
invariant-loop-at g l =
    values_failure l.catalogue l.scope l.table (enumerate_from l.at (drop l.at l.expressions))
    ≡ values_failure l.catalogue l.scope l.table (enumerate_from 0 l.expressions)

abbrev pub decreases-loop-at : goal.decreases-loop-at
decreases-loop-at g l = length l.expressions - l.at
