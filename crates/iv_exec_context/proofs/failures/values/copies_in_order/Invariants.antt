use Rattle.std.proofs.Common.{◌≡◌, ◌-◌, drop, length}
use Rattle.std.specs.List.{enumerate_from}
use Rattle.iv_account.specs.Disagreements.{first_of}
use Rattle.iv_exec_context.specs.Sides.{copy_failure}
use Rattle.iv_exec_context.proofs.failures.values.copies_in_order.Given as goal

abbrev pub invariant-loop-at : goal.invariant-loop-at
invariant-loop-at l =
    first_of (copy_failure l.catalogue l.table) (enumerate_from l.at (drop l.at l.values))
    ≡ first_of (copy_failure l.catalogue l.table) (enumerate_from 0 l.values)

abbrev pub decreases-loop-at : goal.decreases-loop-at
decreases-loop-at l = length l.values - l.at
