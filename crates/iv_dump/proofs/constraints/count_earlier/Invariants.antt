use Rattle.std.proofs.Common.{◌≤◌}
use Rattle.iv_dump.proofs.constraints.count_earlier.Given as goal

abbrev pub invariant-loop-constraint : goal.invariant-loop-constraint
invariant-loop-constraint l = l.count ≤ l.constraint-index
