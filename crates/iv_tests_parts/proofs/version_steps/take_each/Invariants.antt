use Rattle.std.proofs.Common.{◌≤◌, length}
use Rattle.iv_tests_parts.proofs.version_steps.take_each.Given as goal

abbrev pub invariant-loop-step : goal.invariant-loop-step
invariant-loop-step g l = l.marks ≤ length l.versions.marks
