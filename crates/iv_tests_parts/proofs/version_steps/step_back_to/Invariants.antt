use Rattle.std.proofs.Common.{◌<◌, length}
use Rattle.iv_tests_parts.proofs.version_steps.step_back_to.Given as goal

abbrev pub invariant-loop-change : goal.invariant-loop-change
invariant-loop-change g l = l.place < length l.versions.marks

abbrev pub decreases-loop-change : goal.decreases-loop-change
decreases-loop-change g l = length l.versions.journal
