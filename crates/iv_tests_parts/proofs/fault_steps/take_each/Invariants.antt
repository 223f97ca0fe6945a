use Rattle.iv_store_faults.specs.Watching.{AreWatched, IsShownBy}
use Rattle.iv_tests_parts.proofs.fault_steps.take_each.Given as goal

abbrev pub invariant-loop-step : goal.invariant-loop-step
invariant-loop-step g l = IsShownBy l.versions.rows l.faults l.groups × AreWatched l.faults l.groups
