use Rattle.std.proofs.Common.{length}
use Rattle.iv_exec_actions.proofs.effect.+push_defaults.Given as goal

abbrev pub decreases-push_defaults : goal.decreases-push_defaults
decreases-push_defaults l = length l.columns.now
