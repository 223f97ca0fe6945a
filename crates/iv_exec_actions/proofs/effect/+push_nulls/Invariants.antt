use Rattle.std.proofs.Common.{length}
use Rattle.iv_exec_actions.proofs.effect.+push_nulls.Given as goal

abbrev pub decreases-push_nulls : goal.decreases-push_nulls
decreases-push_nulls l = length l.columns.now
