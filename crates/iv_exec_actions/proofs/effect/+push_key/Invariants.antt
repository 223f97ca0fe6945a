use Rattle.std.proofs.Common.{length}
use Rattle.iv_exec_actions.proofs.effect.+push_key.Given as goal

abbrev pub decreases-push_key : goal.decreases-push_key
decreases-push_key l = length l.columns.now
