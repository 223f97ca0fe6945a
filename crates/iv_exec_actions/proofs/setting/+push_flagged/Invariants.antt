use Rattle.std.proofs.Common.{length}
use Rattle.iv_exec_actions.proofs.setting.+push_flagged.Given as goal

abbrev pub decreases-push_flagged : goal.decreases-push_flagged
decreases-push_flagged l = length l.affected_keys.now
