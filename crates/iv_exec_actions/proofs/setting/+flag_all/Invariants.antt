use Rattle.std.proofs.Common.{length}
use Rattle.iv_exec_actions.proofs.setting.+flag_all.Given as goal

abbrev pub decreases-flag_all : goal.decreases-flag_all
decreases-flag_all l = length l.effects.now
