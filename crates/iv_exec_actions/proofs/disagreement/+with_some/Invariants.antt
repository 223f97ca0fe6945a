use Rattle.std.proofs.Common.{length}
use Rattle.iv_exec_actions.proofs.disagreement.+with_some.Given as goal

abbrev pub decreases-with_some : goal.decreases-with_some
decreases-with_some l = length l.effects.now
