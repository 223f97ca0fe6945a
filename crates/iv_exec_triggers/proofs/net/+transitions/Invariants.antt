use Rattle.std.proofs.Common.{length}
use Rattle.iv_exec_triggers.proofs.net.+transitions.Given as goal

abbrev pub decreases-transitions : goal.decreases-transitions
decreases-transitions l = length l.waves.now
