use Rattle.std.proofs.Common.{length}
use Rattle.iv_exec_actions.proofs.disagreement.+other_value.Given as goal

abbrev pub decreases-other_value : goal.decreases-other_value
decreases-other_value l = length l.pairs.now
