use Rattle.std.proofs.Common.{length}
use Rattle.iv_exec_actions.proofs.disagreement.+disagreement_among.Given as goal

abbrev pub decreases-disagreement_among : goal.decreases-disagreement_among
decreases-disagreement_among l = length l.effects.now
