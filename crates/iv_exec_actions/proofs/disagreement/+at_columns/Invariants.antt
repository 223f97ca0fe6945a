use Rattle.std.proofs.Common.{length}
use Rattle.iv_exec_actions.proofs.disagreement.+at_columns.Given as goal

abbrev pub decreases-at_columns : goal.decreases-at_columns
decreases-at_columns l = length l.pairs.now
