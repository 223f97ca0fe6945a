use Rattle.std.proofs.Common.{length}
use Rattle.iv_exec_context.proofs.failures.values.+in_list.Given as goal

abbrev pub decreases-in_list : goal.decreases-in_list
decreases-in_list g l = length l.columns.now
