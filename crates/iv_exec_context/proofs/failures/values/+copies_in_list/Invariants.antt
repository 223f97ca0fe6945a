use Rattle.std.proofs.Common.{length}
use Rattle.iv_exec_context.proofs.failures.values.+copies_in_list.Given as goal

abbrev pub decreases-copies_in_list : goal.decreases-copies_in_list
decreases-copies_in_list l = length l.columns.now
