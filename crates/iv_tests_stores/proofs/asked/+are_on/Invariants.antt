use Rattle.std.proofs.Common.{length}
use Rattle.iv_tests_stores.proofs.asked.+are_on.Given as goal

abbrev pub decreases-are_on : goal.decreases-are_on
decreases-are_on l = length l.constraints.now
