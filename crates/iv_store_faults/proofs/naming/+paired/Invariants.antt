use Rattle.std.proofs.Common.{length}
use Rattle.iv_store_faults.proofs.naming.+paired.Given as goal

abbrev pub decreases-paired : goal.decreases-paired
decreases-paired l = length l.key.now
