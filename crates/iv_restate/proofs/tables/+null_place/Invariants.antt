use Rattle.std.proofs.Common.{length}
use Rattle.iv_restate.proofs.tables.+null_place.Given as goal

abbrev pub decreases-null_place : goal.decreases-null_place
decreases-null_place l = length l.constraints.now
