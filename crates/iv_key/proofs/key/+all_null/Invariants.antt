use Rattle.std.proofs.Common.{length}
use Rattle.iv_key.proofs.key.+all_null.Given as goal

-- what is left of the columns
abbrev pub decreases-all_null : goal.decreases-all_null
decreases-all_null l = length l.columns.now
