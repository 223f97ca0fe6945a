use Rattle.std.proofs.Common.{length}
use Rattle.iv_key.proofs.key.+none_null.Given as goal

-- what is left of the columns
abbrev pub decreases-none_null : goal.decreases-none_null
decreases-none_null l = length l.columns.now
