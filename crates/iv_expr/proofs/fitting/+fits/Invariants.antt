use Rattle.std.proofs.Common.{length}
use Rattle.iv_expr.proofs.fitting.+fits.Given as goal

abbrev pub decreases-fits : goal.decreases-fits
decreases-fits l = length l.kinds.now
