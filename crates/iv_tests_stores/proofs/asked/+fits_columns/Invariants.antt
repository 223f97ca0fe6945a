use Rattle.std.proofs.Common.{length}
use Rattle.iv_tests_stores.proofs.asked.+fits_columns.Given as goal

abbrev pub decreases-fits_columns : goal.decreases-fits_columns
decreases-fits_columns l = length l.columns.now
