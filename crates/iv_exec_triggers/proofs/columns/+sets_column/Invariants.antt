use Rattle.std.proofs.Common.{length}
use Rattle.iv_exec_triggers.proofs.columns.+sets_column.Given as goal

abbrev pub decreases-sets_column : goal.decreases-sets_column
decreases-sets_column l = length l.settings.now
