use Rattle.std.proofs.Common.{length}
use Rattle.iv_exec_context.proofs.failures.values.+in_settings.Given as goal

abbrev pub decreases-in_settings : goal.decreases-in_settings
decreases-in_settings g l = length l.settings.now
