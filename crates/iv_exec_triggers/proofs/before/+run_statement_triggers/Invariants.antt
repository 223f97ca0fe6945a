use Rattle.std.proofs.Common.{length}
use Rattle.iv_exec_triggers.proofs.before.+run_statement_triggers.Given as goal

abbrev pub decreases-run_statement_triggers : goal.decreases-run_statement_triggers
decreases-run_statement_triggers g l = length l.triggers.now
