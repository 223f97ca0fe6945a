use Rattle.std.proofs.Common.{length}
use Rattle.iv_machine.specs.Machine.{State}
use Rattle.iv_restore.specs.Restoring.{AllAccepted}
use Rattle.iv_restore.proofs.running.run_statements.Given as goal

abbrev pub invariant-loop-statement : goal.invariant-loop-statement
invariant-loop-statement g l = (end : State) → AllAccepted (g.X.Executor.state l.database) l.rest end
    → AllAccepted (g.X.Executor.state l.initial.database) l.statements end

abbrev pub decreases-loop-statement : goal.decreases-loop-statement
decreases-loop-statement g l = length l.rest
