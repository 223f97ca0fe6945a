use Rattle.iv_program.proofs.Executed.{executes_rollback}
use Rattle.iv_program.proofs.dumping.roll_back.Goals as goal

pub returns-clause-state : goal.returns-clause-state
returns-clause-state g c =
    executes_rollback (g.X.Executor.state c.args.database.now) (g.X.Executor.state c.execute.new.self) c.execute.result c.execute.ensures.step c.execute.ensures.sure
