use Rattle.std.proofs.Common.{◌≡◌, ◌≤◌, ◌+◌, length}
use Rattle.iv_program.proofs.Executed.{Onward}
use Rattle.iv_program.proofs.dumping.execute_all.Given as goal

abbrev pub invariant-loop-statement : goal.invariant-loop-statement
invariant-loop-statement g l = record {
  counted : l.number + length l.rest ≡ length l.statements;
  few : l.refused ≤ l.number;
  onward : Onward (g.X.Executor.state l.initial.database) (g.X.Executor.state l.database) l.statements l.rest l.refused;
}

abbrev pub decreases-loop-statement : goal.decreases-loop-statement
decreases-loop-statement g l = length l.rest
