use Rattle.std.proofs.Common.{◌<◌, ℕ}
use Rattle.iv_restore.specs.Restoring.{HaveSameRows}
use Rattle.iv_restore.proofs.comparing.are_tables_same.Given as goal

abbrev pub invariant-loop-place : goal.invariant-loop-place
invariant-loop-place g l = (table : ℕ) → table < l.place → HaveSameRows (g.X.Executor.state l.left) (g.X.Executor.state l.right) table
