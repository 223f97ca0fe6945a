use Rattle.std.proofs.Common.{◌≡◌, ◌++◌, drop, map}
use Rattle.iv_dump.specs.Dumps.{rows_named}
use Rattle.iv_dump.specs.Types.{Table}
use Rattle.iv_dump.proofs.queries.rows_of_each.Given as goal

abbrev pub invariant-loop-table : goal.invariant-loop-table
invariant-loop-table g l =
    l.lists.items ++ map (λ (t : Table). rows_named (g.X.Executor.state l.database) t.name) (drop l.table-index l.tables)
    ≡ map (λ (t : Table). rows_named (g.X.Executor.state l.database) t.name) l.tables
