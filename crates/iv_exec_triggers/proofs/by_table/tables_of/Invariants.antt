use Rattle.std.proofs.Common.{ℕ, ◌≤◌, drop}
use Rattle.iv_exec_triggers.specs.ByTable.{OfTablesBelow}
use Rattle.iv_exec_triggers.proofs.by_table.tables_of.Given as goal

abbrev pub invariant-loop-change : goal.invariant-loop-change
invariant-loop-change l = record {
  few : l.tables ≤ 4294967296;
  within : (more : ℕ) → l.tables ≤ more → OfTablesBelow more (drop l.change-index l.changes) → OfTablesBelow more l.changes;
}
