use Rattle.std.proofs.Common.{◌≡◌, ◌*◌, length, take, drop}
use Rattle.iv_exec_triggers.specs.ByTable.{ByTableAndEvent, OfTablesBelow}
use Rattle.iv_exec_triggers.proofs.by_table.fill.Given as goal

abbrev pub invariant-loop-change : goal.invariant-loop-change
invariant-loop-change l = record {
  same : length l.parts ≡ 3 * l.tables;
  parted : ByTableAndEvent l.parts (take l.change-index l.changes);
  tables : OfTablesBelow l.tables (drop l.change-index l.changes);
}
