use Rattle.std.proofs.Common.{◌≡◌, length, take}
use Rattle.iv_dump.specs.Making.{Makes}
use Rattle.iv_dump.proofs.parts.push_tables.Given as goal

abbrev pub invariant-loop-rows : goal.invariant-loop-rows
invariant-loop-rows l = record {
  at : l.place ≡ l.rows-index;
  made : length l.lists ≡ length l.tables → Makes l.tables l.initial.scripts l.scripts (take l.rows-index l.tables) (take l.rows-index l.lists) l.fn.constraints l.left;
}
