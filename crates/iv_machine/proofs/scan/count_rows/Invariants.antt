use Rattle.std.proofs.Common.{◌≡◌, ◌+◌, ◌≤◌, drop, length, filter}
use Rattle.iv_machine.specs.Databases.{violates}
use Rattle.iv_machine.proofs.scan.count_rows.Given as goal

abbrev pub invariant-loop-row : goal.invariant-loop-row
invariant-loop-row l = record {
  small : l.count ≤ l.row-index;
  left : l.count + length (filter (violates l.rows l.constraint) (drop l.row-index l.rows)) ≡ length (filter (violates l.rows l.constraint) l.rows);
}
