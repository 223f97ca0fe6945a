use Rattle.std.proofs.Common.{◌≡◌, ◌+◌, ◌-◌, ◌≤◌, ◌^◌, min, drop, length}
use Rattle.iv_machine.specs.Databases.{scan, is_chosen}
use Rattle.iv_machine.proofs.Scans.{scan_from}
use Rattle.iv_machine.proofs.scan.count_faults.Given as goal

abbrev pub invariant-loop-constraint : goal.invariant-loop-constraint
invariant-loop-constraint l = record {
  small : l.count ≤ 2 ^ 64 - 1;
  at : l.id ≡ l.constraint-index;
  left : min (l.count + length (scan_from l.fn.rows (is_chosen l.modes l.which) l.id (drop l.constraint-index l.constraints))) (2 ^ 64 - 1)
      ≡ min (length (scan l.fn.rows l.constraints (is_chosen l.modes l.which))) (2 ^ 64 - 1);
}
