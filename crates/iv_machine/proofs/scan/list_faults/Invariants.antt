use Rattle.std.proofs.Common.{◌≡◌, ◌++◌, drop}
use Rattle.iv_machine.specs.Databases.{scan, is_chosen}
use Rattle.iv_machine.proofs.Scans.{scan_from}
use Rattle.iv_machine.proofs.scan.list_faults.Given as goal

abbrev pub invariant-loop-constraint : goal.invariant-loop-constraint
invariant-loop-constraint l = record {
  at : l.id ≡ l.constraint-index;
  left : l.faults.items ++ scan_from l.fn.rows (is_chosen l.modes l.which) l.id (drop l.constraint-index l.constraints) ≡ scan l.fn.rows l.constraints (is_chosen l.modes l.which);
}
