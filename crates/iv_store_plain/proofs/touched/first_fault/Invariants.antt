use Rattle.std.proofs.Common.{◌≡◌, drop}
use Rattle.iv_machine.specs.Databases.{first, scan, is_chosen}
use Rattle.iv_machine.proofs.Scans.{scan_from}
use Rattle.iv_store_plain.specs.Suspects.{Clean}
use Rattle.iv_store_plain.proofs.touched.first_fault.Given as goal

abbrev pub invariant-loop-constraint : goal.invariant-loop-constraint
invariant-loop-constraint l = record {
  at : l.id ≡ l.constraint-index;
  left : first (scan_from l.rows (is_chosen l.modes l.which) l.id (drop l.constraint-index l.constraints)) ≡ first (scan l.rows l.constraints (is_chosen l.modes l.which));
  clean : Clean l.touched l.rows (drop l.constraint-index l.constraints);
}
