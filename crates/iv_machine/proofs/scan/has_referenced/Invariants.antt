use Rattle.std.proofs.Common.{◌≡◌, drop}
use Rattle.iv_key.specs.Keys.{key_of}
use Rattle.iv_machine.specs.Databases.{has_referenced}
use Rattle.iv_machine.proofs.scan.has_referenced.Given as goal

abbrev pub invariant-loop-other : goal.invariant-loop-other
invariant-loop-other l = has_referenced (drop l.other-index l.rows) l.reference (key_of l.reference.columns l.row) ≡ has_referenced l.rows l.reference (key_of l.reference.columns l.row)
