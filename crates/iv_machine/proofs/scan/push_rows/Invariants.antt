use Rattle.std.proofs.Common.{◌≡◌, ◌++◌, drop, map, filter}
use Rattle.iv_machine.specs.Databases.{violates, violations, fault_at}
use Rattle.iv_machine.proofs.scan.push_rows.Given as goal

abbrev pub invariant-loop-row : goal.invariant-loop-row
invariant-loop-row l =
    l.faults.items ++ map (fault_at l.id) (filter (violates l.rows l.constraint) (drop l.row-index l.rows)) ≡ l.initial.faults.items ++ violations l.rows l.id l.constraint
