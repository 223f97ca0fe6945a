use Rattle.std.proofs.Common.{◌≡◌, ◌+◌, length}
use Rattle.iv_resolution.specs.Constraints.{written_constraints}
use Rattle.iv_resolution.specs.NameFaults.{duplicate_in_constraints}
use Rattle.iv_resolve_tables.specs.Unread.{left_seen}
use Rattle.iv_resolve_name_faults.proofs.constraints_again.duplicate_after.Given as goal

abbrev pub invariant-loop-constraint : goal.invariant-loop-constraint
invariant-loop-constraint l = record {
  places : l.place + length (left_seen l.left) ≡ 1 + l.count;
  same : duplicate_in_constraints l.fn.catalogue l.fn.table 1 l.initial.names (written_constraints l.elements)
      ≡ duplicate_in_constraints l.fn.catalogue l.fn.table l.place l.names (left_seen l.left);
}

abbrev pub decreases-loop-constraint : goal.decreases-loop-constraint
decreases-loop-constraint l = length (left_seen l.left)
