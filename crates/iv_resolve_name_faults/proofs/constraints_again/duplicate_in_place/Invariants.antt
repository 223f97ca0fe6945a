use Rattle.std.proofs.Common.{◌≡◌, ◌≤◌, ◌+◌, ◌-◌, [], drop, length, take}
use Rattle.iv_resolution.specs.Constraints.{written_constraints}
use Rattle.iv_resolution.specs.NameFaults.{duplicate_in_constraints}
use Rattle.iv_resolve_tables.specs.Unread.{left_seen}
use Rattle.iv_resolve_name_faults.specs.Places.{constraint_names}
use Rattle.iv_resolve_name_faults.proofs.constraints_again.duplicate_in_place.Given as goal

abbrev pub invariant-loop-constraint : goal.invariant-loop-constraint
invariant-loop-constraint l = record {
  first : 1 ≤ l.place;
  places : l.place + length (left_seen l.left) ≡ 1 + l.count;
  rest : left_seen l.left ≡ drop (l.place - 1) (written_constraints l.elements);
  same : duplicate_in_constraints l.fn.catalogue l.fn.table 1 [] (written_constraints l.elements)
      ≡ duplicate_in_constraints l.fn.catalogue l.fn.table l.place (constraint_names l.fn.table 1 (take (l.place - 1) (written_constraints l.elements))) (left_seen l.left);
}

abbrev pub decreases-loop-constraint : goal.decreases-loop-constraint
decreases-loop-constraint l = length (left_seen l.left)
