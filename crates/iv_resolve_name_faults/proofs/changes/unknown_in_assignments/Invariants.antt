use Rattle.std.proofs.Common.{◌≡◌, drop}
use Rattle.iv_resolve_scope.specs.Seen.{columns_seen, ranges_seen}
use Rattle.iv_resolution.specs.Items.{first_of}
use Rattle.iv_resolution.specs.NameFaults.{unknown_in_assignment}
use Rattle.iv_resolve_name_faults.proofs.changes.unknown_in_assignments.Given as goal

abbrev pub invariant-loop-assignment : goal.invariant-loop-assignment
invariant-loop-assignment l = first_of (unknown_in_assignment (columns_seen l.fn.columns) (ranges_seen l.fn.ranges)) l.assignments ≡ first_of (unknown_in_assignment (columns_seen l.fn.columns) (ranges_seen l.fn.ranges)) (drop l.assignment-index l.assignments)
