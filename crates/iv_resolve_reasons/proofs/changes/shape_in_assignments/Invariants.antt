use Rattle.std.proofs.Common.{◌≡◌, drop}
use Rattle.iv_resolve_scope.specs.Seen.{columns_seen, ranges_seen}
use Rattle.iv_resolution.specs.Items.{first_of}
use Rattle.iv_resolve_reasons.specs.Shapes.{shape_in_assignment}
use Rattle.iv_resolve_reasons.proofs.changes.shape_in_assignments.Given as goal

abbrev pub invariant-loop-assignment : goal.invariant-loop-assignment
invariant-loop-assignment l =
    first_of (shape_in_assignment l.fn.table (columns_seen l.fn.columns) (ranges_seen l.fn.ranges)) l.assignments
    ≡ first_of (shape_in_assignment l.fn.table (columns_seen l.fn.columns) (ranges_seen l.fn.ranges)) (drop l.assignment-index l.assignments)
