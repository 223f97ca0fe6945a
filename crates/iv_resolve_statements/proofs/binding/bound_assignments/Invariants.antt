use Rattle.std.proofs.Common.{◌≡◌, ◌++◌, drop, map}
use Rattle.iv_resolution.specs.Bound.{bound_assignment}
use Rattle.iv_resolve_scope.specs.Seen.{ranges_seen}
use Rattle.iv_resolve_statements.proofs.binding.bound_assignments.Given as goal

abbrev pub invariant-loop-assignment : goal.invariant-loop-assignment
invariant-loop-assignment l =
    l.settings ++ map (bound_assignment l.fn.columns (ranges_seen l.fn.ranges)) (drop l.assignment-index l.assignments)
    ≡ map (bound_assignment l.fn.columns (ranges_seen l.fn.ranges)) l.assignments
