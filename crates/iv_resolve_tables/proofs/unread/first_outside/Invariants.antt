use Rattle.std.proofs.Common.{◌≡◌, ◌≤◌, length}
use Rattle.iv_resolution.specs.Constraints.{written_constraints}
use Rattle.iv_resolve_tables.proofs.unread.first_outside.Given as goal

abbrev pub invariant-loop-element : goal.invariant-loop-element
invariant-loop-element l = record {
  written : written_constraints l.rest ≡ written_constraints l.elements;
  fewer : length l.rest ≤ length l.elements;
}

abbrev pub decreases-loop-element : goal.decreases-loop-element
decreases-loop-element l = length l.rest
