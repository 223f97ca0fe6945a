use Rattle.std.proofs.Common.{◌≡◌, drop, find}
use Rattle.iv_resolution.specs.Constraints.{written_constraints, written_keys}
use Rattle.iv_resolve_scope.specs.Seen.{columns_seen}
use Rattle.iv_resolve_tables.specs.Keys.{is_sought}
use Rattle.iv_resolve_tables.proofs.finding.key_of_elements.Given as goal

abbrev pub invariant-loop-element : goal.invariant-loop-element
invariant-loop-element l =
    find (is_sought l.fn.sought) (written_keys (columns_seen l.fn.columns) (written_constraints l.elements))
    ≡ find (is_sought l.fn.sought) (written_keys (columns_seen l.fn.columns) (written_constraints (drop l.element-index l.elements)))
