use Rattle.std.proofs.Common.{List, length}
use Rattle.iv_resolution.specs.Constraints.{written_constraints}
use Rattle.iv_resolution.specs.Scopes.{NamedColumn}
use Rattle.iv_resolve_tables.specs.KeySets.{GainsOf, some_reliable}
use Rattle.iv_resolve_tables.specs.Unread.{left_seen}
use Rattle.iv_resolve_tables.proofs.key_sets.add_keys.Given as goal

abbrev pub invariant-loop-constraint : goal.invariant-loop-constraint
invariant-loop-constraint l =
    (columns : List NamedColumn) → GainsOf l.initial.sets l.sets (some_reliable columns (written_constraints l.elements)) (some_reliable columns (left_seen l.left))

abbrev pub decreases-loop-constraint : goal.decreases-loop-constraint
decreases-loop-constraint l = length (left_seen l.left)
