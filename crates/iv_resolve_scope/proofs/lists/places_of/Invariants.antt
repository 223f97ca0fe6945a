use Rattle.std.proofs.Common.{◌≡◌, ◌++◌, drop}
use Rattle.iv_resolution.specs.Constraints.{places_of}
use Rattle.iv_resolve_scope.specs.Seen.{columns_seen}
use Rattle.iv_resolve_scope.proofs.lists.places_of.Given as goal

abbrev pub invariant-loop-name : goal.invariant-loop-name
invariant-loop-name l = l.places ++ places_of (columns_seen l.fn.columns) (drop l.name-index l.names) ≡ places_of (columns_seen l.fn.columns) l.names
