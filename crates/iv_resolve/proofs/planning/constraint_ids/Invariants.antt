use Rattle.std.proofs.Common.{◌≡◌, ◌++◌, drop, map}
use Rattle.iv_resolution.specs.Bound.{constraint_id}
use Rattle.iv_resolve.proofs.planning.constraint_ids.Given as goal

abbrev pub invariant-loop-name : goal.invariant-loop-name
invariant-loop-name l = l.ids ++ map (constraint_id l.fn.catalogue) (drop l.name-index l.names) ≡ map (constraint_id l.fn.catalogue) l.names
