use Rattle.std.proofs.Common.{◌≡◌, ◌++◌, drop, map}
use Rattle.iv_resolution.specs.Bound.{bound_tuple}
use Rattle.iv_resolve_scope.specs.Seen.{ranges_seen}
use Rattle.iv_resolve_statements.proofs.binding.bound_tuples.Given as goal

abbrev pub invariant-loop-tuple : goal.invariant-loop-tuple
invariant-loop-tuple l =
    l.rows ++ map (bound_tuple l.fn.columns l.fn.names (ranges_seen l.fn.ranges)) (drop l.tuple-index l.tuples)
    ≡ map (bound_tuple l.fn.columns l.fn.names (ranges_seen l.fn.ranges)) l.tuples
