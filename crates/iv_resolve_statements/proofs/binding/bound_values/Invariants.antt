use Rattle.std.proofs.Common.{◌≡◌, ◌++◌, drop, map}
use Rattle.iv_resolution.specs.Terms.{bound_expression}
use Rattle.iv_resolve_scope.specs.Seen.{ranges_seen}
use Rattle.iv_resolve_statements.proofs.binding.bound_values.Given as goal

abbrev pub invariant-loop-value : goal.invariant-loop-value
invariant-loop-value l =
    l.bound ++ map (bound_expression (ranges_seen l.fn.ranges)) (drop l.value-index l.values) ≡ map (bound_expression (ranges_seen l.fn.ranges)) l.values
