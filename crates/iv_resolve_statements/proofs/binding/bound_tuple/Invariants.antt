use Rattle.std.proofs.Common.{◌≡◌, ◌++◌, drop, map}
use Rattle.std.specs.List.{enumerate_from}
use Rattle.iv_resolution.specs.Bound.{bound_value, target_place, bound_tuple}
use Rattle.iv_resolution.specs.Scopes.{named_columns}
use Rattle.iv_resolve_scope.specs.Seen.{ranges_seen}
use Rattle.iv_resolve_statements.proofs.binding.bound_tuple.Given as goal

abbrev pub invariant-loop-value : goal.invariant-loop-value
invariant-loop-value l = record {
  place : l.at ≡ l.value-index;
  same : l.values ++ map (λ p. bound_value l.fn.columns (ranges_seen l.fn.ranges) (target_place (named_columns l.fn.columns) l.fn.names p.0) p.1) (enumerate_from l.at (drop l.value-index l.tuple))
      ≡ bound_tuple l.fn.columns l.fn.names (ranges_seen l.fn.ranges) l.tuple;
}
