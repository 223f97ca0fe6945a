use Rattle.std.proofs.Common.{◌≡◌, ◌≤◌, ◌+◌, length, drop}
use Rattle.iv_resolution.specs.Constraints.{defined_columns}
use Rattle.iv_resolve_scope.proofs.columns.count_defined.Given as goal

abbrev pub invariant-loop-element : goal.invariant-loop-element
invariant-loop-element l = record {
  small : l.count ≤ l.element-index;
  all : l.count + length (defined_columns (drop l.element-index l.elements)) ≡ length (defined_columns l.elements);
}
