use Rattle.std.proofs.Common.{◌≡◌, ◌≤◌, ◌-◌, drop, slice_get}
use Rattle.iv_resolution.specs.Constraints.{defined_columns}
use Rattle.iv_resolve_scope.proofs.columns.defined_type_at.Given as goal

abbrev pub invariant-loop-element : goal.invariant-loop-element
invariant-loop-element l = record {
  small : l.before ≤ l.element-index;
  passed : l.before ≤ l.fn.place;
  same : slice_get (defined_columns l.elements) l.fn.place ≡ slice_get (defined_columns (drop l.element-index l.elements)) (l.fn.place - l.before);
}
