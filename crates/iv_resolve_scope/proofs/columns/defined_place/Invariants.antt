use Rattle.std.proofs.Common.{◌≡◌, ◌≤◌, ◌+◌, drop, option_map}
use Rattle.std.specs.Prelude.{position}
use Rattle.std.specs.Str.{bytes_eq}
use Rattle.iv_resolution.specs.Constraints.{defined_columns}
use Rattle.iv_resolve_scope.proofs.columns.defined_place.Given as goal

abbrev pub invariant-loop-element : goal.invariant-loop-element
invariant-loop-element l = record {
  small : l.place ≤ l.element-index;
  same : position (λ c. bytes_eq l.fn.name c.name) (defined_columns l.elements)
      ≡ option_map (λ p. p + l.place) (position (λ c. bytes_eq l.fn.name c.name) (defined_columns (drop l.element-index l.elements)));
}
