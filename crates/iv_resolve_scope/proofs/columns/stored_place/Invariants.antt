use Rattle.std.proofs.Common.{◌≡◌, ◌≤◌, ◌+◌, drop, option_map}
use Rattle.std.specs.Prelude.{position}
use Rattle.std.specs.Str.{bytes_eq}
use Rattle.iv_resolution.specs.Scopes.{named_columns}
use Rattle.iv_resolve_scope.proofs.columns.stored_place.Given as goal

abbrev pub invariant-loop-column : goal.invariant-loop-column
invariant-loop-column l = record {
  small : l.place ≤ l.column-index;
  same : position (λ c. bytes_eq l.fn.name c.name) (named_columns l.columns)
      ≡ option_map (λ p. p + l.place) (position (λ c. bytes_eq l.fn.name c.name) (named_columns (drop l.column-index l.columns)));
}
