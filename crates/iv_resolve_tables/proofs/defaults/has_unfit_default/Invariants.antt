use Rattle.std.proofs.Common.{◌≡◌, drop, not}
use Rattle.std.specs.List.{list_any}
use Rattle.iv_resolution.specs.Constraints.{default_fits, written_columns}
use Rattle.iv_resolve_tables.proofs.defaults.has_unfit_default.Given as goal

abbrev pub invariant-loop-element : goal.invariant-loop-element
invariant-loop-element l =
    list_any (λ c. not (default_fits c)) (written_columns l.elements)
    ≡ list_any (λ c. not (default_fits c)) (written_columns (drop l.element-index l.elements))
