use Rattle.std.proofs.Common.{◌≡◌, drop}
use Rattle.iv_resolution.specs.Constraints.{written_columns}
use Rattle.iv_resolution.specs.Items.{first_of}
use Rattle.iv_resolve_reasons.specs.Limits.{limit_of_type}
use Rattle.iv_resolve_reasons.proofs.limits.limit_of_types.Given as goal

abbrev pub invariant-loop-element : goal.invariant-loop-element
invariant-loop-element l =
    first_of (λ c. limit_of_type c.name c.kind) (written_columns l.elements) ≡ first_of (λ c. limit_of_type c.name c.kind) (written_columns (drop l.element-index l.elements))
