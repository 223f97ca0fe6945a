use Rattle.std.proofs.Common.{◌≡◌, drop}
use Rattle.std.specs.List.{list_any}
use Rattle.iv_resolution.specs.Constraints.{written_constraints}
use Rattle.iv_resolution.specs.Tables.{long_key}
use Rattle.iv_resolve_tables.proofs.limits.has_long_key.Given as goal

abbrev pub invariant-loop-element : goal.invariant-loop-element
invariant-loop-element l = list_any (λ k. long_key k.rule) (written_constraints l.elements) ≡ list_any (λ k. long_key k.rule) (written_constraints (drop l.element-index l.elements))
