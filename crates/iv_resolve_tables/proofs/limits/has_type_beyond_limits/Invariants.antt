use Rattle.std.proofs.Common.{◌≡◌, drop}
use Rattle.std.specs.List.{list_any}
use Rattle.iv_resolution.specs.Constraints.{written_columns}
use Rattle.iv_resolution.specs.Tables.{type_beyond_limits}
use Rattle.iv_resolve_tables.proofs.limits.has_type_beyond_limits.Given as goal

abbrev pub invariant-loop-element : goal.invariant-loop-element
invariant-loop-element l = list_any (λ c. type_beyond_limits c.kind) (written_columns l.elements) ≡ list_any (λ c. type_beyond_limits c.kind) (written_columns (drop l.element-index l.elements))
