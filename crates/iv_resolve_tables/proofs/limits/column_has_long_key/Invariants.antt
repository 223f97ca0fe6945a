use Rattle.std.proofs.Common.{◌≡◌, drop, map}
use Rattle.std.specs.List.{list_any}
use Rattle.iv_resolution.specs.Constraints.{column_constraint}
use Rattle.iv_resolution.specs.Tables.{long_key}
use Rattle.iv_resolve_tables.proofs.limits.column_has_long_key.Given as goal

abbrev pub invariant-loop-constraint : goal.invariant-loop-constraint
invariant-loop-constraint l = list_any (λ k. long_key k.rule) (map (column_constraint l.fn.column) l.constraints) ≡ list_any (λ k. long_key k.rule) (map (column_constraint l.fn.column) (drop l.constraint-index l.constraints))
