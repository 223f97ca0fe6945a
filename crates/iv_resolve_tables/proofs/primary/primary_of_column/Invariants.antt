use Rattle.std.proofs.Common.{◌≡◌, ◌≤◌, ◌+◌, drop, filter, length, map, min}
use Rattle.iv_resolution.specs.Constraints.{column_constraint}
use Rattle.iv_resolution.specs.Tables.{is_primary_rule}
use Rattle.iv_resolve_tables.proofs.primary.primary_of_column.Given as goal

abbrev pub invariant-loop-constraint : goal.invariant-loop-constraint
invariant-loop-constraint l = record {
  few : l.count ≤ 2;
  all : min 2 (l.count + length (filter (λ k. is_primary_rule k.rule) (map (column_constraint l.fn.column) (drop l.constraint-index l.constraints))))
      ≡ min 2 (length (filter (λ k. is_primary_rule k.rule) (map (column_constraint l.fn.column) l.constraints)));
}
