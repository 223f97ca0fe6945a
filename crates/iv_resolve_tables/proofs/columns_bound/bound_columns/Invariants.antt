use Rattle.std.proofs.Common.{◌≡◌, ◌++◌, drop, map}
use Rattle.iv_resolution.specs.Bound.{bound_column_definition}
use Rattle.iv_resolution.specs.Constraints.{written_columns}
use Rattle.iv_resolve_tables.proofs.columns_bound.bound_columns.Given as goal

abbrev pub invariant-loop-element : goal.invariant-loop-element
invariant-loop-element l = l.columns ++ map bound_column_definition (written_columns (drop l.element-index l.elements)) ≡ map bound_column_definition (written_columns l.elements)
