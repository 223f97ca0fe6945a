use Rattle.std.proofs.Common.{◌≡◌, ◌++◌, drop}
use Rattle.iv_resolution.specs.Constraints.{defined_columns}
use Rattle.iv_resolve_scope.proofs.column_index.columns_of.Given as goal

abbrev pub invariant-loop-element : goal.invariant-loop-element
invariant-loop-element l = l.columns.items ++ defined_columns (drop l.element-index l.elements) ≡ defined_columns l.elements
