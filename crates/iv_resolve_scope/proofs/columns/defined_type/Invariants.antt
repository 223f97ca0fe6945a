use Rattle.std.proofs.Common.{◌≡◌, drop}
use Rattle.iv_resolution.specs.Constraints.{defined_columns}
use Rattle.iv_resolution.specs.Scopes.{type_named}
use Rattle.iv_resolve_scope.proofs.columns.defined_type.Given as goal

abbrev pub invariant-loop-element : goal.invariant-loop-element
invariant-loop-element l = type_named (defined_columns l.elements) l.fn.name ≡ type_named (defined_columns (drop l.element-index l.elements)) l.fn.name
