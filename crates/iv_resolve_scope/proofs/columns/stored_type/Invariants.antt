use Rattle.std.proofs.Common.{◌≡◌, drop}
use Rattle.iv_resolution.specs.Scopes.{named_columns}
use Rattle.iv_resolution.specs.Scopes.{type_named}
use Rattle.iv_resolve_scope.proofs.columns.stored_type.Given as goal

abbrev pub invariant-loop-column : goal.invariant-loop-column
invariant-loop-column l = type_named (named_columns l.columns) l.fn.name ≡ type_named (named_columns (drop l.column-index l.columns)) l.fn.name
