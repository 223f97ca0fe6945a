-- The columns that an INSERT has values for, as the code holds them.
use Rattle.std.specs.Prelude.{List, Option, Some, None}
use Rattle.iv_syntax.specs.declared.table.ColumnType.{ColumnType}
use Rattle.iv_resolution.specs.Scopes.{named_columns}
use Rattle.iv_resolution.specs.Changes.{target_types}
use Rattle.iv_resolve_statements.specs.declared.targets.Targets.{Targets}
use Rattle.iv_resolve_statements.specs.declared.targets.Targets.TheVariants.{All, Listed}

unfoldable pub targets_seen : Targets → List (Option ColumnType)
targets_seen (All columns) = target_types (named_columns columns.now) None
targets_seen (Listed columns names) = target_types (named_columns columns.now) (Some names.now)
