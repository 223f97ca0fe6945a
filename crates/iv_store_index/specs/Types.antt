-- The types that the definitions here share.
pub use Rattle.iv_value.specs.declared.value.Value.{Value}
pub use Rattle.iv_expr.specs.declared.row.StoredRow.{StoredRow}
pub use Rattle.iv_expr.specs.declared.row.Change.{Change}
pub use Rattle.iv_catalogue.specs.declared.catalogue.Table.{Table}
pub use Rattle.iv_catalogue.specs.declared.constraint.Constraint.{Constraint}
