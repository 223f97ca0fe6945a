-- The types that the definitions here share, and their variants.
pub use Rattle.iv_value.specs.declared.value.Value.{Value}
pub use Rattle.iv_expr.specs.declared.row.StoredRow.{StoredRow}
pub use Rattle.iv_expr.specs.declared.row.Change.{Change}
pub use Rattle.iv_expr.specs.declared.wave.TableColumn.{TableColumn}
pub use Rattle.iv_syntax.specs.declared.trigger.TriggerEvent.{TriggerEvent}
pub use Rattle.iv_catalogue.specs.declared.catalogue.Table.{Table}
pub use Rattle.iv_catalogue.specs.declared.cause.Cause.{Cause}
pub use Rattle.iv_catalogue.specs.declared.cause.Cause.TheVariants as cause
pub use Rattle.iv_catalogue.specs.declared.cause.Refusal.{Refusal}
pub use Rattle.iv_catalogue.specs.declared.plan.BodyStatement.{BodyStatement}
pub use Rattle.iv_catalogue.specs.declared.plan.BodyStatement.TheVariants as body
pub use Rattle.iv_catalogue.specs.declared.plan.DataStatement.{DataStatement}
pub use Rattle.iv_catalogue.specs.declared.plan.Trigger.{Trigger}
pub use Rattle.iv_machine.specs.declared.database.Database.{Database}
