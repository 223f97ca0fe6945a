-- The types that the definitions here share, and their variants.
pub use Rattle.iv_value.specs.declared.value.Value.{Value}
pub use Rattle.iv_expr.specs.declared.row.StoredRow.{StoredRow}
pub use Rattle.iv_expr.specs.declared.row.Change.{Change}
pub use Rattle.iv_expr.specs.declared.wave.TableColumn.{TableColumn}
pub use Rattle.iv_expr.specs.declared.tree.Cond.{Cond}
pub use Rattle.iv_syntax.specs.declared.table.ReferentialAction.{ReferentialAction}
pub use Rattle.iv_syntax.specs.declared.table.ReferentialAction.TheVariants as referential_action
pub use Rattle.iv_catalogue.specs.declared.cause.Cause.TheVariants as cause
pub use Rattle.iv_catalogue.specs.declared.cause.Fault.{Fault}
pub use Rattle.iv_catalogue.specs.declared.constraint.Constraint.{Constraint}
pub use Rattle.iv_catalogue.specs.declared.constraint.ForeignKey.{ForeignKey}
pub use Rattle.iv_catalogue.specs.declared.constraint.Rule.{Rule}
pub use Rattle.iv_catalogue.specs.declared.constraint.Rule.TheVariants as rule
pub use Rattle.iv_catalogue.specs.declared.plan.BodyStatement.{BodyStatement}
pub use Rattle.iv_catalogue.specs.declared.plan.BodyStatement.TheVariants as body
pub use Rattle.iv_catalogue.specs.declared.plan.DataStatement.{DataStatement}
pub use Rattle.iv_catalogue.specs.declared.plan.DataStatement.TheVariants as data_statement
pub use Rattle.iv_catalogue.specs.declared.plan.Plan.{Plan}
pub use Rattle.iv_catalogue.specs.declared.plan.Plan.TheVariants as plan
pub use Rattle.iv_catalogue.specs.declared.plan.SchemaPlan.{SchemaPlan}
pub use Rattle.iv_catalogue.specs.declared.plan.SchemaPlan.TheVariants as schema
pub use Rattle.iv_machine.specs.declared.database.Database.{Database}
pub use Rattle.iv_machine.specs.declared.database.Which.TheVariants as which
pub use Rattle.iv_machine.specs.declared.effect.Effect.{Effect}
