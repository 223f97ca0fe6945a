-- The types that the definitions here share, and their variants.
pub use Rattle.iv_expr.specs.declared.row.StoredRow.{StoredRow}
pub use Rattle.iv_expr.specs.declared.row.Change.{Change}
pub use Rattle.iv_expr.specs.declared.tree.Expr.{Expr}
pub use Rattle.iv_expr.specs.declared.tree.Cond.{Cond}
pub use Rattle.iv_expr.specs.declared.tree.ExprFault.{ExprFault}
pub use Rattle.iv_expr.specs.declared.tree.ExprFault.TheVariants as expr_fault
pub use Rattle.iv_syntax.specs.declared.statement.Statement.{Statement}
pub use Rattle.iv_syntax.specs.declared.trigger.TriggerEvent.{TriggerEvent}
pub use Rattle.iv_catalogue.specs.declared.catalogue.Table.{Table}
pub use Rattle.iv_catalogue.specs.declared.cause.Cause.{Cause}
pub use Rattle.iv_catalogue.specs.declared.cause.Cause.TheVariants as cause
pub use Rattle.iv_catalogue.specs.declared.cause.Fault.{Fault}
pub use Rattle.iv_catalogue.specs.declared.cause.Refusal.{Refusal}
pub use Rattle.iv_catalogue.specs.declared.constraint.Constraint.{Constraint}
pub use Rattle.iv_catalogue.specs.declared.constraint.Rule.TheVariants as rule
pub use Rattle.iv_catalogue.specs.declared.plan.BodyStatement.{BodyStatement}
pub use Rattle.iv_catalogue.specs.declared.plan.BodyStatement.TheVariants as body
pub use Rattle.iv_catalogue.specs.declared.plan.DataStatement.{DataStatement}
pub use Rattle.iv_catalogue.specs.declared.plan.Plan.{Plan}
pub use Rattle.iv_catalogue.specs.declared.plan.Plan.TheVariants as plan
pub use Rattle.iv_catalogue.specs.declared.plan.QueryPlan.{QueryPlan}
pub use Rattle.iv_catalogue.specs.declared.plan.SchemaPlan.TheVariants as schema
pub use Rattle.iv_catalogue.specs.declared.plan.Trigger.{Trigger}
pub use Rattle.iv_machine.specs.declared.database.Database.{Database}
