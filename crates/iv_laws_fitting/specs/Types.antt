-- The types that the definitions here share, and their variants.
pub use Rattle.iv_value.specs.declared.value.Kind.{Kind}
pub use Rattle.iv_value.specs.declared.value.Kind.TheVariants as kind
pub use Rattle.iv_expr.specs.declared.tree.Expr.{Expr}
pub use Rattle.iv_expr.specs.declared.tree.Range.{Range}
pub use Rattle.iv_expr.specs.declared.tree.Range.TheVariants as range
pub use Rattle.iv_syntax.specs.declared.statement.Statement.{Statement}
pub use Rattle.iv_syntax.specs.declared.trigger.Granularity.{Granularity}
pub use Rattle.iv_syntax.specs.declared.trigger.Granularity.TheVariants as granularity
pub use Rattle.iv_syntax.specs.declared.trigger.TriggerEvent.{TriggerEvent}
pub use Rattle.iv_syntax.specs.declared.trigger.TriggerEvent.TheVariants as event
pub use Rattle.iv_catalogue.specs.declared.catalogue.Column.{Column}
pub use Rattle.iv_catalogue.specs.declared.catalogue.Table.{Table}
pub use Rattle.iv_catalogue.specs.declared.cause.Cause.{Cause}
pub use Rattle.iv_catalogue.specs.declared.cause.Cause.TheVariants as cause
pub use Rattle.iv_catalogue.specs.declared.constraint.Constraint.{Constraint}
pub use Rattle.iv_catalogue.specs.declared.constraint.ForeignKey.{ForeignKey}
pub use Rattle.iv_catalogue.specs.declared.constraint.Rule.{Rule}
pub use Rattle.iv_catalogue.specs.declared.constraint.Rule.TheVariants as rule
pub use Rattle.iv_catalogue.specs.declared.plan.BodyStatement.{BodyStatement}
pub use Rattle.iv_catalogue.specs.declared.plan.BodyStatement.TheVariants as body
pub use Rattle.iv_catalogue.specs.declared.plan.DataStatement.{DataStatement}
pub use Rattle.iv_catalogue.specs.declared.plan.DataStatement.TheVariants as data_statement
pub use Rattle.iv_catalogue.specs.declared.plan.InsertColumns.{InsertColumns}
pub use Rattle.iv_catalogue.specs.declared.plan.InsertColumns.TheVariants as insert_columns
pub use Rattle.iv_catalogue.specs.declared.plan.InsertRows.{InsertRows}
pub use Rattle.iv_catalogue.specs.declared.plan.InsertRows.TheVariants as insert_rows
pub use Rattle.iv_catalogue.specs.declared.plan.Outputs.{Outputs}
pub use Rattle.iv_catalogue.specs.declared.plan.Outputs.TheVariants as outputs
pub use Rattle.iv_catalogue.specs.declared.plan.Plan.TheVariants as plan
pub use Rattle.iv_catalogue.specs.declared.plan.QueryPlan.{QueryPlan}
pub use Rattle.iv_catalogue.specs.declared.plan.QueryPlan.TheVariants as query
pub use Rattle.iv_catalogue.specs.declared.plan.SchemaPlan.{SchemaPlan}
pub use Rattle.iv_catalogue.specs.declared.plan.SchemaPlan.TheVariants as schema
pub use Rattle.iv_catalogue.specs.declared.plan.Setting.{Setting}
pub use Rattle.iv_catalogue.specs.declared.plan.Trigger.{Trigger}
pub use Rattle.iv_machine.specs.declared.database.Database.{Database}
