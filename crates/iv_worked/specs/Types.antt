-- The types that the definitions here share, and their variants.
pub use Rattle.iv_value.specs.declared.value.Value.{Value}
pub use Rattle.iv_value.specs.declared.value.Value.TheVariants as value
pub use Rattle.iv_value.specs.declared.value.Kind.TheVariants as kind
pub use Rattle.iv_value.specs.declared.value.Truth.{Truth}
pub use Rattle.iv_value.specs.declared.value.Truth.TheVariants as truth
pub use Rattle.iv_expr.specs.declared.row.Change.{Change}
pub use Rattle.iv_expr.specs.declared.row.StoredRow.{StoredRow}
pub use Rattle.iv_expr.specs.declared.tree.Comparison.{Comparison}
pub use Rattle.iv_expr.specs.declared.tree.Comparison.TheVariants as comparison
pub use Rattle.iv_expr.specs.declared.tree.Cond.{Cond}
pub use Rattle.iv_expr.specs.declared.tree.Cond.TheVariants as cond
pub use Rattle.iv_expr.specs.declared.tree.Expr.{Expr}
pub use Rattle.iv_expr.specs.declared.tree.Expr.TheVariants as expr
pub use Rattle.iv_expr.specs.declared.tree.Range.{Range}
pub use Rattle.iv_expr.specs.declared.tree.Range.TheVariants as range
pub use Rattle.iv_expr.specs.declared.tree.Side.TheVariants as side
pub use Rattle.iv_syntax.specs.declared.table.MatchType.{MatchType}
pub use Rattle.iv_syntax.specs.declared.table.MatchType.TheVariants as matching
pub use Rattle.iv_syntax.specs.declared.table.NullTreatment.TheVariants as nulls
pub use Rattle.iv_syntax.specs.declared.table.ReferentialAction.{ReferentialAction}
pub use Rattle.iv_syntax.specs.declared.table.ReferentialAction.TheVariants as referential_action
pub use Rattle.iv_syntax.specs.declared.table.TableRule.TheVariants as table_rule
pub use Rattle.iv_syntax.specs.declared.statement.ConstraintList.TheVariants as constraints
pub use Rattle.iv_syntax.specs.declared.statement.ConstraintMode.{ConstraintMode}
pub use Rattle.iv_syntax.specs.declared.statement.ConstraintMode.TheVariants as mode
pub use Rattle.iv_syntax.specs.declared.statement.Insert.TheVariants as insert
pub use Rattle.iv_syntax.specs.declared.statement.Select.TheVariants as select
pub use Rattle.iv_syntax.specs.declared.statement.Statement.{Statement}
pub use Rattle.iv_syntax.specs.declared.statement.Statement.TheVariants as statement
pub use Rattle.iv_syntax.specs.declared.trigger.ActionTime.{ActionTime}
pub use Rattle.iv_syntax.specs.declared.trigger.ActionTime.TheVariants as time
pub use Rattle.iv_syntax.specs.declared.trigger.Granularity.{Granularity}
pub use Rattle.iv_syntax.specs.declared.trigger.Granularity.TheVariants as granularity
pub use Rattle.iv_syntax.specs.declared.trigger.TriggerAction.TheVariants as action
pub use Rattle.iv_syntax.specs.declared.trigger.TriggerEvent.{TriggerEvent}
pub use Rattle.iv_syntax.specs.declared.trigger.TriggerEvent.TheVariants as event
pub use Rattle.iv_catalogue.specs.declared.catalogue.Column.{Column}
pub use Rattle.iv_catalogue.specs.declared.cause.Cause.{Cause}
pub use Rattle.iv_catalogue.specs.declared.cause.Cause.TheVariants as cause
pub use Rattle.iv_catalogue.specs.declared.cause.Fault.{Fault}
pub use Rattle.iv_catalogue.specs.declared.cause.Refusal.{Refusal}
pub use Rattle.iv_catalogue.specs.declared.constraint.Constraint.{Constraint}
pub use Rattle.iv_catalogue.specs.declared.constraint.Rule.{Rule}
pub use Rattle.iv_catalogue.specs.declared.constraint.Rule.TheVariants as rule
pub use Rattle.iv_catalogue.specs.declared.plan.BodyStatement.{BodyStatement}
pub use Rattle.iv_catalogue.specs.declared.plan.BodyStatement.TheVariants as body
pub use Rattle.iv_catalogue.specs.declared.plan.ConstraintSet.TheVariants as set
pub use Rattle.iv_catalogue.specs.declared.plan.DataStatement.{DataStatement}
pub use Rattle.iv_catalogue.specs.declared.plan.DataStatement.TheVariants as data_statement
pub use Rattle.iv_catalogue.specs.declared.plan.InsertColumns.TheVariants as insert_columns
pub use Rattle.iv_catalogue.specs.declared.plan.InsertRows.TheVariants as insert_rows
pub use Rattle.iv_catalogue.specs.declared.plan.Outputs.TheVariants as outputs
pub use Rattle.iv_catalogue.specs.declared.plan.Plan.{Plan}
pub use Rattle.iv_catalogue.specs.declared.plan.Plan.TheVariants as plan
pub use Rattle.iv_catalogue.specs.declared.plan.QueryPlan.TheVariants as query
pub use Rattle.iv_catalogue.specs.declared.plan.SchemaPlan.TheVariants as schema
pub use Rattle.iv_catalogue.specs.declared.plan.Setting.{Setting}
pub use Rattle.iv_catalogue.specs.declared.plan.TransactionPlan.TheVariants as transaction
pub use Rattle.iv_machine.specs.declared.answer.Answer.{Answer}
pub use Rattle.iv_machine.specs.declared.answer.Answer.TheVariants as answer
pub use Rattle.iv_machine.specs.declared.database.Which.TheVariants as which
pub use Rattle.iv_account.specs.declared.entry.Entry.{Entry}
pub use Rattle.iv_account.specs.declared.entry.Entry.TheVariants as entry
pub use Rattle.iv_account.specs.declared.failure.FailedEvaluation.{FailedEvaluation}
pub use Rattle.iv_account.specs.declared.failure.EvaluatedFor.{EvaluatedFor}
pub use Rattle.iv_account.specs.declared.failure.EvaluatedFor.TheVariants as part
pub use Rattle.iv_account.specs.declared.failure.Operator.{Operator}
pub use Rattle.iv_account.specs.declared.failure.Operator.TheVariants as operator
pub use Rattle.iv_account.specs.declared.failure.RowAtHand.{RowAtHand}
pub use Rattle.iv_account.specs.declared.failure.RowAtHand.TheVariants as hand
pub use Rattle.iv_account.specs.declared.failure.ValueFailure.{ValueFailure}
pub use Rattle.iv_account.specs.declared.failure.ValueFailure.TheVariants as failure
pub use Rattle.iv_account.specs.declared.entry.Disagreement.{Disagreement}
pub use Rattle.iv_account.specs.declared.entry.RowAction.{RowAction}
pub use Rattle.iv_account.specs.declared.entry.SkippedView.{SkippedView}
pub use Rattle.iv_account.specs.declared.entry.TriggerView.{TriggerView}
