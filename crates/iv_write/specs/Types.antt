-- The types that the definitions here share, and their variants.
pub use Rattle.iv_expr.specs.declared.tree.Side.{Side}
pub use Rattle.iv_expr.specs.declared.tree.Side.TheVariants as side
pub use Rattle.iv_syntax.specs.declared.tree.Condition.{Condition}
pub use Rattle.iv_syntax.specs.declared.tree.Expression.{Expression}
pub use Rattle.iv_syntax.specs.declared.tree.RangeName.{RangeName}
pub use Rattle.iv_syntax.specs.declared.table.ColumnConstraint.{ColumnConstraint}
pub use Rattle.iv_syntax.specs.declared.table.ColumnDefinition.{ColumnDefinition}
pub use Rattle.iv_syntax.specs.declared.table.ColumnRule.{ColumnRule}
pub use Rattle.iv_syntax.specs.declared.table.ColumnRule.TheVariants as column_rule
pub use Rattle.iv_syntax.specs.declared.table.ColumnType.{ColumnType}
pub use Rattle.iv_syntax.specs.declared.table.ColumnType.TheVariants as type
pub use Rattle.iv_syntax.specs.declared.table.ConstraintTime.{ConstraintTime}
pub use Rattle.iv_syntax.specs.declared.table.Literal.{Literal}
pub use Rattle.iv_syntax.specs.declared.table.Literal.TheVariants as literal
pub use Rattle.iv_syntax.specs.declared.table.MatchType.{MatchType}
pub use Rattle.iv_syntax.specs.declared.table.NullTreatment.{NullTreatment}
pub use Rattle.iv_syntax.specs.declared.table.References.{References}
pub use Rattle.iv_syntax.specs.declared.table.ReferentialAction.{ReferentialAction}
pub use Rattle.iv_syntax.specs.declared.table.TableConstraint.{TableConstraint}
pub use Rattle.iv_syntax.specs.declared.table.TableElement.{TableElement}
pub use Rattle.iv_syntax.specs.declared.table.TableElement.TheVariants as element
pub use Rattle.iv_syntax.specs.declared.table.TableRule.{TableRule}
pub use Rattle.iv_syntax.specs.declared.table.TableRule.TheVariants as table_rule
pub use Rattle.iv_syntax.specs.declared.statement.Assignment.{Assignment}
pub use Rattle.iv_syntax.specs.declared.statement.ConstraintList.{ConstraintList}
pub use Rattle.iv_syntax.specs.declared.statement.ConstraintList.TheVariants as constraints
pub use Rattle.iv_syntax.specs.declared.statement.ConstraintMode.{ConstraintMode}
pub use Rattle.iv_syntax.specs.declared.statement.Delete.{Delete}
pub use Rattle.iv_syntax.specs.declared.statement.Insert.{Insert}
pub use Rattle.iv_syntax.specs.declared.statement.Insert.TheVariants as insert
pub use Rattle.iv_syntax.specs.declared.statement.InsertSource.{InsertSource}
pub use Rattle.iv_syntax.specs.declared.statement.InsertSource.TheVariants as source
pub use Rattle.iv_syntax.specs.declared.statement.Select.{Select}
pub use Rattle.iv_syntax.specs.declared.statement.Select.TheVariants as select
pub use Rattle.iv_syntax.specs.declared.statement.SelectList.{SelectList}
pub use Rattle.iv_syntax.specs.declared.statement.SelectList.TheVariants as select_list
pub use Rattle.iv_syntax.specs.declared.statement.Statement.{Statement}
pub use Rattle.iv_syntax.specs.declared.statement.Statement.TheVariants as statement
pub use Rattle.iv_syntax.specs.declared.statement.Update.{Update}
pub use Rattle.iv_syntax.specs.declared.statement.ValueOrDefault.{ValueOrDefault}
pub use Rattle.iv_syntax.specs.declared.statement.ValueOrDefault.TheVariants as given
pub use Rattle.iv_syntax.specs.declared.trigger.Granularity.{Granularity}
pub use Rattle.iv_syntax.specs.declared.trigger.Granularity.TheVariants as granularity
pub use Rattle.iv_syntax.specs.declared.trigger.Referencing.{Referencing}
pub use Rattle.iv_syntax.specs.declared.trigger.TransitionName.{TransitionName}
pub use Rattle.iv_syntax.specs.declared.trigger.TransitionName.TheVariants as transition
pub use Rattle.iv_syntax.specs.declared.trigger.TriggerAction.{TriggerAction}
pub use Rattle.iv_syntax.specs.declared.trigger.TriggerAction.TheVariants as action
pub use Rattle.iv_syntax.specs.declared.trigger.TriggerDefinition.{TriggerDefinition}
pub use Rattle.iv_syntax.specs.declared.trigger.TriggerEvent.{TriggerEvent}
pub use Rattle.iv_syntax.specs.declared.trigger.TriggerEvent.TheVariants as event
