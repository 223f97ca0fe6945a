-- The types that the definitions here share, and their variants.
pub use Rattle.iv_value.specs.declared.value.Value.{Value}
pub use Rattle.iv_value.specs.declared.value.Value.TheVariants as value
pub use Rattle.iv_value.specs.declared.value.Kind.{Kind}
pub use Rattle.iv_value.specs.declared.value.Kind.TheVariants as kind
pub use Rattle.iv_expr.specs.declared.tree.Comparison.{Comparison}
pub use Rattle.iv_expr.specs.declared.tree.Comparison.TheVariants as comparison
pub use Rattle.iv_expr.specs.declared.tree.Cond.{Cond}
pub use Rattle.iv_expr.specs.declared.tree.Cond.TheVariants as cond
pub use Rattle.iv_expr.specs.declared.tree.Expr.{Expr}
pub use Rattle.iv_expr.specs.declared.tree.Expr.TheVariants as expr
pub use Rattle.iv_expr.specs.declared.tree.Range.{Range}
pub use Rattle.iv_expr.specs.declared.tree.Range.TheVariants as range
pub use Rattle.iv_expr.specs.declared.tree.Side.{Side}
pub use Rattle.iv_expr.specs.declared.tree.Side.TheVariants as side
pub use Rattle.iv_syntax.specs.declared.tree.ColumnName.{ColumnName}
pub use Rattle.iv_syntax.specs.declared.tree.Condition.{Condition}
pub use Rattle.iv_syntax.specs.declared.tree.Condition.TheVariants as condition
pub use Rattle.iv_syntax.specs.declared.tree.Expression.{Expression}
pub use Rattle.iv_syntax.specs.declared.tree.Expression.TheVariants as expression
pub use Rattle.iv_syntax.specs.declared.tree.RangeName.{RangeName}
pub use Rattle.iv_syntax.specs.declared.tree.Sign.{Sign}
pub use Rattle.iv_syntax.specs.declared.tree.Sign.TheVariants as sign
pub use Rattle.iv_syntax.specs.declared.statement.ConstraintMode.{ConstraintMode}
pub use Rattle.iv_syntax.specs.declared.statement.ConstraintMode.TheVariants as mode
pub use Rattle.iv_syntax.specs.declared.statement.InsertSource.TheVariants as source
pub use Rattle.iv_syntax.specs.declared.statement.Insert.{Insert}
pub use Rattle.iv_syntax.specs.declared.statement.Insert.TheVariants as insert
pub use Rattle.iv_syntax.specs.declared.statement.Statement.{Statement}
pub use Rattle.iv_syntax.specs.declared.statement.Statement.TheVariants as statement
pub use Rattle.iv_syntax.specs.declared.statement.ValueOrDefault.{ValueOrDefault}
pub use Rattle.iv_syntax.specs.declared.statement.ValueOrDefault.TheVariants as given
pub use Rattle.iv_syntax.specs.declared.table.ColumnConstraint.{ColumnConstraint}
pub use Rattle.iv_syntax.specs.declared.table.ColumnDefinition.{ColumnDefinition}
pub use Rattle.iv_syntax.specs.declared.table.ColumnRule.{ColumnRule}
pub use Rattle.iv_syntax.specs.declared.table.ColumnRule.TheVariants as column_rule
pub use Rattle.iv_syntax.specs.declared.table.ColumnType.{ColumnType}
pub use Rattle.iv_syntax.specs.declared.table.ColumnType.TheVariants as type
pub use Rattle.iv_syntax.specs.declared.table.ConstraintTime.{ConstraintTime}
pub use Rattle.iv_syntax.specs.declared.table.Literal.{Literal}
pub use Rattle.iv_syntax.specs.declared.table.Literal.TheVariants as literal
pub use Rattle.iv_syntax.specs.declared.table.MatchType.{MatchType}
pub use Rattle.iv_syntax.specs.declared.table.MatchType.TheVariants as matching
pub use Rattle.iv_syntax.specs.declared.table.References.{References}
pub use Rattle.iv_syntax.specs.declared.table.ReferentialAction.{ReferentialAction}
pub use Rattle.iv_syntax.specs.declared.table.ReferentialAction.TheVariants as referential_action
pub use Rattle.iv_syntax.specs.declared.table.TableConstraint.{TableConstraint}
pub use Rattle.iv_syntax.specs.declared.table.TableElement.{TableElement}
pub use Rattle.iv_syntax.specs.declared.table.TableElement.TheVariants as element
pub use Rattle.iv_syntax.specs.declared.table.TableRule.{TableRule}
pub use Rattle.iv_syntax.specs.declared.table.TableRule.TheVariants as table_rule
pub use Rattle.iv_syntax.specs.declared.trigger.Referencing.{Referencing}
pub use Rattle.iv_syntax.specs.declared.trigger.TransitionName.{TransitionName}
pub use Rattle.iv_syntax.specs.declared.trigger.TransitionName.TheVariants as transition
pub use Rattle.iv_syntax.specs.declared.trigger.TriggerDefinition.{TriggerDefinition}
pub use Rattle.iv_catalogue.specs.declared.catalogue.Column.{Column}
pub use Rattle.iv_catalogue.specs.declared.catalogue.Table.{Table}
pub use Rattle.iv_catalogue.specs.declared.constraint.Constraint.{Constraint}
pub use Rattle.iv_catalogue.specs.declared.constraint.ForeignKey.{ForeignKey}
pub use Rattle.iv_catalogue.specs.declared.constraint.Rule.{Rule}
pub use Rattle.iv_catalogue.specs.declared.constraint.Rule.TheVariants as rule
pub use Rattle.iv_catalogue.specs.declared.plan.Trigger.{Trigger}
