-- The types that the definitions here share, and their variants.
pub use Rattle.iv_expr.specs.declared.tree.Side.{Side}
pub use Rattle.iv_expr.specs.declared.tree.Side.TheVariants as side
pub use Rattle.iv_syntax.specs.declared.tree.Condition.{Condition}
pub use Rattle.iv_syntax.specs.declared.statement.ConstraintList.{ConstraintList}
pub use Rattle.iv_syntax.specs.declared.statement.ConstraintList.TheVariants as constraints
pub use Rattle.iv_syntax.specs.declared.statement.Statement.{Statement}
pub use Rattle.iv_syntax.specs.declared.statement.Statement.TheVariants as statement
pub use Rattle.iv_syntax.specs.declared.trigger.ActionTime.{ActionTime}
pub use Rattle.iv_syntax.specs.declared.trigger.ActionTime.TheVariants as time
pub use Rattle.iv_syntax.specs.declared.trigger.Granularity.{Granularity}
pub use Rattle.iv_syntax.specs.declared.trigger.Granularity.TheVariants as granularity
pub use Rattle.iv_syntax.specs.declared.trigger.Referencing.{Referencing}
pub use Rattle.iv_syntax.specs.declared.trigger.TransitionName.{TransitionName}
pub use Rattle.iv_syntax.specs.declared.trigger.TransitionName.TheVariants as transition
pub use Rattle.iv_syntax.specs.declared.trigger.TriggerAction.{TriggerAction}
pub use Rattle.iv_syntax.specs.declared.trigger.TriggerAction.TheVariants as action
pub use Rattle.iv_syntax.specs.declared.trigger.TriggerDefinition.{TriggerDefinition}
pub use Rattle.iv_syntax.specs.declared.trigger.TriggerEvent.{TriggerEvent}
pub use Rattle.iv_syntax.specs.declared.trigger.TriggerEvent.TheVariants as event
