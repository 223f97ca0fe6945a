-- The types that the definitions here share, and their variants.
pub use Rattle.iv_value.specs.declared.value.Value.{Value}
pub use Rattle.iv_syntax.specs.declared.statement.Statement.{Statement}
pub use Rattle.iv_syntax.specs.declared.statement.Statement.TheVariants as statement
pub use Rattle.iv_catalogue.specs.declared.catalogue.Table.{Table}
pub use Rattle.iv_catalogue.specs.declared.constraint.Constraint.{Constraint}
pub use Rattle.iv_catalogue.specs.declared.constraint.Rule.{Rule}
pub use Rattle.iv_catalogue.specs.declared.constraint.Rule.TheVariants as rule
pub use Rattle.iv_catalogue.specs.declared.plan.Trigger.{Trigger}
