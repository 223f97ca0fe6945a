-- The types that the definitions here share, and their variants.
pub use Rattle.iv_syntax.specs.declared.statement.ConstraintMode.{ConstraintMode}
pub use Rattle.iv_syntax.specs.declared.statement.Statement.{Statement}
pub use Rattle.iv_catalogue.specs.declared.catalogue.Table.{Table}
pub use Rattle.iv_catalogue.specs.declared.cause.Cause.TheVariants as cause
pub use Rattle.iv_catalogue.specs.declared.cause.Fault.{Fault}
pub use Rattle.iv_catalogue.specs.declared.cause.Refusal.{Refusal}
pub use Rattle.iv_catalogue.specs.declared.constraint.Constraint.{Constraint}
pub use Rattle.iv_catalogue.specs.declared.plan.DataStatement.{DataStatement}
pub use Rattle.iv_catalogue.specs.declared.plan.Plan.{Plan}
pub use Rattle.iv_catalogue.specs.declared.plan.Plan.TheVariants as plan
pub use Rattle.iv_catalogue.specs.declared.plan.SchemaPlan.{SchemaPlan}
pub use Rattle.iv_catalogue.specs.declared.plan.SchemaPlan.TheVariants as schema
pub use Rattle.iv_catalogue.specs.declared.plan.Trigger.{Trigger}
pub use Rattle.iv_machine.specs.declared.answer.Answer.{Answer}
pub use Rattle.iv_machine.specs.declared.answer.Answer.TheVariants as answer
pub use Rattle.iv_machine.specs.declared.database.Database.{Database}
