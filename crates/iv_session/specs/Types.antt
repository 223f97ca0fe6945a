-- The types that the definitions here share, and their variants.
pub use Rattle.iv_syntax.specs.declared.statement.Statement.{Statement}
pub use Rattle.iv_catalogue.specs.declared.cause.Refusal.{Refusal}
pub use Rattle.iv_machine.specs.declared.answer.Answer.{Answer}
