use Rattle.iv_laws_answers.proofs.Statements.{statements_are_writable, limits_are_too_large}
use Rattle.iv_laws_answers.proofs.writable.statements_are_writable.Goals as goal

pub returns-clause-writable : goal.returns-clause-writable
returns-clause-writable c = statements_are_writable

pub returns-clause-limits : goal.returns-clause-limits
returns-clause-limits c = limits_are_too_large
