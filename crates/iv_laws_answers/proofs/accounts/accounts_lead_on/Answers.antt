use Rattle.iv_laws_answers.proofs.Telling.{levels_are_told, statements_are_told}
use Rattle.iv_laws_answers.proofs.accounts.accounts_lead_on.Goals as goal

pub returns-clause-level : goal.returns-clause-level
returns-clause-level c = levels_are_told

pub returns-clause-state : goal.returns-clause-state
returns-clause-state c = statements_are_told
