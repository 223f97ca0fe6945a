use Rattle.iv_laws_answers.proofs.Telling.{no_violation_of_accepted, one_violation_of_refused}
use Rattle.iv_laws_answers.proofs.accounts.accounts_tell_violations.Goals as goal

pub returns-clause-accepted : goal.returns-clause-accepted
returns-clause-accepted c = no_violation_of_accepted

pub returns-clause-refused : goal.returns-clause-refused
returns-clause-refused c = one_violation_of_refused
