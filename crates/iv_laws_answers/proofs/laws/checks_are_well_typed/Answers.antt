use Rattle.iv_laws_answers.proofs.CheckTypes.{checks_are_well_typed, settled_checks_are_well_typed, reached_checks_are_well_typed, added_checks_are_well_typed}
use Rattle.iv_laws_answers.proofs.laws.checks_are_well_typed.Goals as goal

pub returns-clause-suited : goal.returns-clause-suited
returns-clause-suited c = checks_are_well_typed

pub returns-clause-settled : goal.returns-clause-settled
returns-clause-settled c = settled_checks_are_well_typed

pub returns-clause-reached : goal.returns-clause-reached
returns-clause-reached c = reached_checks_are_well_typed

pub returns-clause-added : goal.returns-clause-added
returns-clause-added c = added_checks_are_well_typed
