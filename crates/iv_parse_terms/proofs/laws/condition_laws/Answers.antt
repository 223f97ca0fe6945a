use Rattle.iv_parse_terms.proofs.Theorems.{condition_complete, condition_front, one_condition}
use Rattle.iv_parse_terms.proofs.laws.condition_laws.Goals as goal

pub returns-clause-sound : goal.returns-clause-sound
returns-clause-sound c = condition_front

pub returns-clause-complete : goal.returns-clause-complete
returns-clause-complete c = condition_complete

pub returns-clause-one : goal.returns-clause-one
returns-clause-one c = one_condition
