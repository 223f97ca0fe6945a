use Rattle.iv_parse_terms.proofs.Theorems.{expression_complete, expression_front, one_expression}
use Rattle.iv_parse_terms.proofs.laws.expression_laws.Goals as goal

pub returns-clause-sound : goal.returns-clause-sound
returns-clause-sound c = expression_front

pub returns-clause-complete : goal.returns-clause-complete
returns-clause-complete c = expression_complete

pub returns-clause-one : goal.returns-clause-one
returns-clause-one c = one_expression
