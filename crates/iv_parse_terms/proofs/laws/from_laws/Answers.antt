use Rattle.iv_parse_terms.proofs.Theorems.{from_complete, from_front}
use Rattle.iv_parse_terms.proofs.laws.from_laws.Goals as goal

pub returns-clause-sound : goal.returns-clause-sound
returns-clause-sound c = from_front

pub returns-clause-complete : goal.returns-clause-complete
returns-clause-complete c = from_complete
