use Rattle.iv_laws_fitting.proofs.Staying.{empty_suits, schemas_stay}
use Rattle.iv_laws_fitting.proofs.laws.schemas_suit.Goals as goal

pub returns-clause-empty : goal.returns-clause-empty
returns-clause-empty c = empty_suits

pub returns-clause-after : goal.returns-clause-after
returns-clause-after c = schemas_stay
