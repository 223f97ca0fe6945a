use Rattle.iv_laws_answers.proofs.QueryTypes.{queries_are_well_typed, reached_queries_are_well_typed}
use Rattle.iv_laws_answers.proofs.laws.queries_are_well_typed.Goals as goal

pub returns-clause-suited : goal.returns-clause-suited
returns-clause-suited c = queries_are_well_typed

pub returns-clause-reached : goal.returns-clause-reached
returns-clause-reached c = reached_queries_are_well_typed
