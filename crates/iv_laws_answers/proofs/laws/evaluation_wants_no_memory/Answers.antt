use Rattle.iv_laws_answers.proofs.SparedValues.{values_want_no_memory, truths_want_no_memory}
use Rattle.iv_laws_answers.proofs.laws.evaluation_wants_no_memory.Goals as goal

pub returns-clause-values : goal.returns-clause-values
returns-clause-values c = values_want_no_memory

pub returns-clause-truths : goal.returns-clause-truths
returns-clause-truths c = truths_want_no_memory
