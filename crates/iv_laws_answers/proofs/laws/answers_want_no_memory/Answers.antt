use Rattle.iv_laws_answers.proofs.SparedAnswers.{resolutions_want_no_memory, plans_want_no_memory, steps_want_no_memory, runs_want_no_memory}
use Rattle.iv_laws_answers.proofs.laws.answers_want_no_memory.Goals as goal

pub returns-clause-resolution : goal.returns-clause-resolution
returns-clause-resolution c = resolutions_want_no_memory

pub returns-clause-plan : goal.returns-clause-plan
returns-clause-plan c = plans_want_no_memory

pub returns-clause-step : goal.returns-clause-step
returns-clause-step c = steps_want_no_memory

pub returns-clause-run : goal.returns-clause-run
returns-clause-run c = runs_want_no_memory
