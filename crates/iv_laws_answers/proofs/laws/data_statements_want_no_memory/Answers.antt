use Rattle.iv_laws_answers.proofs.SparedLevels.{waves_want_no_memory, levels_want_no_memory, nested_levels_want_no_memory}
use Rattle.iv_laws_answers.proofs.SparedTriggers.{row_triggers_want_no_memory, statement_triggers_want_no_memory}
use Rattle.iv_laws_answers.proofs.SparedValues.{proposals_want_no_memory}
use Rattle.iv_laws_answers.proofs.laws.data_statements_want_no_memory.Goals as goal

pub returns-clause-proposals : goal.returns-clause-proposals
returns-clause-proposals c = proposals_want_no_memory

pub returns-clause-rows : goal.returns-clause-rows
returns-clause-rows c = row_triggers_want_no_memory

pub returns-clause-statements : goal.returns-clause-statements
returns-clause-statements c = statement_triggers_want_no_memory

pub returns-clause-waves : goal.returns-clause-waves
returns-clause-waves c = waves_want_no_memory

pub returns-clause-level : goal.returns-clause-level
returns-clause-level c = levels_want_no_memory

pub returns-clause-nested : goal.returns-clause-nested
returns-clause-nested c = nested_levels_want_no_memory
