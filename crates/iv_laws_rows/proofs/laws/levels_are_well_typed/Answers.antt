use Rattle.iv_laws_rows.proofs.FreeLevels.{waves_are_well_typed, levels_are_well_typed, nested_levels_are_well_typed}
use Rattle.iv_laws_rows.proofs.FreeTriggers.{row_triggers_are_well_typed, statement_triggers_are_well_typed}
use Rattle.iv_laws_rows.proofs.laws.levels_are_well_typed.Goals as goal

pub returns-clause-rows : goal.returns-clause-rows
returns-clause-rows c = row_triggers_are_well_typed

pub returns-clause-statements : goal.returns-clause-statements
returns-clause-statements c = statement_triggers_are_well_typed

pub returns-clause-waves : goal.returns-clause-waves
returns-clause-waves c = waves_are_well_typed

pub returns-clause-level : goal.returns-clause-level
returns-clause-level c = levels_are_well_typed

pub returns-clause-nested : goal.returns-clause-nested
returns-clause-nested c = nested_levels_are_well_typed
