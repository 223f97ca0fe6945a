use Rattle.iv_laws_levels.proofs.FittingWaves.{waves_are_a_chain, level_numbers, nested_numbers, no_rows_numbered}
use Rattle.iv_laws_levels.proofs.laws.waves_fit.Goals as goal

pub returns-clause-waves : goal.returns-clause-waves
returns-clause-waves c = waves_are_a_chain

pub returns-clause-level : goal.returns-clause-level
returns-clause-level c = level_numbers

pub returns-clause-nested : goal.returns-clause-nested
returns-clause-nested c = nested_numbers

pub returns-clause-start : goal.returns-clause-start
returns-clause-start c = no_rows_numbered
