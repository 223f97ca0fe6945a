use Rattle.iv_laws_levels.proofs.WaveEquations.{rows_after_a_wave, rows_after_are_in_order, waves_are_settled_one_by_one}
use Rattle.iv_laws_levels.proofs.laws.waves_one_by_one.Goals as goal

pub returns-clause-rows : goal.returns-clause-rows
returns-clause-rows c = rows_after_a_wave

pub returns-clause-order : goal.returns-clause-order
returns-clause-order c = rows_after_are_in_order

pub returns-clause-settled : goal.returns-clause-settled
returns-clause-settled c = waves_are_settled_one_by_one
