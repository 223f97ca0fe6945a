use Rattle.iv_laws_levels.proofs.Holders.{holders_before, rows_before}
use Rattle.iv_laws_levels.proofs.LosingWaves.{lost_by_wave}
use Rattle.iv_laws_levels.proofs.Following.{restricted_rows_follow, all_conflicts_follow, next_waves_follow, waves_follow}
use Rattle.iv_laws_levels.proofs.laws.holders_before_a_wave.Goals as goal

pub returns-clause-holders : goal.returns-clause-holders
returns-clause-holders c = holders_before

pub returns-clause-rows : goal.returns-clause-rows
returns-clause-rows c = rows_before

pub returns-clause-lost : goal.returns-clause-lost
returns-clause-lost c = lost_by_wave

pub returns-clause-restricted : goal.returns-clause-restricted
returns-clause-restricted c = restricted_rows_follow

pub returns-clause-conflicts : goal.returns-clause-conflicts
returns-clause-conflicts c = all_conflicts_follow

pub returns-clause-next : goal.returns-clause-next
returns-clause-next c = next_waves_follow

pub returns-clause-following : goal.returns-clause-following
returns-clause-following c = waves_follow
