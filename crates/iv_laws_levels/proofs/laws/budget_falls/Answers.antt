use Rattle.iv_laws_levels.proofs.Budgeting.{waves_take, nested_takes, level_takes}
use Rattle.iv_laws_levels.proofs.laws.budget_falls.Goals as goal

pub returns-clause-level : goal.returns-clause-level
returns-clause-level c = level_takes

pub returns-clause-nested : goal.returns-clause-nested
returns-clause-nested c = nested_takes

pub returns-clause-waves : goal.returns-clause-waves
returns-clause-waves c = waves_take
