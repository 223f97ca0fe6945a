use Rattle.iv_laws_levels.proofs.Checking.{nested_checks, level_checks}
use Rattle.iv_laws_levels.proofs.laws.level_checks.Goals as goal

pub returns-clause-level : goal.returns-clause-level
returns-clause-level c = level_checks

pub returns-clause-nested : goal.returns-clause-nested
returns-clause-nested c = nested_checks
