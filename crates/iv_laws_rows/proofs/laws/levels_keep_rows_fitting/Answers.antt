use Rattle.iv_laws_rows.proofs.FittingLevels.{levels_keep_rows, nested_levels_keep_rows}
use Rattle.iv_laws_rows.proofs.laws.levels_keep_rows_fitting.Goals as goal

pub returns-clause-level : goal.returns-clause-level
returns-clause-level c = levels_keep_rows

pub returns-clause-nested : goal.returns-clause-nested
returns-clause-nested c = nested_levels_keep_rows
