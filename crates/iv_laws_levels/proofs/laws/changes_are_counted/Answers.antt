use Rattle.iv_laws_levels.proofs.Budgeting.{waves_count, nested_counts, level_counts}
use Rattle.iv_laws_levels.proofs.Counting.{refused_levels_keep_the_count}
use Rattle.iv_laws_levels.proofs.laws.changes_are_counted.Goals as goal

pub returns-clause-waves : goal.returns-clause-waves
returns-clause-waves c = waves_count

pub returns-clause-level : goal.returns-clause-level
returns-clause-level c = level_counts

pub returns-clause-nested : goal.returns-clause-nested
returns-clause-nested c = nested_counts

pub returns-clause-refused : goal.returns-clause-refused
returns-clause-refused c = refused_levels_keep_the_count
