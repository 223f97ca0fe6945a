use Rattle.iv_laws_levels.proofs.TakenRows.{taken_rows_are_gone, gone_rows_are_taken, other_rows_stay}
use Rattle.iv_laws_levels.proofs.laws.deletion_closure.Goals as goal

pub returns-clause-gone : goal.returns-clause-gone
returns-clause-gone c = taken_rows_are_gone

pub returns-clause-only : goal.returns-clause-only
returns-clause-only c = gone_rows_are_taken

pub returns-clause-stay : goal.returns-clause-stay
returns-clause-stay c = other_rows_stay
