use Rattle.std.proofs.Common.{refl}
use Rattle.sqlkeep_c.proofs.rows.sqlkeep_rows.Goals as goal

pub returns-clause-rows : goal.returns-clause-rows
returns-clause-rows c = rw (← c.in-Some.ensures.taken, ← c.deref.ensures) c.copy_rows_from.ensures

pub returns-clause-status : goal.returns-clause-status
returns-clause-status c = rw (← c.in-Some.ensures.taken) refl
