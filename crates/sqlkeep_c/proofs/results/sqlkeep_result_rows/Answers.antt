use Rattle.std.proofs.Common.{refl}
use Rattle.sqlkeep_c.proofs.results.sqlkeep_result_rows.Goals as goal

pub returns-clause-rows : goal.returns-clause-rows
returns-clause-rows c = rw (← c.in-Some.ensures.taken, ← c.deref.ensures, ← c.as_slice.ensures) c.copy_rows_of.ensures

pub returns-clause-status : goal.returns-clause-status
returns-clause-status c = rw (← c.in-Some.ensures.taken) refl
