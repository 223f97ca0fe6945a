use Rattle.std.proofs.Common.{refl}
use Rattle.sqlkeep_c.proofs.results.sqlkeep_result_size.Goals as goal

pub returns-clause-size : goal.returns-clause-size
returns-clause-size c = rw (← c.in-Some.ensures.taken, ← c.deref.ensures) c.result_shown.ensures

pub returns-clause-status : goal.returns-clause-status
returns-clause-status c = rw (← c.in-Some.ensures.taken) refl
