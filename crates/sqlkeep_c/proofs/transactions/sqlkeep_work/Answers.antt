use Rattle.std.proofs.Common.{refl}
use Rattle.sqlkeep_c.proofs.transactions.sqlkeep_work.Goals as goal

pub returns-clause-work : goal.returns-clause-work
returns-clause-work c = rw (← c.in-Some.ensures.taken, ← c.deref.ensures) c.work-done.ensures.work

pub returns-clause-lookups : goal.returns-clause-lookups
returns-clause-lookups c = rw (← c.in-Some.ensures.taken, ← c.deref.ensures) c.work-done.ensures.lookups

pub returns-clause-status : goal.returns-clause-status
returns-clause-status c = rw (← c.in-Some.ensures.taken) refl
