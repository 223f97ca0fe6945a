use Rattle.std.proofs.Common.{refl}
use Rattle.sqlkeep_c.proofs.sessions.sqlkeep_explain.Goals as goal

pub returns-clause-asked : goal.returns-clause-asked
returns-clause-asked c = rw (← c.in-Some.ensures.taken, c.put.ensures, ← c.deref_mut.ensures.value, c.deref_mut-2.ensures.value, c.explain.ensures) refl

pub returns-clause-status : goal.returns-clause-status
returns-clause-status c = rw (← c.in-Some.ensures.taken) refl
