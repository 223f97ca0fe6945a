use Rattle.std.proofs.Common.{refl}
use Rattle.sqlkeep_c.proofs.transactions.sqlkeep_rollback.Goals as goal

pub returns-clause-state : goal.returns-clause-state
returns-clause-state c = rw (← c.in-Some.ensures.taken, c.put.ensures, ← c.deref_mut.ensures.value, c.deref_mut-2.ensures.value) c.rollback.ensures.state

pub returns-clause-work : goal.returns-clause-work
returns-clause-work c = rw (← c.in-Some.ensures.taken, c.put.ensures, ← c.deref_mut.ensures.value, c.deref_mut-2.ensures.value) c.rollback.ensures.work

pub returns-clause-bounded : goal.returns-clause-bounded
returns-clause-bounded c = rw (← c.in-Some.ensures.taken, c.put.ensures, ← c.deref_mut.ensures.value, c.deref_mut-2.ensures.value) c.rollback.ensures.bounded

pub returns-clause-lookups : goal.returns-clause-lookups
returns-clause-lookups c = rw (← c.in-Some.ensures.taken, c.put.ensures, ← c.deref_mut.ensures.value, c.deref_mut-2.ensures.value) c.rollback.ensures.lookups

pub returns-clause-account : goal.returns-clause-account
returns-clause-account c = rw (← c.in-Some.ensures.taken, c.put.ensures, ← c.deref_mut.ensures.value, c.deref_mut-2.ensures.value) c.rollback.ensures.account

pub returns-clause-rest : goal.returns-clause-rest
returns-clause-rest c = rw (← c.in-Some.ensures.taken, c.put.ensures, ← c.deref_mut.ensures.value, c.deref_mut-2.ensures.value) refl

pub returns-clause-status : goal.returns-clause-status
returns-clause-status c = rw (← c.in-Some.ensures.taken) refl
