use Rattle.std.proofs.Common.{refl}
use Rattle.sqlkeep_c.proofs.transactions.sqlkeep_commit.Goals as goal

pub returns-clause-committed : goal.returns-clause-committed
returns-clause-committed c = rw (← c.in-Some.ensures.taken, c.put.ensures, c.deref_mut.ensures.writes_back, ← c.deref_mut.ensures.value) c.commit_kept.ensures.committed

pub returns-clause-shown : goal.returns-clause-shown
returns-clause-shown c = rw (← c.in-Some.ensures.taken, c.put.ensures, ← c.deref.ensures) c.outcome_shown.ensures

pub returns-clause-rest : goal.returns-clause-rest
returns-clause-rest c = rw (← c.in-Some.ensures.taken, c.put.ensures, ← c.deref_mut.ensures.value) c.commit_kept.ensures.rest

pub returns-clause-status : goal.returns-clause-status
returns-clause-status c = rw (← c.in-Some.ensures.taken) refl
