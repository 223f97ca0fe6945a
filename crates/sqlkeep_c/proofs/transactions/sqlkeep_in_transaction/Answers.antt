use Rattle.std.proofs.Common.{refl}
use Rattle.sqlkeep_c.proofs.transactions.sqlkeep_in_transaction.Goals as goal

pub returns-clause-unviolated : goal.returns-clause-unviolated
returns-clause-unviolated c = rw (← c.in-Some.ensures.taken, ← c.deref.ensures) c.in_transaction.ensures.unviolated

pub returns-clause-open : goal.returns-clause-open
returns-clause-open c = rw (← c.in-Some.ensures.taken, ← c.deref.ensures) c.in_transaction.ensures.open

pub returns-clause-status : goal.returns-clause-status
returns-clause-status c = rw (← c.in-Some.ensures.taken) refl
