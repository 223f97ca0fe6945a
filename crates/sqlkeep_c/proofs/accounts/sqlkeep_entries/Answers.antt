use Rattle.std.proofs.Common.{refl}
use Rattle.sqlkeep_c.proofs.accounts.sqlkeep_entries.Goals as goal

pub returns-clause-count : goal.returns-clause-count
returns-clause-count c = rw (← c.in-Some.ensures.taken, ← c.deref.ensures, ← c.account.ensures) refl

pub returns-clause-status : goal.returns-clause-status
returns-clause-status c = rw (← c.in-Some.ensures.taken) refl
