use Rattle.std.proofs.Common.{refl}
use Rattle.sqlkeep_c.proofs.violations.sqlkeep_pending.Goals as goal

pub returns-in-Ok-clause-faults : goal.returns-in-Ok-clause-faults
returns-in-Ok-clause-faults c =
    rw (← c.in-Some.ensures.taken, c.put.ensures, c.deref_mut.ensures.writes_back, ← c.deref_mut.ensures.value) (λ ok. c.in-Ok.ensures.faults)

pub returns-in-Err-clause-status : goal.returns-in-Err-clause-status
returns-in-Err-clause-status c = rw (← c.in-Some.ensures.taken) (λ no. refl)

pub returns-in-Ok-clause-count : goal.returns-in-Ok-clause-count
returns-in-Ok-clause-count c = rw (← c.in-Some.ensures.taken, c.put.ensures) (λ ok. c.in-Ok.ensures.count)
