use Rattle.std.proofs.Common.{Some, ap}
use Rattle.sqlkeep_c.proofs.bound_values.sqlkeep_bind_integer.Goals as goal

pub returns-clause-rest : goal.returns-clause-rest
returns-clause-rest c = rw (← c.in-Some.ensures.taken, c.put.ensures, ← c.deref_mut.ensures.value) c.bind-status.ensures.rest

pub returns-clause-others : goal.returns-clause-others
returns-clause-others c = rw (← c.in-Some.ensures.taken, c.put.ensures, ← c.deref_mut.ensures.value) (λ no. ap Some (c.bind-status.ensures.others no))

pub returns-clause-status : goal.returns-clause-status
returns-clause-status c = rw (← c.in-Some.ensures.taken) c.bind-status.ensures.status
