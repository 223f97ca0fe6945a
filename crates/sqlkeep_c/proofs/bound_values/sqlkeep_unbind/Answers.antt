use Rattle.std.proofs.Common.{refl}
use Rattle.sqlkeep_c.proofs.bound_values.sqlkeep_unbind.Goals as goal

pub returns-clause-values : goal.returns-clause-values
returns-clause-values c = rw (← c.in-Some.ensures.taken, c.put.ensures) c.new.ensures

pub returns-clause-rest : goal.returns-clause-rest
returns-clause-rest c = rw (← c.in-Some.ensures.taken, c.put.ensures, ← c.deref_mut.ensures.value) refl

pub returns-clause-status : goal.returns-clause-status
returns-clause-status c = rw (← c.in-Some.ensures.taken) refl
