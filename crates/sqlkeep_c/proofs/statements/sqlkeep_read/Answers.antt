use Rattle.std.proofs.Common.{refl}
use Rattle.sqlkeep_c.proofs.statements.sqlkeep_read.Goals as goal

pub returns-in-Err-clause-others : goal.returns-in-Err-clause-others
returns-in-Err-clause-others c = λ no. (rw c.put-in-Err.ensures c.in-Some.ensures.taken, refl)

pub returns-in-Ok-clause-rest : goal.returns-in-Ok-clause-rest
returns-in-Ok-clause-rest c = rw (← c.in-Some.ensures.taken, c.put.ensures, c.keep_parsed.ensures, ← c.deref_mut.ensures.value) (λ ok. refl)
