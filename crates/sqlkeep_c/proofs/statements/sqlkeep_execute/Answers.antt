use Rattle.sqlkeep_c.proofs.statements.sqlkeep_execute.Goals as goal

pub returns-clause-executed : goal.returns-clause-executed
returns-clause-executed c = rw (← c.in-Some.ensures.taken, c.put-2.ensures, ← c.deref_mut.ensures.value) (λ ok. c.execute_kept.ensures.executed c.if-not-execute_kept.false)

pub returns-clause-rest : goal.returns-clause-rest
returns-clause-rest c = rw (← c.in-Some.ensures.taken, c.put-2.ensures, ← c.deref_mut.ensures.value) (λ ok. c.execute_kept.ensures.rest c.if-not-execute_kept.false)
