use Rattle.sqlkeep_c.proofs.templates.sqlkeep_read_bound.Goals as goal

pub returns-in-Err-clause-status : goal.returns-in-Err-clause-status
returns-in-Err-clause-status c = rw (← c.in-Some.ensures.taken, ← c.deref.ensures, ← c.as_slice.ensures) (λ no. c.in-Err.ensures.refused)
