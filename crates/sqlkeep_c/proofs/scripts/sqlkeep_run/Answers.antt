use Rattle.sqlkeep_c.proofs.scripts.sqlkeep_run.Goals as goal

pub returns-in-Ok-clause-transcript : goal.returns-in-Ok-clause-transcript
returns-in-Ok-clause-transcript c =
    rw (← c.in-Some.ensures.taken, c.put.ensures, c.deref_mut.ensures.writes_back, ← c.deref_mut.ensures.value) (λ ok. (c.in-Ok.counts, c.summary_shown.ensures, c.in-Ok.ensures.transcript, c.in-Ok.ensures.with_memory, c.in-Ok.ensures.told))
