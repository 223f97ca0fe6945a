use Rattle.sqlkeep_c.proofs.messages.sqlkeep_message.Goals as goal

pub returns-in-Ok-clause-bytes : goal.returns-in-Ok-clause-bytes
returns-in-Ok-clause-bytes c = rw (← c.in-Some.ensures.taken, ← c.deref.ensures, ← c.in-Ok.ensures, ← c.as_slice.ensures.value) (λ ok. c.copied.ensures)
