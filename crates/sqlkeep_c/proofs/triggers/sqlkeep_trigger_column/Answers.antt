use Rattle.sqlkeep_c.proofs.triggers.sqlkeep_trigger_column.Goals as goal

pub returns-clause-column : goal.returns-clause-column
returns-clause-column c = rw (← c.in-Some.ensures.taken, ← c.deref.ensures, ← c.trigger_column.ensures) c.write_place-status.ensures.place

pub returns-clause-status : goal.returns-clause-status
returns-clause-status c = rw (← c.in-Some.ensures.taken, ← c.deref.ensures, ← c.trigger_column.ensures) c.write_place-status.ensures.status
