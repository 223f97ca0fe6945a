use Rattle.sqlkeep_c.proofs.constraints.sqlkeep_constraint_column.Goals as goal

pub returns-clause-column : goal.returns-clause-column
returns-clause-column c = rw (← c.in-Some.ensures.taken, ← c.deref.ensures, ← c.constraint_column.ensures) c.write_place-status.ensures.place

pub returns-clause-status : goal.returns-clause-status
returns-clause-status c = rw (← c.in-Some.ensures.taken, ← c.deref.ensures, ← c.constraint_column.ensures) c.write_place-status.ensures.status
