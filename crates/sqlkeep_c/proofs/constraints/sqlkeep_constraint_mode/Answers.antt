use Rattle.sqlkeep_c.proofs.constraints.sqlkeep_constraint_mode.Goals as goal

pub returns-clause-mode : goal.returns-clause-mode
returns-clause-mode c = rw (← c.in-Some.ensures.taken, ← c.deref.ensures, ← c.mode_at.ensures) c.write_place-status.ensures.place

pub returns-clause-status : goal.returns-clause-status
returns-clause-status c = rw (← c.in-Some.ensures.taken, ← c.deref.ensures, ← c.mode_at.ensures) c.write_place-status.ensures.status
