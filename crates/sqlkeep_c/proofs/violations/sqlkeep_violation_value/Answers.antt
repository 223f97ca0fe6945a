use Rattle.sqlkeep_c.proofs.violations.sqlkeep_violation_value.Goals as goal

pub returns-clause-value : goal.returns-clause-value
returns-clause-value c = rw (← c.in-Some.ensures.taken, ← c.deref.ensures, ← c.violation_value.ensures) c.write_value-status.ensures.value

pub returns-clause-status : goal.returns-clause-status
returns-clause-status c = rw (← c.in-Some.ensures.taken, ← c.deref.ensures, ← c.violation_value.ensures) c.write_value-status.ensures.status
