use Rattle.sqlkeep_c.proofs.statements.sqlkeep_fault.Goals as goal
use Rattle.sqlkeep_c.proofs.statements.sqlkeep_fault.Goals.{in-Some-fault, in-None}

pub returns-clause-fault : goal.returns-clause-fault
returns-clause-fault c = rw (← c.in-Some.ensures.taken, ← c.deref.ensures) elim c.match-deref.branch [
  | in-Some-fault w ↦ rw (w.in-Some-fault.is, w.fault-is) w.fault_shown.ensures
  | in-None w ↦ rw w.in-None.is tt
]

pub returns-clause-status : goal.returns-clause-status
returns-clause-status c = rw (← c.in-Some.ensures.taken, ← c.deref.ensures) elim c.match-deref.branch [
  | in-Some-fault w ↦ rw w.in-Some-fault.is w.status-is
  | in-None w ↦ rw w.in-None.is w.status-is
]
