use Rattle.std.proofs.Common.{refl}
use Rattle.sqlkeep_c.proofs.constraints.sqlkeep_constraint_at.Goals as goal
use Rattle.sqlkeep_c.proofs.constraints.sqlkeep_constraint_at.Goals.{in-Some-constraint_at, in-None}

pub returns-clause-constraint : goal.returns-clause-constraint
returns-clause-constraint c = rw (← c.in-Some.ensures.taken, ← c.deref.ensures, ← c.constraint_at.ensures) elim c.match-constraint_at.branch [
  | in-Some-constraint_at w ↦ rw (w.in-Some-constraint_at.is, w.constraint-is) w.constraint_shown.ensures
  | in-None w ↦ rw w.in-None.is tt
]

pub returns-clause-status : goal.returns-clause-status
returns-clause-status c = rw (← c.in-Some.ensures.taken, ← c.deref.ensures, ← c.constraint_at.ensures) elim c.match-constraint_at.branch [
  | in-Some-constraint_at w ↦ rw (w.in-Some-constraint_at.is, w.status-is) refl
  | in-None w ↦ rw (w.in-None.is, w.status-is) refl
]
