use Rattle.std.proofs.Common.{refl}
use Rattle.sqlkeep_c.proofs.rows.sqlkeep_value.Goals as goal
use Rattle.sqlkeep_c.proofs.rows.sqlkeep_value.Goals.{in-Some-value_at, in-None}

pub returns-clause-value : goal.returns-clause-value
returns-clause-value c = rw (← c.in-Some.ensures.taken, ← c.deref.ensures, ← c.value_at.ensures) elim c.match-value_at.branch [
  | in-Some-value_at w ↦ rw (w.in-Some-value_at.is, w.value-is) w.cell_of.ensures
  | in-None w ↦ rw w.in-None.is tt
]

pub returns-clause-status : goal.returns-clause-status
returns-clause-status c = rw (← c.in-Some.ensures.taken, ← c.deref.ensures, ← c.value_at.ensures) elim c.match-value_at.branch [
  | in-Some-value_at w ↦ rw (w.in-Some-value_at.is, w.status-is) refl
  | in-None w ↦ rw (w.in-None.is, w.status-is) refl
]
