use Rattle.std.proofs.Common.{refl}
use Rattle.sqlkeep_c.proofs.stored_rows.sqlkeep_row_value.Goals as goal
use Rattle.sqlkeep_c.proofs.stored_rows.sqlkeep_row_value.Goals.{in-Some-stored_value, in-None}

pub returns-clause-value : goal.returns-clause-value
returns-clause-value c = rw (← c.in-Some.ensures.taken, ← c.deref.ensures, ← c.stored_value.ensures) elim c.match-stored_value.branch [
  | in-Some-stored_value w ↦ rw (w.in-Some-stored_value.is, w.value-is) w.cell_of.ensures
  | in-None w ↦ rw w.in-None.is tt
]

pub returns-clause-status : goal.returns-clause-status
returns-clause-status c = rw (← c.in-Some.ensures.taken, ← c.deref.ensures, ← c.stored_value.ensures) elim c.match-stored_value.branch [
  | in-Some-stored_value w ↦ rw (w.in-Some-stored_value.is, w.status-is) refl
  | in-None w ↦ rw (w.in-None.is, w.status-is) refl
]
