use Rattle.std.proofs.Common.{refl}
use Rattle.sqlkeep_c.proofs.stored_rows.sqlkeep_row.Goals as goal
use Rattle.sqlkeep_c.proofs.stored_rows.sqlkeep_row.Goals.{in-Some-stored_row, in-None}

pub returns-clause-row : goal.returns-clause-row
returns-clause-row c = rw (← c.in-Some.ensures.taken, ← c.deref.ensures, ← c.stored_row.ensures) elim c.match-stored_row.branch [
  | in-Some-stored_row w ↦ rw (w.in-Some-stored_row.is, w.row-is) w.stored_row_shown.ensures
  | in-None w ↦ rw w.in-None.is tt
]

pub returns-clause-status : goal.returns-clause-status
returns-clause-status c = rw (← c.in-Some.ensures.taken, ← c.deref.ensures, ← c.stored_row.ensures) elim c.match-stored_row.branch [
  | in-Some-stored_row w ↦ rw (w.in-Some-stored_row.is, w.status-is) refl
  | in-None w ↦ rw (w.in-None.is, w.status-is) refl
]
