use Rattle.std.proofs.Common.{refl}
use Rattle.sqlkeep_c.proofs.tables.sqlkeep_default_text.Goals as goal
use Rattle.sqlkeep_c.proofs.tables.sqlkeep_default_text.Goals.{in-Some-column_at, in-None}

pub returns-clause-bytes : goal.returns-clause-bytes
returns-clause-bytes c = rw (← c.in-Some.ensures.taken, ← c.deref.ensures, ← c.column_at.ensures) elim c.match-column_at.branch [
  | in-Some-column_at w ↦ rw (w.in-Some-column_at.is, ← w.text_of.ensures, w.count-is, w.buffer-is) w.copied.ensures
  | in-None w ↦ rw w.in-None.is tt
]

pub returns-clause-status : goal.returns-clause-status
returns-clause-status c = rw (← c.in-Some.ensures.taken, ← c.deref.ensures, ← c.column_at.ensures) elim c.match-column_at.branch [
  | in-Some-column_at w ↦ rw (w.in-Some-column_at.is, w.status-is) refl
  | in-None w ↦ rw (w.in-None.is, w.status-is) refl
]
