use Rattle.sqlkeep_c.proofs.rows.sqlkeep_value_text.Goals as goal
use Rattle.sqlkeep_c.proofs.rows.sqlkeep_value_text.Goals.{in-Some-found, in-None}

pub returns-clause-bytes : goal.returns-clause-bytes
returns-clause-bytes c = rw (← c.in-Some.ensures.taken, ← c.deref.ensures, ← c.value_at-found.ensures) elim c.match-found.branch [
  | in-Some-found w ↦ rw (w.in-Some-found.is, ← w.text_of.ensures, w.count-is, w.buffer-is) w.copied.ensures
  | in-None w ↦ rw w.in-None.is tt
]

pub returns-clause-status : goal.returns-clause-status
returns-clause-status c = rw (← c.in-Some.ensures.taken, ← c.deref.ensures, ← c.value_at-found.ensures) elim c.match-found.branch [
  | in-Some-found w ↦ rw w.in-Some-found.is w.status-is
  | in-None w ↦ rw w.in-None.is w.status-is
]
