use Rattle.sqlkeep_c.proofs.texts.sqlkeep_cause.Goals as goal
use Rattle.sqlkeep_c.proofs.texts.sqlkeep_cause.Goals.{in-Ok, in-Err}

pub returns-clause-bytes : goal.returns-clause-bytes
returns-clause-bytes c = rw (← c.in-Some.ensures.taken, ← c.deref.ensures) elim c.match-deref.branch [
  | in-Ok w ↦ rw w.in-Ok.is tt
  | in-Err w ↦ rw (w.in-Err.is, ← w.cause_words.ensures, ← w.as_bytes.ensures.value, w.count-is, w.buffer-is) w.copied.ensures
]

pub returns-clause-status : goal.returns-clause-status
returns-clause-status c = rw (← c.in-Some.ensures.taken, ← c.deref.ensures) elim c.match-deref.branch [
  | in-Ok w ↦ rw w.in-Ok.is w.status-is
  | in-Err w ↦ rw w.in-Err.is w.status-is
]
