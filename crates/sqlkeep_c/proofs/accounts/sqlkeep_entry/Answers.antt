use Rattle.std.proofs.Common.{refl}
use Rattle.sqlkeep_c.proofs.accounts.sqlkeep_entry.Goals as goal
use Rattle.sqlkeep_c.proofs.accounts.sqlkeep_entry.Goals.{in-Some-entry_at, in-None}

pub returns-clause-entry : goal.returns-clause-entry
returns-clause-entry c = rw (← c.in-Some.ensures.taken, ← c.deref.ensures, ← c.entry_at.ensures) elim c.match-entry_at.branch [
  | in-Some-entry_at w ↦ rw (w.in-Some-entry_at.is, w.entry-is) w.entry_shown.ensures
  | in-None w ↦ rw w.in-None.is tt
]

pub returns-clause-status : goal.returns-clause-status
returns-clause-status c = rw (← c.in-Some.ensures.taken, ← c.deref.ensures, ← c.entry_at.ensures) elim c.match-entry_at.branch [
  | in-Some-entry_at w ↦ rw (w.in-Some-entry_at.is, w.status-is) refl
  | in-None w ↦ rw (w.in-None.is, w.status-is) refl
]
