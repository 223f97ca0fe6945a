use Rattle.std.proofs.Common.{refl}
use Rattle.sqlkeep_c.proofs.accounts.sqlkeep_entry_item.Goals as goal
use Rattle.sqlkeep_c.proofs.accounts.sqlkeep_entry_item.Goals.{in-Some-item_at, in-None}

pub returns-clause-item : goal.returns-clause-item
returns-clause-item c = rw (← c.in-Some.ensures.taken, ← c.deref.ensures, ← c.item_at.ensures) elim c.match-item_at.branch [
  | in-Some-item_at w ↦ rw (w.in-Some-item_at.is) w.shown-is
  | in-None w ↦ rw w.in-None.is tt
]

pub returns-clause-status : goal.returns-clause-status
returns-clause-status c = rw (← c.in-Some.ensures.taken, ← c.deref.ensures, ← c.item_at.ensures) elim c.match-item_at.branch [
  | in-Some-item_at w ↦ rw (w.in-Some-item_at.is, w.status-is) refl
  | in-None w ↦ rw (w.in-None.is, w.status-is) refl
]
