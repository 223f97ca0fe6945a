use Rattle.std.proofs.Common.{refl}
use Rattle.sqlkeep_c.proofs.triggers.sqlkeep_trigger_at.Goals as goal
use Rattle.sqlkeep_c.proofs.triggers.sqlkeep_trigger_at.Goals.{in-Some-trigger_at, in-None}

pub returns-clause-trigger : goal.returns-clause-trigger
returns-clause-trigger c = rw (← c.in-Some.ensures.taken, ← c.deref.ensures, ← c.trigger_at.ensures) elim c.match-trigger_at.branch [
  | in-Some-trigger_at w ↦ rw (w.in-Some-trigger_at.is, w.trigger-is) w.trigger_shown.ensures
  | in-None w ↦ rw w.in-None.is tt
]

pub returns-clause-status : goal.returns-clause-status
returns-clause-status c = rw (← c.in-Some.ensures.taken, ← c.deref.ensures, ← c.trigger_at.ensures) elim c.match-trigger_at.branch [
  | in-Some-trigger_at w ↦ rw (w.in-Some-trigger_at.is, w.status-is) refl
  | in-None w ↦ rw (w.in-None.is, w.status-is) refl
]
