use Rattle.std.proofs.Common.{refl}
use Rattle.sqlkeep_c.proofs.accounts.sqlkeep_disagreement.Goals as goal
use Rattle.sqlkeep_c.proofs.accounts.sqlkeep_disagreement.Goals.{in-Some-disagreement_at, in-None}

pub returns-clause-disagreement : goal.returns-clause-disagreement
returns-clause-disagreement c = rw (← c.in-Some.ensures.taken, ← c.deref.ensures, ← c.disagreement_at.ensures) elim c.match-disagreement_at.branch [
  | in-Some-disagreement_at w ↦ rw (w.in-Some-disagreement_at.is, w.shown-is) w.disagreement_shown.ensures
  | in-None w ↦ rw w.in-None.is tt
]

pub returns-clause-status : goal.returns-clause-status
returns-clause-status c = rw (← c.in-Some.ensures.taken, ← c.deref.ensures, ← c.disagreement_at.ensures) elim c.match-disagreement_at.branch [
  | in-Some-disagreement_at w ↦ rw (w.in-Some-disagreement_at.is, w.status-is) refl
  | in-None w ↦ rw (w.in-None.is, w.status-is) refl
]
