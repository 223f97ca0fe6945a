use Rattle.std.proofs.Common.{refl}
use Rattle.sqlkeep_c.proofs.tables.sqlkeep_column.Goals as goal
use Rattle.sqlkeep_c.proofs.tables.sqlkeep_column.Goals.{in-Some-column_at, in-None}

pub returns-clause-kind : goal.returns-clause-kind
returns-clause-kind c = rw (← c.in-Some.ensures.taken, ← c.deref.ensures, ← c.column_at.ensures) elim c.match-column_at.branch [
  | in-Some-column_at w ↦ rw (w.in-Some-column_at.is, w.kind-is) w.kind_shown.ensures
  | in-None w ↦ rw w.in-None.is tt
]

pub returns-clause-status : goal.returns-clause-status
returns-clause-status c = rw (← c.in-Some.ensures.taken, ← c.deref.ensures, ← c.column_at.ensures) elim c.match-column_at.branch [
  | in-Some-column_at w ↦ rw (w.in-Some-column_at.is, w.status-is) refl
  | in-None w ↦ rw (w.in-None.is, w.status-is) refl
]
