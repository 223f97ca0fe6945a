use Rattle.std.proofs.Common.{refl}
use Rattle.sqlkeep_c.proofs.tables.sqlkeep_table.Goals as goal
use Rattle.sqlkeep_c.proofs.tables.sqlkeep_table.Goals.{in-Some-columns_at, in-None}

pub returns-clause-columns : goal.returns-clause-columns
returns-clause-columns c = rw (← c.in-Some.ensures.taken, ← c.deref.ensures, ← c.columns_at.ensures) elim c.match-columns_at.branch [
  | in-Some-columns_at w ↦ rw (w.in-Some-columns_at.is, w.columns-is) refl
  | in-None w ↦ rw w.in-None.is tt
]

pub returns-clause-status : goal.returns-clause-status
returns-clause-status c = rw (← c.in-Some.ensures.taken, ← c.deref.ensures, ← c.columns_at.ensures) elim c.match-columns_at.branch [
  | in-Some-columns_at w ↦ rw w.in-Some-columns_at.is w.status-is
  | in-None w ↦ rw w.in-None.is w.status-is
]
