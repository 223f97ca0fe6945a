use Rattle.std.proofs.Common.{refl}
use Rattle.sqlkeep_c.proofs.queries.sqlkeep_query.Goals as goal
use Rattle.sqlkeep_c.proofs.queries.sqlkeep_query.Goals.{in-Some-query_columns, in-None}

pub returns-clause-columns : goal.returns-clause-columns
returns-clause-columns c = rw (← c.in-Some.ensures.taken, ← c.deref.ensures, ← c.query_columns.ensures) elim c.match-query_columns.branch [
  | in-Some-query_columns w ↦ rw (w.in-Some-query_columns.is) w.columns-is
  | in-None w ↦ rw w.in-None.is tt
]

pub returns-clause-status : goal.returns-clause-status
returns-clause-status c = rw (← c.in-Some.ensures.taken, ← c.deref.ensures, ← c.query_columns.ensures) elim c.match-query_columns.branch [
  | in-Some-query_columns w ↦ rw (w.in-Some-query_columns.is, w.status-is) refl
  | in-None w ↦ rw (w.in-None.is, w.status-is) refl
]
