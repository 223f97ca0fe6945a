use Rattle.std.proofs.Common.{refl}
use Rattle.sqlkeep_c.proofs.Lent.{element_lent}
use Rattle.sqlkeep_c.proofs.rows.sqlkeep_columns.Goals as goal
use Rattle.sqlkeep_c.proofs.rows.sqlkeep_columns.Goals.{in-Some-get, in-None}

pub returns-clause-count : goal.returns-clause-count
returns-clause-count c = rw (← c.in-Some.ensures.taken, ← c.deref.ensures, ← c.rows_of.ensures, ← element_lent c.rows_of.result.now c.args.row c.get.result c.get.ensures.lookup) elim c.match-get.branch [
  | in-Some-get w ↦ rw (w.in-Some-get.is, w.count-is, ← w.values.ensures) refl
  | in-None w ↦ rw w.in-None.is tt
]

pub returns-clause-status : goal.returns-clause-status
returns-clause-status c = rw (← c.in-Some.ensures.taken, ← c.deref.ensures, ← c.rows_of.ensures, ← element_lent c.rows_of.result.now c.args.row c.get.result c.get.ensures.lookup) elim c.match-get.branch [
  | in-Some-get w ↦ rw w.in-Some-get.is w.status-is
  | in-None w ↦ rw w.in-None.is w.status-is
]
