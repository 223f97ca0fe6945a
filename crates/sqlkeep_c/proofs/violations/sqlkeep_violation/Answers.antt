use Rattle.sqlkeep_c.proofs.Lent.{element_lent}
use Rattle.sqlkeep_c.proofs.violations.sqlkeep_violation.Goals as goal
use Rattle.sqlkeep_c.proofs.violations.sqlkeep_violation.Goals.{in-Some-get, in-None}

pub returns-clause-row : goal.returns-clause-row
returns-clause-row c = rw (← c.in-Some.ensures.taken, ← c.deref.ensures, ← c.deref-2.ensures.value, ← element_lent c.deref-2.result.now c.args.at c.get.result c.get.ensures.lookup) elim c.match-get.branch [
  | in-Some-get w ↦ rw (w.in-Some-get.is) w.row-is
  | in-None w ↦ rw w.in-None.is tt
]

pub returns-clause-status : goal.returns-clause-status
returns-clause-status c = rw (← c.in-Some.ensures.taken, ← c.deref.ensures, ← c.deref-2.ensures.value, ← element_lent c.deref-2.result.now c.args.at c.get.result c.get.ensures.lookup) elim c.match-get.branch [
  | in-Some-get w ↦ rw w.in-Some-get.is w.status-is
  | in-None w ↦ rw w.in-None.is w.status-is
]
