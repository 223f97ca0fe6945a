use Rattle.sqlkeep_c.proofs.Lent.{element_lent}
use Rattle.sqlkeep_c.proofs.violations.sqlkeep_violation_about.Goals as goal
use Rattle.sqlkeep_c.proofs.violations.sqlkeep_violation_about.Goals.{in-Some-get, in-None}

pub returns-clause-violation : goal.returns-clause-violation
returns-clause-violation c = rw (← c.in-Some.ensures.taken, ← c.deref.ensures, ← c.as_slice.ensures.value, ← element_lent c.as_slice.result.now c.args.at c.get.result c.get.ensures.lookup) elim c.match-get.branch [
  | in-Some-get w ↦ rw (w.in-Some-get.is, w.violation-is, c.as_slice.ensures.value, c.deref.ensures, ← w.deref-in-Some-get.ensures) w.violation_shown.ensures
  | in-None w ↦ rw w.in-None.is tt
]

pub returns-clause-status : goal.returns-clause-status
returns-clause-status c = rw (← c.in-Some.ensures.taken, ← c.deref.ensures, ← c.as_slice.ensures.value, ← element_lent c.as_slice.result.now c.args.at c.get.result c.get.ensures.lookup) elim c.match-get.branch [
  | in-Some-get w ↦ rw w.in-Some-get.is w.status-is
  | in-None w ↦ rw w.in-None.is w.status-is
]
