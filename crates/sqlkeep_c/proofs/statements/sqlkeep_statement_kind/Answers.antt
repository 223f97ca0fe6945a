use Rattle.sqlkeep_c.proofs.Lent.{element_lent}
use Rattle.sqlkeep_c.proofs.statements.sqlkeep_statement_kind.Goals as goal
use Rattle.sqlkeep_c.proofs.statements.sqlkeep_statement_kind.Goals.{in-Some-get, in-None}

pub returns-clause-kind : goal.returns-clause-kind
returns-clause-kind c = rw (← c.in-Some.ensures.taken, ← c.deref.ensures, ← c.as_slice.ensures, ← element_lent c.as_slice.result.now c.args.at c.get.result c.get.ensures.lookup) elim c.match-get.branch [
  | in-Some-get w ↦ rw (w.in-Some-get.is, w.kind-is) w.kind_of.ensures
  | in-None w ↦ rw w.in-None.is tt
]

pub returns-clause-status : goal.returns-clause-status
returns-clause-status c = rw (← c.in-Some.ensures.taken, ← c.deref.ensures, ← c.as_slice.ensures, ← element_lent c.as_slice.result.now c.args.at c.get.result c.get.ensures.lookup) elim c.match-get.branch [
  | in-Some-get w ↦ rw w.in-Some-get.is w.status-is
  | in-None w ↦ rw w.in-None.is w.status-is
]
