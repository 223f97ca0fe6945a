use Rattle.std.proofs.Common.{Some, ap}
use Rattle.sqlkeep_c.proofs.statements.sqlkeep_lines_json.Goals as goal

pub returns-clause-lines : goal.returns-clause-lines
returns-clause-lines c = rw (← c.in-Some.ensures.taken, c.put.ensures, ← c.deref_mut.ensures.value) c.keep_lines-status.ensures.lines

pub returns-clause-rest : goal.returns-clause-rest
returns-clause-rest c = rw (← c.in-Some.ensures.taken, c.put.ensures, ← c.deref_mut.ensures.value) c.keep_lines-status.ensures.rest

pub returns-clause-others : goal.returns-clause-others
returns-clause-others c = rw (← c.in-Some.ensures.taken, c.put.ensures, ← c.deref_mut.ensures.value) (λ no. ap Some (c.keep_lines-status.ensures.others no))

pub returns-clause-status : goal.returns-clause-status
returns-clause-status c = rw (← c.in-Some.ensures.taken) c.keep_lines-status.ensures.status
