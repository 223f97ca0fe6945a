use Rattle.sqlkeep_c.proofs.queries.sqlkeep_query_column.Goals as goal

pub returns-clause-bytes : goal.returns-clause-bytes
returns-clause-bytes c = rw (← c.in-Some.ensures.taken, ← c.deref.ensures, ← c.query_column.ensures) c.copied_if_there-status.ensures.bytes

pub returns-clause-status : goal.returns-clause-status
returns-clause-status c = rw (← c.in-Some.ensures.taken, ← c.deref.ensures, ← c.query_column.ensures) c.copied_if_there-status.ensures.status
