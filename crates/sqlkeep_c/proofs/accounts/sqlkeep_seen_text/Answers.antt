use Rattle.sqlkeep_c.proofs.accounts.sqlkeep_seen_text.Goals as goal

pub returns-clause-bytes : goal.returns-clause-bytes
returns-clause-bytes c = rw (← c.in-Some.ensures.taken, ← c.deref.ensures, ← c.seen_value.ensures) c.copy_text-status.ensures.bytes

pub returns-clause-status : goal.returns-clause-status
returns-clause-status c = rw (← c.in-Some.ensures.taken, ← c.deref.ensures, ← c.seen_value.ensures) c.copy_text-status.ensures.status
