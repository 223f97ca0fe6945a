use Rattle.sqlkeep_c.proofs.accounts.sqlkeep_entry_name.Goals as goal

pub returns-clause-bytes : goal.returns-clause-bytes
returns-clause-bytes c = rw (← c.in-Some.ensures.taken, ← c.deref.ensures, ← c.entry_name_at.ensures) c.copied_if_there-status.ensures.bytes

pub returns-clause-status : goal.returns-clause-status
returns-clause-status c = rw (← c.in-Some.ensures.taken, ← c.deref.ensures, ← c.entry_name_at.ensures) c.copied_if_there-status.ensures.status
