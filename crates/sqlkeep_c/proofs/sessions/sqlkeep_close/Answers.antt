use Rattle.std.proofs.Common.{refl}
use Rattle.sqlkeep_c.proofs.sessions.sqlkeep_close.Goals as goal

pub returns-in-None-clause-status : goal.returns-in-None-clause-status
returns-in-None-clause-status c = rw (← c.in-None.ensures.taken) refl
