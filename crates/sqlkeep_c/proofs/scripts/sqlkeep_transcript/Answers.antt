use Rattle.std.proofs.Common.{refl}
use Rattle.sqlkeep_c.proofs.scripts.sqlkeep_transcript.Goals as goal

pub returns-clause-bytes : goal.returns-clause-bytes
returns-clause-bytes c = rw (← c.in-Some.ensures.taken, ← c.deref.ensures, ← c.as_slice.ensures.value) c.copied.ensures

pub returns-clause-status : goal.returns-clause-status
returns-clause-status c = rw (← c.in-Some.ensures.taken) refl
