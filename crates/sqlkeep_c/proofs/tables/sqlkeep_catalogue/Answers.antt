use Rattle.std.proofs.Common.{refl}
use Rattle.sqlkeep_c.proofs.tables.sqlkeep_catalogue.Goals as goal

pub returns-clause-counts : goal.returns-clause-counts
returns-clause-counts c = rw (← c.in-Some.ensures.taken, ← c.deref.ensures, ← c.catalogue-catalogue.ensures, ← c.tables.ensures.tables, ← c.constraints.ensures.constraints, ← c.triggers.ensures.triggers) refl

pub returns-clause-status : goal.returns-clause-status
returns-clause-status c = rw (← c.in-Some.ensures.taken) refl
