use Rattle.iv_dump.proofs.LawsOfDumps.{constraints_said, inserts_committed, rows_are_inserted, triggers_last}
use Rattle.iv_dump.proofs.laws.dumps_make_all.Goals as goal

pub returns-clause-rows : goal.returns-clause-rows
returns-clause-rows c = rows_are_inserted

pub returns-clause-commits : goal.returns-clause-commits
returns-clause-commits c = inserts_committed

pub returns-clause-constraints : goal.returns-clause-constraints
returns-clause-constraints c = constraints_said

pub returns-clause-triggers : goal.returns-clause-triggers
returns-clause-triggers c = triggers_last
