use Rattle.iv_laws_answers.proofs.RefusalsTold.{standing_are_told, others_are_not_told}
use Rattle.iv_laws_answers.proofs.accounts.standing_savepoints_are_told.Goals as goal

pub returns-clause-missing : goal.returns-clause-missing
returns-clause-missing c = standing_are_told

pub returns-clause-there : goal.returns-clause-there
returns-clause-there c = others_are_not_told
