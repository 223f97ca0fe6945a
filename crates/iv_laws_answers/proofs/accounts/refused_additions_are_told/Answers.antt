use Rattle.iv_laws_answers.proofs.RefusalsTold.{refused_additions_are_told as refused_told, accepted_additions_are_not_told}
use Rattle.iv_laws_answers.proofs.accounts.refused_additions_are_told.Goals as goal

pub returns-clause-refused : goal.returns-clause-refused
returns-clause-refused c = refused_told

pub returns-clause-accepted : goal.returns-clause-accepted
returns-clause-accepted c = accepted_additions_are_not_told
