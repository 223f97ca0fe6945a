use Rattle.iv_laws_answers.proofs.Telling.{all_that_begins_ends}
use Rattle.iv_laws_answers.proofs.accounts.all_that_begins_ends.Goals as goal

pub returns : goal.returns
returns c = all_that_begins_ends
