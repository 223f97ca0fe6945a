use Rattle.iv_step.proofs.Occasions.{plans_keep}
use Rattle.iv_step.proofs.laws.plans_keep_the_occasion.Goals as goal

pub returns : goal.returns
returns c = plans_keep
