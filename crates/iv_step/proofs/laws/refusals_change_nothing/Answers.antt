use Rattle.iv_step.proofs.Refused.{refusals_change_nothing}
use Rattle.iv_step.proofs.laws.refusals_change_nothing.Goals as goal

pub returns : goal.returns
returns c = refusals_change_nothing
