use Rattle.iv_step.proofs.Differences.{lead}
use Rattle.iv_step.proofs.laws.differences_lead.Goals as goal

pub returns : goal.returns
returns c = lead
