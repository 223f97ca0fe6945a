use Rattle.iv_step.proofs.WorkedScripts.{scripts}
use Rattle.iv_step.proofs.laws.worked_scripts.Goals as goal

pub returns : goal.returns
returns c = scripts
