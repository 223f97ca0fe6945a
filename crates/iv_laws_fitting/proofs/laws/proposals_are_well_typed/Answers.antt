use Rattle.iv_laws_fitting.proofs.Running.{proposals_are_well_typed}
use Rattle.iv_laws_fitting.proofs.laws.proposals_are_well_typed.Goals as goal

pub returns : goal.returns
returns c = proposals_are_well_typed
