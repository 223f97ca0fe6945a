use Rattle.iv_laws_rows.proofs.FittingProposals.{proposals_fit}
use Rattle.iv_laws_rows.proofs.laws.proposals_fit.Goals as goal

pub returns : goal.returns
returns c = proposals_fit
