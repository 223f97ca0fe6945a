use Rattle.iv_resolve_name_faults.proofs.RefusalsTold.{refusals_told}
use Rattle.iv_resolve_name_faults.proofs.laws.refusals_are_told.Goals as goal

pub returns : goal.returns
returns c = refusals_told
