use Rattle.iv_resolve_reasons.proofs.LimitsTold.{limit_faults_told}
use Rattle.iv_resolve_reasons.proofs.laws.limit_faults_are_told.Goals as goal

pub returns : goal.returns
returns c = limit_faults_told
