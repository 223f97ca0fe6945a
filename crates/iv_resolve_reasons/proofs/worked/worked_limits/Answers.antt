use Rattle.iv_resolve_reasons.proofs.Computed.{limits}
use Rattle.iv_resolve_reasons.proofs.worked.worked_limits.Goals as goal

pub returns : goal.returns
returns c = limits
