use Rattle.iv_explain.proofs.Computed.{limits}
use Rattle.iv_explain.proofs.worked.worked_limits.Goals as goal

pub returns : goal.returns
returns c = limits
