use Rattle.iv_explain.proofs.Computed.{causes}
use Rattle.iv_explain.proofs.worked.worked_causes.Goals as goal

pub returns : goal.returns
returns c = causes
