use Rattle.iv_resolution.proofs.Computed.{statements}
use Rattle.iv_resolution.proofs.worked.worked_statements.Goals as goal

pub returns : goal.returns
returns c = statements
