use Rattle.iv_explain.proofs.Computed.{shapes}
use Rattle.iv_explain.proofs.worked.worked_shapes.Goals as goal

pub returns : goal.returns
returns c = shapes
