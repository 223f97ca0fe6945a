use Rattle.iv_resolve_reasons.proofs.Computed.{shapes}
use Rattle.iv_resolve_reasons.proofs.worked.worked_shapes.Goals as goal

pub returns : goal.returns
returns c = shapes
