use Rattle.iv_resolve_reasons.proofs.ShapesSo.{shapes_so}
use Rattle.iv_resolve_reasons.proofs.laws.shapes_are_so.Goals as goal

pub returns : goal.returns
returns c = shapes_so
