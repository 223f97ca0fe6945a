use Rattle.iv_resolve_reasons.proofs.ShapesTold.{shapes_told}
use Rattle.iv_resolve_reasons.proofs.laws.shapes_are_told.Goals as goal

pub returns : goal.returns
returns c = shapes_told
