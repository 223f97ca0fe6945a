use Rattle.iv_template.proofs.ShapeProofs.{values_stand_at_holes}
use Rattle.iv_template.proofs.laws.values_stand_at_holes.Goals as goal

pub returns : goal.returns
returns c = values_stand_at_holes
