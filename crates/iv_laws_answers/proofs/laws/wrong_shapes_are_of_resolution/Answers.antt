use Rattle.iv_laws_answers.proofs.ShapeRefusals.{wrong_shapes_are_of_resolution}
use Rattle.iv_laws_answers.proofs.laws.wrong_shapes_are_of_resolution.Goals as goal

pub returns : goal.returns
returns c = wrong_shapes_are_of_resolution
