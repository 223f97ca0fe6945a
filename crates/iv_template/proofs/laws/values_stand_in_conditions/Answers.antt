use Rattle.iv_template.proofs.ConditionShapeProofs.{values_stand_in_conditions}
use Rattle.iv_template.proofs.laws.values_stand_in_conditions.Goals as goal

pub returns : goal.returns
returns c = values_stand_in_conditions
