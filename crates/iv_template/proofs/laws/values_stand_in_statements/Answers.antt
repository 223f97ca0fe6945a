use Rattle.iv_template.proofs.DataShapeProofs.{values_stand_in_deletes, values_stand_in_inserts, values_stand_in_selects, values_stand_in_updates}
use Rattle.iv_template.proofs.laws.values_stand_in_statements.Goals as goal

pub returns-clause-inserts : goal.returns-clause-inserts
returns-clause-inserts c = values_stand_in_inserts

pub returns-clause-updates : goal.returns-clause-updates
returns-clause-updates c = values_stand_in_updates

pub returns-clause-deletes : goal.returns-clause-deletes
returns-clause-deletes c = values_stand_in_deletes

pub returns-clause-selects : goal.returns-clause-selects
returns-clause-selects c = values_stand_in_selects
