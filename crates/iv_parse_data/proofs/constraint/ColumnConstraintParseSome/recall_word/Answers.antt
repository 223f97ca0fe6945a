use Rattle.iv_parse_data.proofs.Taking.{constraint_takes}
use Rattle.iv_parse_data.proofs.constraint.ColumnConstraintParseSome.recall_word.Goals as goal

pub returns : goal.returns
returns c = constraint_takes
