use Rattle.iv_parse_data.proofs.Taking.{item_takes}
use Rattle.iv_parse_data.proofs.referencing.ReferencingParseSome.recall_word.Goals as goal

pub returns : goal.returns
returns c = item_takes
