use Rattle.iv_parse.proofs.OneReading.{no_other_begins}
use Rattle.iv_parse.proofs.laws.no_other_begins.Goals as goal

pub returns : goal.returns
returns c = no_other_begins
