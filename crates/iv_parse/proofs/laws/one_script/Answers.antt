use Rattle.iv_parse.proofs.OneReading.{one_script}
use Rattle.iv_parse.proofs.laws.one_script.Goals as goal

pub returns : goal.returns
returns c = one_script
