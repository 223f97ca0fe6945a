use Rattle.iv_parse.proofs.OneReading.{one_statement}
use Rattle.iv_parse.proofs.laws.one_statement.Goals as goal

pub returns : goal.returns
returns c = one_statement
