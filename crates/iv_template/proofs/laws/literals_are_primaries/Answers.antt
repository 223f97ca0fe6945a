use Rattle.iv_template.proofs.GrammarProofs.{literals_are_primaries}
use Rattle.iv_template.proofs.laws.literals_are_primaries.Goals as goal

pub returns : goal.returns
returns c = literals_are_primaries
