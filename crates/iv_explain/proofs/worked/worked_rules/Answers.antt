use Rattle.iv_explain.proofs.Computed.{rules}
use Rattle.iv_explain.proofs.worked.worked_rules.Goals as goal

pub returns : goal.returns
returns c = rules
