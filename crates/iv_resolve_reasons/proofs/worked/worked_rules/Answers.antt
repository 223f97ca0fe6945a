use Rattle.iv_resolve_reasons.proofs.Computed.{rules}
use Rattle.iv_resolve_reasons.proofs.worked.worked_rules.Goals as goal

pub returns : goal.returns
returns c = rules
