use Rattle.iv_resolve_reasons.proofs.RulesSo.{rules_so}
use Rattle.iv_resolve_reasons.proofs.laws.rules_are_so.Goals as goal

pub returns : goal.returns
returns c = rules_so
