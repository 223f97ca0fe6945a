use Rattle.std.proofs.Common.{sym}
use Rattle.iv_text.proofs.ConditionLemmas.{is_either_or}
use Rattle.iv_text.proofs.condition.is_either.Goals as goal

pub returns-in-Or : goal.returns-in-Or
returns-in-Or c = sym (is_either_or c.args.cond.now _ _ c.in-Or.is)
