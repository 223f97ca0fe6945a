use Rattle.std.proofs.Common.{sym}
use Rattle.iv_text.proofs.ConditionLemmas.{is_both_and}
use Rattle.iv_text.proofs.condition.is_both.Goals as goal

pub returns-in-And : goal.returns-in-And
returns-in-And c = sym (is_both_and c.args.cond.now _ _ c.in-And.is)
