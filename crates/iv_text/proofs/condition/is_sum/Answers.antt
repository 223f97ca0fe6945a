use Rattle.std.proofs.Common.{sym}
use Rattle.iv_text.proofs.ConditionLemmas.{is_sum_minus, is_sum_plus}
use Rattle.iv_text.proofs.condition.is_sum.Goals as goal

pub returns-in-Plus : goal.returns-in-Plus
returns-in-Plus c = sym (is_sum_plus c.args.shown c.args.expr.now _ _ c.in-Plus.is)

pub returns-in-Minus : goal.returns-in-Minus
returns-in-Minus c =
    sym (is_sum_minus c.args.shown c.args.expr.now c.in-Minus.a c.in-Minus.b c.get.result.now c.get-in-Minus.result.now c.is_signed.result
    c.in-Minus.is c.get.ensures c.get-in-Minus.ensures c.is_signed.ensures)
