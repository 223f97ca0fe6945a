use Rattle.std.proofs.Common.{sym}
use Rattle.iv_text.proofs.ConditionLemmas.{is_product_times}
use Rattle.iv_text.proofs.condition.is_product.Goals as goal

pub returns-in-Times : goal.returns-in-Times
returns-in-Times c = sym (is_product_times c.args.expr.now _ _ c.in-Times.is)
