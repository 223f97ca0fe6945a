use Rattle.std.proofs.Common.{sym}
use Rattle.iv_text.proofs.ConditionLemmas.{is_negated_not}
use Rattle.iv_text.proofs.condition.is_negated.Goals as goal

pub returns-in-Not : goal.returns-in-Not
returns-in-Not c = sym (is_negated_not c.args.cond.now c.in-Not.a c.get.result.now c.is_null_test.result c.in-Not.is c.get.ensures c.is_null_test.ensures)
