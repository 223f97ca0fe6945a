use Rattle.std.proofs.Common.{◌∙◌, ap, sym}
use Rattle.iv_expr.specs.References.{result_of}
use Rattle.iv_expr.proofs.Suiting.{value_fits}
use Rattle.iv_expr.proofs.expression.eval_ref.Goals as goal

pub returns-clause-suited : goal.returns-clause-suited
returns-clause-suited g c = λ suits is. value_fits c.args.scope.now c.args.expr.now suits (sym c.value_in.ensures ∙ ap result_of is)
