use Rattle.std.proofs.Common.{◌∙◌, ap, sym}
use Rattle.iv_expr.specs.References.{result_of}
use Rattle.iv_expr.proofs.Suiting.{value_fits}
use Rattle.iv_expr.proofs.expression.eval.Goals as goal

pub returns-in-Err-clause-suited : goal.returns-in-Err-clause-suited
returns-in-Err-clause-suited g c = λ suits is. value_fits c.args.scope.now c.args.expr.now suits (sym c.value_in.ensures ∙ ap result_of c.in-Err.is ∙ is)
