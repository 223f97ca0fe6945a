use Rattle.std.proofs.Common.{◌∙◌, sym}
use Rattle.iv_expr.proofs.Suiting.{truth_fits}
use Rattle.iv_expr.proofs.condition.truth.Goals as goal

pub returns-clause-suited : goal.returns-clause-suited
returns-clause-suited g c = λ suits is. truth_fits c.args.scope.now c.args.cond.now suits (sym c.truth_in.ensures ∙ is)
