use Rattle.std.proofs.Common.{◌∙◌, ap}
use Rattle.iv_syntax.specs.Trees.{sum}
use Rattle.iv_syntax.proofs.TreeShapes.{sum_is}
use Rattle.iv_restate.proofs.parentheses.sum.Goals as goal

pub returns : goal.returns
returns c =
    sum_is c.args.sign c.in_ok-a.a c.in_ok-a.b
    ∙ ap (λ x. sum c.args.sign x c.in_ok-a.b) c.in_ok-a.ensures.0
    ∙ ap (sum c.args.sign c.args.a) c.in_ok-a.ensures.1
