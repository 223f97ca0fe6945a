use Rattle.std.proofs.Common.{◌≡◌, drop}
use Rattle.iv_expr.specs.declared.tree.Expr.{Expr}
use Rattle.iv_expr.specs.Evaluation.{value}
use Rattle.iv_machine.specs.Context.{in_turn}
use Rattle.iv_machine.specs.Proposals.{with_cause}
use Rattle.iv_exec_proposals.specs.Steps.{added, all_added}
use Rattle.iv_exec_proposals.proofs.selecting.outputs_at.Given as goal

abbrev pub invariant-loop-expression : goal.invariant-loop-expression
invariant-loop-expression g l =
    let made = λ (e : Expr). with_cause (value l.scope e) in
    in_turn (added made) (drop l.expression-index l.expressions) l.values.items ≡ all_added made l.expressions
