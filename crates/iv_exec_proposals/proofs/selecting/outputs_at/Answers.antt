use Rattle.iv_expr.specs.declared.tree.Expr.{Expr}
use Rattle.iv_expr.specs.Evaluation.{value}
use Rattle.iv_machine.specs.Proposals.{with_cause}
use Rattle.iv_exec_proposals.specs.Steps.{added}
use Rattle.iv_exec_proposals.proofs.Steps.{told_on}
use Rattle.iv_exec_proposals.proofs.Turning.{next_left, turned_on, turn_refused, all_turned}
use Rattle.iv_exec_proposals.proofs.selecting.outputs_at.Goals as goal

pub loop-expression-preserved : goal.loop-expression-preserved
loop-expression-preserved g c =
    turned_on (added (λ (e : Expr). with_cause (value c.args.scope.now e))) c.args.expressions.now c.loop-expression.expression-index _ _ c.loop-expression.invariant
    c.expression-item.result _ (next_left _ _ c.expression-item.result c.loop-expression-test.true c.expression-item.is) c.in_ok-push_output.ensures

pub returns-in_err-push_output : goal.returns-in_err-push_output
returns-in_err-push_output g c =
    told_on _ c.from_residual.result c.in_err-push_output.field-0.0 _ c.from_residual.ensures.1
    (turn_refused (added (λ (e : Expr). with_cause (value c.args.scope.now e))) c.args.expressions.now c.loop-expression.expression-index _ _ c.loop-expression.invariant
    c.expression-item.result _ (next_left _ _ c.expression-item.result c.loop-expression-test.true c.expression-item.is) c.in_err-push_output.ensures)

pub returns : goal.returns
returns g c =
    all_turned (added (λ (e : Expr). with_cause (value c.args.scope.now e))) c.args.expressions.now c.loop-expression.expression-index _ _ c.loop-expression.invariant c.loop-expression-test.false
