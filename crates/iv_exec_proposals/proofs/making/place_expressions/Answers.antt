use Rattle.std.proofs.Common.{ℕ, Result}
use Rattle.iv_value.specs.declared.value.Value.{Value}
use Rattle.iv_expr.specs.declared.tree.ExprFault.{ExprFault}
use Rattle.iv_expr.specs.Evaluation.{value}
use Rattle.iv_exec_proposals.specs.Placements.{placed_at, target}
use Rattle.iv_exec_proposals.proofs.Steps.{told_on}
use Rattle.iv_exec_proposals.proofs.Turning.{next_left, placed_on, place_refused, all_in_place}
use Rattle.iv_exec_proposals.proofs.making.place_expressions.Goals as goal

pub loop-at-preserved : goal.loop-at-preserved
loop-at-preserved g c =
    placed_on (λ (s : ℕ × Result Value ExprFault). placed_at c.args.context.now c.args.table c.args.listed.now (target c.args.listed.now s.0) s.1) (value c.args.scope.now)
    c.args.expressions.now c.loop-at.at _ _ c.loop-at.invariant
    c.index-expressions-at.result _ (next_left _ _ c.index-expressions-at.result c.loop-at-test.true c.index-expressions-at.is) c.in_ok-place_expression.ensures

pub returns-in_err-place_expression : goal.returns-in_err-place_expression
returns-in_err-place_expression g c =
    told_on _ c.from_residual.result c.in_err-place_expression.field-0.0 _ c.from_residual.ensures.1
    (place_refused (λ (s : ℕ × Result Value ExprFault). placed_at c.args.context.now c.args.table c.args.listed.now (target c.args.listed.now s.0) s.1) (value c.args.scope.now)
    c.args.expressions.now c.loop-at.at _ _ c.loop-at.invariant
    c.index-expressions-at.result _ (next_left _ _ c.index-expressions-at.result c.loop-at-test.true c.index-expressions-at.is) c.in_err-place_expression.ensures)

pub returns : goal.returns
returns g c =
    all_in_place (λ (s : ℕ × Result Value ExprFault). placed_at c.args.context.now c.args.table c.args.listed.now (target c.args.listed.now s.0) s.1) (value c.args.scope.now)
    c.args.expressions.now c.loop-at.at _ _ c.loop-at.invariant c.loop-at-test.false
