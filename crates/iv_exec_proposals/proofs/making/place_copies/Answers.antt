use Rattle.std.proofs.Common.{ℕ, Result, Ok}
use Rattle.iv_value.specs.declared.value.Value.{Value}
use Rattle.iv_expr.specs.declared.tree.ExprFault.{ExprFault}
use Rattle.iv_exec_proposals.specs.Placements.{placed_at, target}
use Rattle.iv_exec_proposals.proofs.Steps.{told_on}
use Rattle.iv_exec_proposals.proofs.Turning.{next_left, placed_on, place_refused, all_in_place}
use Rattle.iv_exec_proposals.proofs.making.place_copies.Goals as goal

pub loop-at-preserved : goal.loop-at-preserved
loop-at-preserved c =
    placed_on (λ (s : ℕ × Result Value ExprFault). placed_at c.args.context.now c.args.table c.args.listed.now (target c.args.listed.now s.0) s.1) (λ v. Ok v)
    c.args.values.now c.loop-at.at _ _ c.loop-at.invariant
    c.index-values-at.result _ (next_left _ _ c.index-values-at.result c.loop-at-test.true c.index-values-at.is) c.in_ok-place_copy.ensures

pub returns-in_err-place_copy : goal.returns-in_err-place_copy
returns-in_err-place_copy c =
    told_on _ c.from_residual.result c.in_err-place_copy.field-0.0 _ c.from_residual.ensures.1
    (place_refused (λ (s : ℕ × Result Value ExprFault). placed_at c.args.context.now c.args.table c.args.listed.now (target c.args.listed.now s.0) s.1) (λ v. Ok v)
    c.args.values.now c.loop-at.at _ _ c.loop-at.invariant
    c.index-values-at.result _ (next_left _ _ c.index-values-at.result c.loop-at-test.true c.index-values-at.is) c.in_err-place_copy.ensures)

pub returns : goal.returns
returns c =
    all_in_place (λ (s : ℕ × Result Value ExprFault). placed_at c.args.context.now c.args.table c.args.listed.now (target c.args.listed.now s.0) s.1) (λ v. Ok v)
    c.args.values.now c.loop-at.at _ _ c.loop-at.invariant c.loop-at-test.false
