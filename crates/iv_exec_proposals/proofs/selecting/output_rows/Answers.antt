use Rattle.iv_exec_proposals.specs.Selections.{output_at}
use Rattle.iv_exec_proposals.specs.Steps.{added}
use Rattle.iv_exec_proposals.proofs.Steps.{told_on}
use Rattle.iv_exec_proposals.proofs.Turning.{next_left, turned_on, turn_refused, all_turned}
use Rattle.iv_exec_proposals.proofs.selecting.output_rows.Goals as goal

pub loop-row-preserved : goal.loop-row-preserved
loop-row-preserved g c =
    turned_on (added (output_at c.args.scope.now c.args.expressions.now)) c.args.rows.now c.loop-row.row-index _ _ c.loop-row.invariant
    c.row-item.result _ (next_left _ _ c.row-item.result c.loop-row-test.true c.row-item.is) c.in_ok-push_output_row.ensures

pub returns-in_err-push_output_row : goal.returns-in_err-push_output_row
returns-in_err-push_output_row g c =
    told_on _ c.from_residual.result c.in_err-push_output_row.field-0.0 _ c.from_residual.ensures.1
    (turn_refused (added (output_at c.args.scope.now c.args.expressions.now)) c.args.rows.now c.loop-row.row-index _ _ c.loop-row.invariant
    c.row-item.result _ (next_left _ _ c.row-item.result c.loop-row-test.true c.row-item.is) c.in_err-push_output_row.ensures)

pub returns : goal.returns
returns g c =
    all_turned (added (output_at c.args.scope.now c.args.expressions.now)) c.args.rows.now c.loop-row.row-index _ _ c.loop-row.invariant c.loop-row-test.false
