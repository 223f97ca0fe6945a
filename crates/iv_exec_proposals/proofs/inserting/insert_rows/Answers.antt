use Rattle.std.proofs.Common.{List}
use Rattle.iv_value.specs.declared.value.Value.{Value}
use Rattle.iv_machine.specs.Proposals.{insertion_of, outputs_of}
use Rattle.iv_exec_proposals.specs.Steps.{added}
use Rattle.iv_exec_proposals.proofs.Steps.{told_on}
use Rattle.iv_exec_proposals.proofs.Turning.{next_left, turned_on, turn_refused, all_turned}
use Rattle.iv_exec_proposals.proofs.inserting.insert_rows.Goals as goal

pub loop-row-preserved : goal.loop-row-preserved
loop-row-preserved g c =
    turned_on (added (λ (r : List Value). insertion_of c.args.context.now c.args.table c.args.listed.now (outputs_of c.args.scope.now c.args.outputs.now r)))
    c.args.rows.now c.loop-row.row-index _ _ c.loop-row.invariant
    c.row-item.result _ (next_left _ _ c.row-item.result c.loop-row-test.true c.row-item.is) c.in_ok-insert_row.ensures

pub returns-in_err-insert_row : goal.returns-in_err-insert_row
returns-in_err-insert_row g c =
    told_on _ c.from_residual.result c.in_err-insert_row.field-0.0 _ c.from_residual.ensures.1
    (turn_refused (added (λ (r : List Value). insertion_of c.args.context.now c.args.table c.args.listed.now (outputs_of c.args.scope.now c.args.outputs.now r)))
    c.args.rows.now c.loop-row.row-index _ _ c.loop-row.invariant
    c.row-item.result _ (next_left _ _ c.row-item.result c.loop-row-test.true c.row-item.is) c.in_err-insert_row.ensures)

pub returns : goal.returns
returns g c =
    all_turned (added (λ (r : List Value). insertion_of c.args.context.now c.args.table c.args.listed.now (outputs_of c.args.scope.now c.args.outputs.now r)))
    c.args.rows.now c.loop-row.row-index _ _ c.loop-row.invariant c.loop-row-test.false
