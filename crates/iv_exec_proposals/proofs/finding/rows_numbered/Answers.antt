use Rattle.std.proofs.Common.{ℕ, Ok}
use Rattle.std.proofs.lemmas.List.{drop_more}
use Rattle.iv_expr.specs.declared.row.StoredRow.{StoredRow}
use Rattle.iv_machine.specs.Databases.{row_at}
use Rattle.iv_exec_proposals.specs.Steps.{added_of_row}
use Rattle.iv_exec_proposals.proofs.Steps.{told_on}
use Rattle.iv_exec_proposals.proofs.Turning.{turned_on, turn_refused, all_turned}
use Rattle.iv_exec_proposals.proofs.finding.rows_numbered.Goals as goal

pub loop-number-preserved : goal.loop-number-preserved
loop-number-preserved g c =
    turned_on (λ (n : ℕ). added_of_row (λ (r : StoredRow). Ok r.values) (row_at (g.K.ReferencingRows.view c.args.store.now).base.rows n))
    c.args.numbers.now c.loop-number.number-index _ _ c.loop-number.invariant
    _ _ (drop_more c.args.numbers.now c.loop-number.number-index 0 c.loop-number-test.true) c.in_ok-push_row.ensures

pub returns-in_err-push_row : goal.returns-in_err-push_row
returns-in_err-push_row g c =
    told_on _ c.from_residual.result c.in_err-push_row.field-0.0 _ c.from_residual.ensures.1
    (turn_refused (λ (n : ℕ). added_of_row (λ (r : StoredRow). Ok r.values) (row_at (g.K.ReferencingRows.view c.args.store.now).base.rows n))
    c.args.numbers.now c.loop-number.number-index _ _ c.loop-number.invariant
    _ _ (drop_more c.args.numbers.now c.loop-number.number-index 0 c.loop-number-test.true) c.in_err-push_row.ensures)

pub returns : goal.returns
returns g c =
    all_turned (λ (n : ℕ). added_of_row (λ (r : StoredRow). Ok r.values) (row_at (g.K.ReferencingRows.view c.args.store.now).base.rows n))
    c.args.numbers.now c.loop-number.number-index _ _ c.loop-number.invariant c.loop-number-test.false
