use Rattle.std.proofs.Common.{◌≡◌, drop, Ok}
use Rattle.iv_expr.specs.declared.row.StoredRow.{StoredRow}
use Rattle.iv_machine.specs.Context.{in_turn}
use Rattle.iv_machine.specs.Databases.{row_at}
use Rattle.iv_exec_proposals.specs.Steps.{added_of_row, added_of_numbers}
use Rattle.iv_exec_proposals.proofs.finding.rows_numbered.Given as goal

abbrev pub invariant-loop-number : goal.invariant-loop-number
invariant-loop-number g l =
    let rows = (g.K.ReferencingRows.view l.store).base.rows in
    in_turn (λ n. added_of_row (λ (r : StoredRow). Ok r.values) (row_at rows n)) (drop l.number-index l.numbers) l.rows.items
    ≡ added_of_numbers (λ (r : StoredRow). Ok r.values) rows l.numbers
