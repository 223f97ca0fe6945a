use Rattle.std.proofs.Common.{arith, ap, sym, ◌∙◌, ◌++◌, ◌∷◌, ℕ, List, []}
use Rattle.iv_value.specs.declared.value.Value.{Value}
use Rattle.iv_expr.specs.declared.row.StoredRow.{StoredRow}
use Rattle.iv_expr.specs.Scopes.{table_rows}
use Rattle.iv_expr.proofs.Scan.{rows_above, above_all, scan_above, scan_small}
use Rattle.iv_exec_proposals.specs.Steps.{number_taken}
use Rattle.iv_exec_proposals.proofs.Along.{along, scanned_on, scanned_refused, scanned_all}
use Rattle.iv_exec_proposals.proofs.LeftOut.{left_out}
use Rattle.iv_exec_proposals.proofs.Steps.{told_on}
use Rattle.iv_exec_proposals.proofs.finding.numbers_where.Goals as goal

pub loop-number-init : goal.loop-number-init
loop-number-init g c =
    let step = number_taken c.args.scope.now c.args.filter.now in
    ap (λ (f : List ℕ). along step (rows_above 0 c.search-search.result) f) c.new-found.ensures.items
    ∙ ap (λ (x : List StoredRow). along step x []) (above_all 0 0 _ c.recall_order.ensures (omega arith))
    ∙ sym (left_out c.args.scope.now c.args.filter.now (λ r f. f ++ r.number ∷ []) (table_rows c.args.scope.now.rows c.args.table) c.search-search.result c.search-search.ensures [])

pub loop-number-smaller : goal.loop-number-smaller
loop-number-smaller g c =
    let p : ℕ × List Value = (c.in-Some.number, c.in-Some.row.now) in
    omega (arith, scan_above c.loop-number.after _ p c.in-Some.ensures, scan_small c.loop-number.after _ p c.recall_order.ensures c.in-Some.ensures)

pub loop-number-preserved : goal.loop-number-preserved
loop-number-preserved g c =
    scanned_on (number_taken c.args.scope.now c.args.filter.now) _ c.loop-number.after (c.in-Some.number, c.in-Some.row.now) _ _ _
    c.recall_order.ensures c.in-Some.ensures c.in_ok-take_number.ensures c.loop-number.invariant

pub returns-in_err-take_number : goal.returns-in_err-take_number
returns-in_err-take_number g c =
    told_on _ c.from_residual.result c.in_err-take_number.field-0.0 _ c.from_residual.ensures.1
    (scanned_refused (number_taken c.args.scope.now c.args.filter.now) _ c.loop-number.after (c.in-Some.number, c.in-Some.row.now) _ _ _
    c.recall_order.ensures c.in-Some.ensures c.loop-number.invariant c.in_err-take_number.ensures)

pub returns : goal.returns
returns g c = scanned_all (number_taken c.args.scope.now c.args.filter.now) _ c.loop-number.after _ _ c.in_default.ensures c.loop-number.invariant
