use Rattle.std.proofs.Common.{arith, ◌∙◌, ap, sym, refl, map, false, List, ℕ, Ok}
use Rattle.iv_expr.specs.Types.{Value, Truth, StoredRow, Change}
use Rattle.iv_expr.specs.Evaluation.{truth}
use Rattle.iv_expr.specs.Scopes.{contents, table_rows, transition_rows, within}
use Rattle.iv_expr.proofs.Anys.{any_from, any_is}
use Rattle.iv_expr.proofs.Steps.{truth_exists_at}
use Rattle.iv_expr.proofs.Sought.{any_of_found}
use Rattle.iv_expr.proofs.Scan.{above_all, scan_above, scan_small, scan_step, scan_fault, scan_none, at_row}
use Rattle.iv_expr.proofs.condition.+truth_in.Goals as goal

pub exists_in_table-loop-number-init : goal.exists_in_table-loop-number-init
exists_in_table-loop-number-init g t c =
    let at = λ (row : List Value). truth (within c.args.scope.now row) c.args.cond.now in
    ap (λ (x : List StoredRow). any_from false (map at (contents x))) (above_all 0 0 _ c.recall_order.ensures (omega arith))
    ∙ any_is (map at (contents c.search-search.result))
    ∙ sym (any_of_found at (table_rows c.args.scope.now.rows c.args.table) c.search-search.result c.search-search.ensures)

pub exists_in_transition-loop-change-init : goal.exists_in_transition-loop-change-init
exists_in_transition-loop-change-init g t c =
    ap (λ (x : List Change). any_from false (map (λ (row : List Value). truth (within c.args.scope.now row) c.args.cond.now) (transition_rows c.args.side x))) c.transition-change-items.ensures
    ∙ any_is (map (λ (row : List Value). truth (within c.args.scope.now row) c.args.cond.now) (transition_rows c.args.side c.args.scope.now.frame.transition))

pub exists_in_table-loop-number-smaller : goal.exists_in_table-loop-number-smaller
exists_in_table-loop-number-smaller g t c =
    let p : ℕ × List Value = (c.in-Some.number, c.in-Some.row.now) in
    omega (arith, scan_above c.loop-number.after _ p c.in-Some.ensures, scan_small c.loop-number.after _ p c.recall_order.ensures c.in-Some.ensures)

pub exists_in_table-loop-number-preserved : goal.exists_in_table-loop-number-preserved
exists_in_table-loop-number-preserved g t c =
    let here = at_row c.args.scope.now _ _ c.in-Some.row.now c.args.cond.now _ _ c.truth_in.ensures c.over.ensures c.ranges_with-ranges.ensures c.in-Ok.is in
    rw c.or_true-found.ensures
    (sym (scan_step (λ row. truth (within c.args.scope.now row) c.args.cond.now) c.loop-number.found _ c.loop-number.after (c.in-Some.number, c.in-Some.row.now) c.in-Ok.at_row c.recall_order.ensures c.in-Some.ensures here) ∙ c.loop-number.invariant)

pub exists_in_table-returns-in-Err : goal.exists_in_table-returns-in-Err
exists_in_table-returns-in-Err g t c =
    let here = at_row c.args.scope.now _ _ c.in-Some.row.now c.args.cond.now _ _ c.truth_in.ensures c.over.ensures c.ranges_with-ranges.ensures c.in-Err.is in
    sym (scan_fault (λ row. truth (within c.args.scope.now row) c.args.cond.now) c.loop-number.found _ c.loop-number.after (c.in-Some.number, c.in-Some.row.now) c.in-Err.fault c.recall_order.ensures c.in-Some.ensures here) ∙ c.loop-number.invariant

pub exists_in_table-returns : goal.exists_in_table-returns
exists_in_table-returns g t c =
    ap (λ (x : Truth). Ok x) c.of.ensures
    ∙ ap (λ (x : List StoredRow). any_from c.loop-number.found (map (λ (row : List Value). truth (within c.args.scope.now row) c.args.cond.now) (contents x))) (sym (scan_none c.loop-number.after _ c.in_default.ensures))
    ∙ c.loop-number.invariant

pub truth_in-returns-in-Table : goal.truth_in-returns-in-Table
truth_in-returns-in-Table g t c = rw (truth_exists_at _ _ _ _ c.in-Exists.is, c.in-Table.is, c.exists_in_table.ensures, c.get-in-Table.ensures) refl

pub truth_in-returns-in-Transition : goal.truth_in-returns-in-Transition
truth_in-returns-in-Transition g t c = rw (truth_exists_at _ _ _ _ c.in-Exists.is, c.in-Transition.is, c.exists_in_transition.ensures, c.get-in-Transition.ensures) refl
