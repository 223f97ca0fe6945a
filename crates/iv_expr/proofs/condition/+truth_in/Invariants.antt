use Rattle.std.proofs.Common.{◌≡◌, List, map, drop, ◌-◌, ◌^◌}
use Rattle.iv_expr.specs.Evaluation.{truth, any_true}
use Rattle.iv_expr.specs.Scopes.{contents, table_rows, transition_rows, within}
use Rattle.iv_expr.specs.Types.{Value}
use Rattle.iv_expr.proofs.Anys.{any_from}
use Rattle.iv_expr.proofs.Scan.{rows_above}
use Rattle.iv_expr.proofs.condition.+truth_in.Given as goal

abbrev pub invariant-exists_in_transition-loop-change : goal.invariant-exists_in_transition-loop-change
invariant-exists_in_transition-loop-change g l =
    let at = λ (row : List Value). truth (within l.scope row) l.cond in
    any_from l.found (map at (transition_rows l.side (drop l.change-index l.change-items))) ≡ any_true (map at (transition_rows l.side l.scope.frame.transition))

abbrev pub invariant-exists_in_table-loop-number : goal.invariant-exists_in_table-loop-number
invariant-exists_in_table-loop-number g l =
    let at = λ (row : List Value). truth (within l.scope row) l.cond in
    any_from l.found (map at (contents (rows_above l.after l.search))) ≡ any_true (map at (contents (table_rows l.scope.rows l.fn.table)))

abbrev pub decreases-exists_in_table-loop-number : goal.decreases-exists_in_table-loop-number
decreases-exists_in_table-loop-number g l = 2 ^ 64 - l.after
