use Rattle.std.proofs.Common.{◌≡◌, List, drop, ◌-◌, ◌^◌}
use Rattle.iv_value.specs.declared.value.Value.{Value}
use Rattle.iv_expr.specs.Evaluation.{truth}
use Rattle.iv_expr.specs.Scopes.{contents, table_rows, transition_rows, within}
use Rattle.iv_expr.proofs.Scan.{rows_above}
use Rattle.iv_account.specs.Disagreements.{first_of}
use Rattle.iv_account.specs.Failures.{condition_failure, if_at_fault}
use Rattle.iv_exec_context.proofs.failures.condition.+condition_failure.Given as goal

abbrev pub invariant-in_table-loop-number : goal.invariant-in_table-loop-number
invariant-in_table-loop-number g l =
    let f = λ (row : List Value). if_at_fault (truth (within l.scope row) l.condition) (condition_failure (within l.scope row) l.condition) in
    first_of f (contents (rows_above l.after (table_rows l.scope.rows l.fn.table))) ≡ first_of f (contents (table_rows l.scope.rows l.fn.table))

abbrev pub decreases-in_table-loop-number : goal.decreases-in_table-loop-number
decreases-in_table-loop-number g l = 2 ^ 64 - l.after

abbrev pub invariant-in_transition-loop-change : goal.invariant-in_transition-loop-change
invariant-in_transition-loop-change g l =
    let f = λ (row : List Value). if_at_fault (truth (within l.scope row) l.condition) (condition_failure (within l.scope row) l.condition) in
    first_of f (transition_rows l.side (drop l.change-index l.change-items)) ≡ first_of f (transition_rows l.side l.scope.frame.transition)
