use Rattle.std.proofs.Common.{◌≡◌, ◌-◌, ◌^◌}
use Rattle.iv_expr.specs.Scopes.{table_rows}
use Rattle.iv_expr.proofs.Scan.{rows_above}
use Rattle.iv_account.specs.Disagreements.{first_of}
use Rattle.iv_account.specs.Failures.{if_true_at, insertion_failure}
use Rattle.iv_exec_context.proofs.failures.insertions.from_table.Given as goal

abbrev pub invariant-loop-number : goal.invariant-loop-number
invariant-loop-number g l =
    let f = if_true_at l.scope l.filter (insertion_failure l.catalogue l.scope l.table l.listed l.outputs) in
    first_of f (rows_above l.after (table_rows l.scope.rows l.source)) ≡ first_of f (table_rows l.scope.rows l.source)

abbrev pub decreases-loop-number : goal.decreases-loop-number
decreases-loop-number g l = 2 ^ 64 - l.after
