use Rattle.std.proofs.Common.{ℕ, List, refl, ap, sym, arith}
use Rattle.iv_value.specs.declared.value.Value.{Value}
use Rattle.iv_expr.specs.declared.row.StoredRow.{StoredRow}
use Rattle.iv_expr.specs.Evaluation.{truth}
use Rattle.iv_expr.specs.Scopes.{contents, table_rows, within}
use Rattle.iv_expr.proofs.Scan.{above_all, rows_above, scan_above, scan_none, scan_small, table_rises}
use Rattle.iv_account.specs.Disagreements.{first_of}
use Rattle.iv_account.specs.Failures.{condition_failure, if_at_fault}
use Rattle.iv_exec_context.proofs.Failing.{exists_failure}
use Rattle.iv_exec_context.proofs.Firsts.{list_comes, list_ends, list_passes, values_scanned}
use Rattle.iv_exec_context.proofs.failures.condition.+condition_failure.Goals as goal

pub condition_failure-returns-in-Table : goal.condition_failure-returns-in-Table
condition_failure-returns-in-Table g t c = rw (exists_failure _ _ _ _ c.in-Exists.is, c.in-Table.is, c.in_table.ensures, c.get-in-Table.ensures) refl

pub condition_failure-returns-in-Transition : goal.condition_failure-returns-in-Transition
condition_failure-returns-in-Transition g t c = rw (exists_failure _ _ _ _ c.in-Exists.is, c.in-Transition.is, c.in_transition.ensures, c.get-in-Transition.ensures) refl

pub in_table-loop-number-init : goal.in_table-loop-number-init
in_table-loop-number-init g t c =
    let s = c.args.scope.now in
    let f = λ (row : List Value). if_at_fault (truth (within s row) c.args.condition.now) (condition_failure (within s row) c.args.condition.now) in
    ap (λ (x : List StoredRow). first_of f (contents x))
    (above_all 0 0 (table_rows s.rows c.args.table) (table_rises 0 c.args.table s.rows c.recall_order.ensures) (omega arith))

pub in_table-returns-in-Some-at_values : goal.in_table-returns-in-Some-at_values
in_table-returns-in-Some-at_values g t c =
    let s = c.args.scope.now in
    let rows = table_rows s.rows c.args.table in
    let p : ℕ × List Value = (c.in-Some.number, c.in-Some.row.now) in
    let f = λ (row : List Value). if_at_fault (truth (within s row) c.args.condition.now) (condition_failure (within s row) c.args.condition.now) in
    list_comes f (contents (rows_above c.loop-number.after rows)) (contents (rows_above c.in-Some.number rows)) c.in-Some.row.now _
    (values_scanned c.loop-number.after rows p (table_rises 0 c.args.table s.rows c.recall_order.ensures) c.in-Some.ensures) c.loop-number.invariant
    c.in-Some-at_values.failure (sym c.in-Some-at_values.ensures)

pub in_table-loop-number-smaller : goal.in_table-loop-number-smaller
in_table-loop-number-smaller g t c =
    let p : ℕ × List Value = (c.in-Some.number, c.in-Some.row.now) in
    omega (
      arith,
      scan_above c.loop-number.after _ p c.in-Some.ensures,
      scan_small c.loop-number.after _ p (table_rises 0 c.args.table c.args.scope.now.rows c.recall_order.ensures) c.in-Some.ensures,
    )

pub in_table-loop-number-preserved : goal.in_table-loop-number-preserved
in_table-loop-number-preserved g t c =
    let s = c.args.scope.now in
    let rows = table_rows s.rows c.args.table in
    let p : ℕ × List Value = (c.in-Some.number, c.in-Some.row.now) in
    let f = λ (row : List Value). if_at_fault (truth (within s row) c.args.condition.now) (condition_failure (within s row) c.args.condition.now) in
    list_passes f (contents (rows_above c.loop-number.after rows)) (contents (rows_above c.in-Some.number rows)) c.in-Some.row.now _
    (values_scanned c.loop-number.after rows p (table_rises 0 c.args.table s.rows c.recall_order.ensures) c.in-Some.ensures) c.loop-number.invariant
    (sym c.in-None.ensures)

pub in_table-returns : goal.in_table-returns
in_table-returns g t c =
    let s = c.args.scope.now in
    let rows = table_rows s.rows c.args.table in
    let f = λ (row : List Value). if_at_fault (truth (within s row) c.args.condition.now) (condition_failure (within s row) c.args.condition.now) in
    list_ends f (contents (rows_above c.loop-number.after rows)) _ (ap contents (scan_none c.loop-number.after rows c.in_default.ensures)) c.loop-number.invariant
