use Rattle.std.proofs.Common.{ℕ, List, ◌∙◌, sym, arith}
use Rattle.iv_value.specs.declared.value.Value.{Value}
use Rattle.iv_expr.specs.Scopes.{table_rows}
use Rattle.iv_expr.proofs.Scan.{scan_above, scan_small, table_rises}
use Rattle.iv_account.specs.Failures.{if_true_at, insertion_failure}
use Rattle.iv_exec_context.proofs.Firsts.{scan_begins, scan_comes, scan_ends, scan_passes}
use Rattle.iv_exec_context.proofs.failures.insertions.from_table.Goals as goal

pub loop-number-init : goal.loop-number-init
loop-number-init g c = scan_begins (if_true_at c.args.scope.now c.args.filter.now (insertion_failure c.args.catalogue.now c.args.scope.now c.args.table c.args.listed.now c.args.outputs.now)) c.args.source c.args.scope.now.rows c.recall_order.ensures

pub returns-in-Some-2 : goal.returns-in-Some-2
returns-in-Some-2 g c =
    let p : ℕ × List Value = (c.in-Some.number, c.in-Some.values.now) in
    scan_comes (if_true_at c.args.scope.now c.args.filter.now (insertion_failure c.args.catalogue.now c.args.scope.now c.args.table c.args.listed.now c.args.outputs.now)) c.args.source c.loop-number.after c.args.scope.now.rows p c.recall_order.ensures c.in-Some.ensures _ c.loop-number.invariant
    c.in-Some-2.failure (sym c.in_ok-failure.ensures ∙ c.in-Some-2.is)

pub loop-number-smaller : goal.loop-number-smaller
loop-number-smaller g c =
    let p : ℕ × List Value = (c.in-Some.number, c.in-Some.values.now) in
    omega (
      arith,
      scan_above c.loop-number.after _ p c.in-Some.ensures,
      scan_small c.loop-number.after _ p (table_rises 0 c.args.source c.args.scope.now.rows c.recall_order.ensures) c.in-Some.ensures,
    )

pub loop-number-preserved : goal.loop-number-preserved
loop-number-preserved g c =
    let p : ℕ × List Value = (c.in-Some.number, c.in-Some.values.now) in
    scan_passes (if_true_at c.args.scope.now c.args.filter.now (insertion_failure c.args.catalogue.now c.args.scope.now c.args.table c.args.listed.now c.args.outputs.now)) c.args.source c.loop-number.after c.args.scope.now.rows p c.recall_order.ensures c.in-Some.ensures _ c.loop-number.invariant
    (sym c.in_ok-failure.ensures ∙ c.in-None.is)

pub returns : goal.returns
returns g c =
    scan_ends (if_true_at c.args.scope.now c.args.filter.now (insertion_failure c.args.catalogue.now c.args.scope.now c.args.table c.args.listed.now c.args.outputs.now)) c.loop-number.after (table_rows c.args.scope.now.rows c.args.source) _ c.in_default.ensures c.loop-number.invariant
