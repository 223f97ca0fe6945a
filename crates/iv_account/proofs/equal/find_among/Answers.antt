use Rattle.std.proofs.Common.{ℕ, List, find, ap, sym, arith}
use Rattle.iv_value.specs.declared.value.Value.{Value}
use Rattle.iv_expr.specs.declared.row.StoredRow.{StoredRow}
use Rattle.iv_expr.specs.Found.{searched}
use Rattle.iv_expr.specs.Scopes.{table_rows}
use Rattle.iv_expr.proofs.Scan.{above_all, scan_above, scan_small, table_rises}
use Rattle.iv_expr.proofs.Sought.{searched_rises}
use Rattle.iv_machine.specs.Databases.{shares_key}
use Rattle.iv_account.proofs.Equals.{passes, passes_by, none_passes, searched_on}
use Rattle.iv_account.proofs.equal.find_among.Goals as goal

pub next_row-requires : goal.next_row-requires
next_row-requires g c = c.requires

pub loop-number-init : goal.loop-number-init
loop-number-init g c =
    ap (λ (rows : List StoredRow). find (shares_key c.args.nulls c.args.columns.now c.args.row.now) rows)
    (above_all 0 0 (searched c.args.found.now (table_rows (g.R.Rows.rows c.args.rows.now) c.args.table))
    (searched_rises c.args.found.now _ (table_rises 0 c.args.table (g.R.Rows.rows c.args.rows.now) c.recall_order.ensures)) (omega arith))

pub returns-then-shares_key : goal.returns-then-shares_key
returns-then-shares_key g c =
    passes (shares_key c.args.nulls c.args.columns.now c.args.row.now) c.args.table c.loop-number.after
    (searched c.args.found.now (table_rows (g.R.Rows.rows c.args.rows.now) c.args.table)) (c.in-Some.number, c.in-Some.values.now)
    (searched_on c.args.found.now c.args.table (g.R.Rows.rows c.args.rows.now))
    (searched_rises c.args.found.now _ (table_rises 0 c.args.table (g.R.Rows.rows c.args.rows.now) c.recall_order.ensures))
    c.in-Some.ensures (sym (c.if-shares_key.ensures c.args.table)) _ c.loop-number.invariant

pub loop-number-smaller : goal.loop-number-smaller
loop-number-smaller g c =
    let p : ℕ × List Value = (c.in-Some.number, c.in-Some.values.now) in
    omega (
      arith,
      scan_above c.loop-number.after _ p c.in-Some.ensures,
      scan_small c.loop-number.after _ p (searched_rises c.args.found.now _ (table_rises 0 c.args.table (g.R.Rows.rows c.args.rows.now) c.recall_order.ensures)) c.in-Some.ensures,
    )

pub loop-number-preserved : goal.loop-number-preserved
loop-number-preserved g c =
    passes_by (shares_key c.args.nulls c.args.columns.now c.args.row.now) c.args.table c.loop-number.after
    (searched c.args.found.now (table_rows (g.R.Rows.rows c.args.rows.now) c.args.table)) (c.in-Some.number, c.in-Some.values.now)
    (searched_on c.args.found.now c.args.table (g.R.Rows.rows c.args.rows.now))
    (searched_rises c.args.found.now _ (table_rises 0 c.args.table (g.R.Rows.rows c.args.rows.now) c.recall_order.ensures))
    c.in-Some.ensures (sym (c.if-shares_key.ensures c.args.table)) _ c.loop-number.invariant

pub returns : goal.returns
returns g c =
    none_passes (shares_key c.args.nulls c.args.columns.now c.args.row.now) c.loop-number.after
    (searched c.args.found.now (table_rows (g.R.Rows.rows c.args.rows.now) c.args.table)) c.in_default.ensures _ c.loop-number.invariant
