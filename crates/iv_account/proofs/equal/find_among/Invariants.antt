use Rattle.std.proofs.Common.{◌≡◌, ◌-◌, ◌^◌, find}
use Rattle.iv_expr.specs.Found.{searched}
use Rattle.iv_expr.specs.Scopes.{table_rows}
use Rattle.iv_expr.proofs.Scan.{rows_above}
use Rattle.iv_machine.specs.Databases.{shares_key}
use Rattle.iv_account.proofs.equal.find_among.Given as goal

abbrev pub invariant-loop-number : goal.invariant-loop-number
invariant-loop-number g l =
    find (shares_key l.nulls l.columns l.row) (rows_above l.after (searched l.found (table_rows (g.R.Rows.rows l.rows) l.table)))
    ≡ find (shares_key l.nulls l.columns l.row) (searched l.found (table_rows (g.R.Rows.rows l.rows) l.table))

abbrev pub decreases-loop-number : goal.decreases-loop-number
decreases-loop-number g l = 2 ^ 64 - l.after
