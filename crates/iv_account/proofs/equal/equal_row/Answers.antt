use Rattle.iv_expr.specs.Scopes.{table_rows}
use Rattle.iv_machine.specs.Databases.{shares_key}
use Rattle.iv_account.proofs.Equals.{none_found}
use Rattle.iv_account.proofs.equal.equal_row.Goals as goal

pub returns-then-is_distinct : goal.returns-then-is_distinct
returns-then-is_distinct g c =
    none_found (shares_key c.args.nulls c.args.columns.now c.args.row.now) (table_rows (g.R.Rows.rows c.args.rows.now) c.args.table)
    (c.is_distinct.ensures c.if-is_distinct.true)
