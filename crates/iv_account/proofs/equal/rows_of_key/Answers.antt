use Rattle.std.proofs.Common.{◌≡◌, List}
use Rattle.iv_value.specs.declared.value.Value.{Value}
use Rattle.iv_key.specs.Keys.{key_of}
use Rattle.iv_expr.specs.Scopes.{table_rows}
use Rattle.iv_account.proofs.Equals.{holders_among}
use Rattle.iv_account.proofs.equal.rows_of_key.Goals as goal

pub returns-in-Distinct : goal.returns-in-Distinct
returns-in-Distinct g c =
    holders_among c.args.asked.now (λ (other : List Value). key_of c.args.columns.now other ≡ key_of c.args.columns.now c.args.row.now)
    (table_rows (g.R.Rows.rows c.args.rows.now) c.args.table) c.holders.result c.requires c.holders.ensures

pub returns-in-None : goal.returns-in-None
returns-in-None g c =
    holders_among c.args.asked.now (λ (other : List Value). key_of c.args.columns.now other ≡ key_of c.args.columns.now c.args.row.now)
    (table_rows (g.R.Rows.rows c.args.rows.now) c.args.table) c.holders-in-None.result c.requires c.holders-in-None.ensures
