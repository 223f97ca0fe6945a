use Rattle.std.proofs.Common.{◌≡◌, ◌∙◌, List, ap, sym}
use Rattle.iv_value.specs.declared.value.Value.{Value}
use Rattle.iv_key.specs.Keys.{key_of}
use Rattle.iv_expr.specs.Scopes.{table_rows}
use Rattle.iv_expr.proofs.Scan.{table_rises}
use Rattle.iv_machine.specs.Databases.{shares_key}
use Rattle.iv_account.proofs.Equals.{are_there, first_of_all}
use Rattle.iv_account.proofs.KeyAsked.{shares_same}
use Rattle.iv_account.proofs.equal.find_equal.Goals as goal

pub rows_of_key-found-requires : goal.rows_of_key-found-requires
rows_of_key-found-requires g c = λ other e. c.requires other (e ∙ ap (λ (row : List Value). key_of c.args.columns.now row) c.values.ensures)

pub find_among-requires : goal.find_among-requires
find_among-requires g c =
    are_there (λ (other : List Value). key_of c.args.columns.now other ≡ key_of c.args.columns.now c.values.result.now)
    (table_rows (g.R.Rows.rows c.args.rows.now) c.args.table) c.rows_of_key-found.result
    (table_rises 0 c.args.table _ c.recall_order.ensures) c.rows_of_key-found.ensures

pub returns : goal.returns
returns g c =
    c.find_among.ensures
    ∙ first_of_all (shares_key c.args.nulls c.args.columns.now c.args.row.now)
    (λ (other : List Value). key_of c.args.columns.now other ≡ key_of c.args.columns.now c.values.result.now)
    (table_rows (g.R.Rows.rows c.args.rows.now) c.args.table) c.rows_of_key-found.result
    (table_rises 0 c.args.table _ c.recall_order.ensures) c.rows_of_key-found.ensures
    (λ other e. shares_same c.args.nulls c.args.columns.now c.args.row.now other e ∙ ap (λ (row : List Value). key_of c.args.columns.now row) (sym c.values.ensures))
