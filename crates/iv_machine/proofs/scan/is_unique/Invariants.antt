use Rattle.std.proofs.Common.{◌≡◌, drop}
use Rattle.std.specs.List.{list_any}
use Rattle.iv_expr.specs.Scopes.{table_rows}
use Rattle.iv_machine.specs.Databases.{shares_key}
use Rattle.iv_machine.proofs.scan.is_unique.Given as goal

abbrev pub invariant-loop-other : goal.invariant-loop-other
invariant-loop-other l =
    list_any (shares_key l.nulls l.columns l.row) (table_rows (drop l.other-index l.rows) l.table)
    ≡ list_any (shares_key l.nulls l.columns l.row) (table_rows l.rows l.table)
