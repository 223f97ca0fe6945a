use Rattle.std.proofs.Common.{List, ap, subst, sym}
use Rattle.iv_expr.specs.Types.{StoredRow}
use Rattle.iv_expr.specs.Scopes.{Scope, table_rows}
use Rattle.iv_expr.specs.Searches.{LeavesOut}
use Rattle.iv_expr.specs.Found.{searched}
use Rattle.iv_expr.proofs.Leading.{leaves_out, seen}
use Rattle.iv_expr.proofs.scope.Scope.search.Goals as goal

pub returns : goal.returns
returns g c =
    let rows : List StoredRow = table_rows c.args.self.now.rows c.args.table in
    subst (λ (l : List StoredRow). LeavesOut (seen c.args.self.now c.args.cond.now) rows (searched c.holders_for-found.result (table_rows l c.args.table)))
    (sym (ap (λ (s : Scope). s.rows) c.self.view_is))
    (leaves_out (seen c.args.self.now c.args.cond.now) rows c.holders_for-found.result c.holders_for-found.ensures)
