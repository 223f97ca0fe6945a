use Rattle.std.proofs.Common.{List, subst}
use Rattle.iv_expr.specs.declared.row.StoredRow.{StoredRow}
use Rattle.iv_expr.specs.Scopes.{Rises}
use Rattle.iv_expr.proofs.Scan.{table_rises}
use Rattle.iv_expr.proofs.Sought.{searched_rises}
use Rattle.iv_expr.proofs.search.Search.recall_order.Goals as goal

pub returns : goal.returns
returns g c =
    subst (λ (l : List StoredRow). Rises 0 l) c.self.view_is
    (searched_rises c.self.inside.found _ (table_rises 0 c.self.inside.table _ c.recall_order.ensures))
