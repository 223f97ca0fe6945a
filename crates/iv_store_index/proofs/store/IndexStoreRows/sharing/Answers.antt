use Rattle.std.proofs.Common.{List, IfSome, subst}
use Rattle.iv_store_index.specs.Types.{StoredRow}
use Rattle.iv_expr.specs.Scopes.{table_rows}
use Rattle.iv_expr.specs.Searches.{AreSharing}
use Rattle.iv_laws_kept.specs.Kept.{Show}
use Rattle.iv_store_violating.specs.Shown.{shown}
use Rattle.iv_store_index.specs.Kept.{Store}
use Rattle.iv_store_index.proofs.KeysFound.{if_some}
use Rattle.iv_store_index.proofs.store.IndexStoreRows.sharing.Goals as goal

pub returns : goal.returns
returns c =
    let s = c.self.inside in
    subst (λ (v : Store). IfSome c.sharing.result (λ numbers. AreSharing c.args.columns.now c.args.row.now (table_rows v.state.base.rows c.args.table) numbers)) c.self.view_is
    (if_some c.sharing.result (λ (rows : List StoredRow). Show rows s.faults.constraints (shown s.groups.groups))
    (λ numbers rows. AreSharing c.args.columns.now c.args.row.now (table_rows rows c.args.table) numbers) s.versions.rows c.self.invariant.0.shown.shows c.sharing.ensures)
