use Rattle.std.proofs.Common.{List, IfSome, subst}
use Rattle.iv_store_index.specs.Types.{StoredRow}
use Rattle.iv_expr.specs.Scopes.{table_rows}
use Rattle.iv_expr.specs.Searches.{AreHolders}
use Rattle.iv_laws_kept.specs.Kept.{Show}
use Rattle.iv_store_violating.specs.Shown.{shown}
use Rattle.iv_store_index.specs.Kept.{Store}
use Rattle.iv_store_index.proofs.KeysFound.{if_some}
use Rattle.iv_store_index.proofs.store.IndexStoreRows.holders.Goals as goal

pub returns : goal.returns
returns c =
    let s = c.self.inside in
    subst (λ (v : Store). IfSome c.holders.result (λ numbers. AreHolders c.args.asked.now (table_rows v.state.base.rows c.args.table) numbers)) c.self.view_is
    (if_some c.holders.result (λ (rows : List StoredRow). Show rows s.faults.constraints (shown s.groups.groups))
    (λ numbers rows. AreHolders c.args.asked.now (table_rows rows c.args.table) numbers) s.versions.rows c.self.invariant.0.shown.shows c.holders.ensures)
