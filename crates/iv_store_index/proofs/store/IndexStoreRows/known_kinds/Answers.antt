use Rattle.std.proofs.Common.{List, IfSome, subst, sym}
use Rattle.iv_expr.specs.Scopes.{table_rows}
use Rattle.iv_expr.specs.Searches.{AllFit}
use Rattle.iv_store_rows.specs.Histories.{History}
use Rattle.iv_store_index.specs.declared.kinds.ColumnKinds.{ColumnKinds}
use Rattle.iv_store_index.specs.Kept.{Store}
use Rattle.iv_store_index.specs.Known.{AreKnown}
use Rattle.iv_store_index.proofs.KeysFound.{if_some}
use Rattle.iv_store_index.proofs.store.IndexStoreRows.known_kinds.Goals as goal

pub returns : goal.returns
returns c =
    let s = c.self.inside in
    subst (λ (v : Store). IfSome c.known_kinds.result (λ found. AllFit found.kinds.now (table_rows v.state.base.rows c.args.table))) c.self.view_is
    (if_some c.known_kinds.result (λ (h : History). AreKnown c.as_slice.result.now h) (λ found h. AllFit found.kinds.now (table_rows h.rows c.args.table)) s.versions
    (subst (λ (l : List ColumnKinds). AreKnown l s.versions) (sym c.as_slice.ensures.value) c.self.invariant.2) c.known_kinds.ensures)
