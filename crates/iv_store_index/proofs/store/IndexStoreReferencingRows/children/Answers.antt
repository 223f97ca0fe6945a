use Rattle.std.proofs.Common.{◌≡◌, List, subst, sym}
use Rattle.iv_store_index.specs.Types.{StoredRow, Constraint}
use Rattle.iv_store_groups.specs.Groups.{Contents}
use Rattle.iv_laws_kept.specs.Kept.{Show}
use Rattle.iv_store_violating.specs.Shown.{shown}
use Rattle.iv_store.specs.Stores.{numbers_by, reference_at}
use Rattle.iv_store_index.proofs.Children.{if_ok}
use Rattle.iv_store_index.proofs.Keeping.{if_at}
use Rattle.iv_store_index.proofs.store.IndexStoreReferencingRows.children.Goals as goal

pub returns-clause-rising : goal.returns-clause-rising
returns-clause-rising c =
    let s = c.self.inside in
    let lent = c.counted.result.now in
    if_ok c.children.result (λ v. v.items) s.versions.rows c.args.key.now (reference_at c.constraints.result.now c.place.result) c.recall_order.ensures
    (if_at c.children.result (λ (rows : List StoredRow). Show rows c.constraints.result.now (shown lent.groups))
    (λ v rows. v.items ≡ numbers_by rows c.args.key.now (reference_at c.constraints.result.now c.place.result)) s.versions.rows
    (subst (λ (g : Contents). Show s.versions.rows c.constraints.result.now (shown g.groups)) (sym c.counted.ensures.value)
    (subst (λ (cs : List Constraint). Show s.versions.rows cs (shown s.groups.groups)) (sym c.constraints.ensures) c.self.invariant.0.shown.shows)) c.children.ensures.numbers)
