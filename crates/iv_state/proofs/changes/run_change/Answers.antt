use Rattle.std.proofs.Common.{◌≡◌, ◌∙◌, ◌-◌, ap, sym, subst}
use Rattle.iv_store.specs.Stores.{StoreState}
use Rattle.iv_state.specs.Changing.{said_of}
use Rattle.iv_laws_rows.specs.Changing.{StoreFits}
use Rattle.iv_state.proofs.Changed.{undone_is, refused_changes}
use Rattle.iv_state.proofs.changes.run_change.Goals as goal

pub returns-in-Err-clause-changes : goal.returns-in-Err-clause-changes
returns-in-Err-clause-changes g c =
    let same : g.K.ReferencingRows.view c.undo.new.self ≡ g.K.ReferencingRows.view c.args.store.now =
    undone_is (g.K.ReferencingRows.view c.args.store.now) (g.K.ReferencingRows.view c.mark.new.self) (g.K.ReferencingRows.view c.change.new.store) (g.K.ReferencingRows.view c.undo.new.self) c.in_ok-mark.mark
    c.in_ok-mark.ensures.place c.in_ok-mark.ensures.ok c.in-Err.ensures.kept c.undo.ensures.undone in
    refused_changes c.args.begins (g.K.ReferencingRows.view c.args.store.now) (g.K.ReferencingRows.view c.change.new.store) (g.K.ReferencingRows.view c.undo.new.self)
    (said_of c.args.catalogue.now c.args.modes.now.modes c.args.limits c.args.statement.now (g.K.ReferencingRows.view c.args.store.now).base) c.in-Err.refusal c.saturating_sub-made.result same
    (c.saturating_sub-made.ensures ∙ λ i. c.change_count-in-Err.ensures.count i - c.change_count-before.ensures.count i)
    (rw (← (ap (λ (x : StoreState). x.base) c.in_ok-mark.ensures.ok)) c.in-Err.ensures.answer)

pub returns-in-Err-clause-store : goal.returns-in-Err-clause-store
returns-in-Err-clause-store g c =
    subst (StoreFits c.args.catalogue.now)
    (sym (undone_is (g.K.ReferencingRows.view c.args.store.now) (g.K.ReferencingRows.view c.mark.new.self) (g.K.ReferencingRows.view c.change.new.store) (g.K.ReferencingRows.view c.undo.new.self) c.in_ok-mark.mark
    c.in_ok-mark.ensures.place c.in_ok-mark.ensures.ok c.in-Err.ensures.kept c.undo.ensures.undone)) c.requires.store
