use Rattle.std.proofs.Common.{◌≡◌, ◌∙◌, ◌<◌, ◌-◌, ap, sym, subst, refl, true, length, get_or, Option, Some, None, IfSome}
use Rattle.iv_state.specs.Types.{Database}
use Rattle.iv_machine.specs.Databases.{no_rows}
use Rattle.iv_machine.specs.Machine.{is_open}
use Rattle.iv_store.specs.Stores.{store_at_mark}
use Rattle.iv_modes.specs.ModeMaps.{ModeMap}
use Rattle.iv_state.specs.Saved.{unnamed}
use Rattle.iv_state.specs.Kept.{Parts, brought_back, current, parts, StandsAs, IsOpen}
use Rattle.iv_state.specs.Saving.{last_named}
use Rattle.iv_state.proofs.Saves.{open_is}
use Rattle.iv_state.proofs.Releasing.{found, not_found, backed_base, backed_state, backed_kept, same_modes}
use Rattle.iv_state.proofs.session_state.SessionState.back_to.Goals as goal

pub bring_back-requires : goal.bring_back-requires
bring_back-requires g c =
    let h : Parts = parts g.K.ReferencingRows.view c.self.inside in
    let a : h.active ≡ true = open_is h.active h.store (ap (λ x. is_open x.state) c.self.view_is ∙ c.requires) in
    let w : c.in-Some.place < length h.saves = c.in-Some.ensures.within in
    subst (λ (m : Option ModeMap). IfSome h.changed (λ k. k.deferrable ≡ (current h.initial m).deferrable)) (sym c.modes_at.ensures)
    (same_modes h c.in-Some.place unnamed (get_or h.saves c.in-Some.place unnamed) (subst (λ b. StandsAs b h) a c.self.invariant.stands) w c.self.invariant refl)

pub invariant_of-self-2 : goal.invariant_of-self-2
invariant_of-self-2 g c =
    let h : Parts = parts g.K.ReferencingRows.view c.self.inside in
    let a : h.active ≡ true = open_is h.active h.store (ap (λ x. is_open x.state) c.self.view_is ∙ c.requires) in
    let o : IsOpen h = subst (λ b. StandsAs b h) a c.self.invariant.stands in
    let w : c.in-Some.place < length h.saves = c.in-Some.ensures.within in
    backed_kept h c.in-Some.place unnamed c.truncate.new.self.saves (g.K.ReferencingRows.view c.undo_to.new.self) c.bring_back.new.changed a o w
    c.truncate.ensures (c.in_ok-undo_to.ensures.ok ∙ ap (store_at_mark (g.K.ReferencingRows.view c.self.inside.store)) c.new.ensures) (c.bring_back.ensures ∙ ap (λ (m : Option ModeMap). brought_back h.changed (current h.initial m)) c.modes_at.ensures) c.self.invariant

pub returns-clause-performs : goal.returns-clause-performs
returns-clause-performs g c =
    let h : Parts = parts g.K.ReferencingRows.view c.self.inside in
    let a : h.active ≡ true = open_is h.active h.store (ap (λ x. is_open x.state) c.self.view_is ∙ c.requires) in
    let o : IsOpen h = subst (λ b. StandsAs b h) a c.self.invariant.stands in
    let w : c.in-Some.place < length h.saves = c.in-Some.ensures.within in
    let at : last_named c.args.name.now h.saves ≡ Some c.in-Some.place =
    sym c.place_of.ensures.place ∙ c.in-Some.is in
    let named = found h c.args.name.now c.in-Some.place unnamed no_rows o at in
    rw (← c.self.view_is, named) (
      refl,
      backed_state h c.in-Some.place unnamed no_rows c.truncate.new.self.saves (g.K.ReferencingRows.view c.undo_to.new.self) c.bring_back.new.changed o w c.truncate.ensures (c.in_ok-undo_to.ensures.ok ∙ ap (store_at_mark (g.K.ReferencingRows.view c.self.inside.store)) c.new.ensures) (c.bring_back.ensures ∙ ap (λ (m : Option ModeMap). brought_back h.changed (current h.initial m)) c.modes_at.ensures),
      (λ i. record {
        changes = (ap (λ w. w.changes) c.none-self-inside.ensures) i;
        undone = (c.saturating_sub-self-inside.ensures ∙ λ j. c.change_count-change_count.ensures.count j - (c.change_count.ensures.count
            ∙ ap (λ (d : Database). d.count) (backed_base h c.in-Some.place no_rows (g.K.ReferencingRows.view c.undo_to.new.self) o w (c.in_ok-undo_to.ensures.ok ∙ ap (store_at_mark (g.K.ReferencingRows.view c.self.inside.store)) c.new.ensures))) j) i;
      }),
    )

pub returns-in-None-clause-performs : goal.returns-in-None-clause-performs
returns-in-None-clause-performs g c =
    let h : Parts = parts g.K.ReferencingRows.view c.self.inside in
    let at : last_named c.args.name.now h.saves ≡ None =
    sym c.place_of.ensures.place ∙ c.in-None.is in
    let named = not_found h c.args.name.now at in
    rw (← c.self.view_is, named, c.refuse.ensures) (
      refl,
      refl,
      ap (λ w. record { changes = w.changes; undone = w.undone }) c.none-self-inside.ensures,
    )
