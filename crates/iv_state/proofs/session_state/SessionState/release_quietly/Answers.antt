use Rattle.std.proofs.Common.{◌≡◌, ◌∙◌, ap, sym, subst, refl, true, Some, None}
use Rattle.iv_machine.specs.Databases.{no_rows}
use Rattle.iv_machine.specs.Machine.{is_open}
use Rattle.iv_state.specs.Saved.{Saved}
use Rattle.iv_state.specs.Kept.{Parts, parts, StandsAs, IsOpen}
use Rattle.iv_state.specs.Saving.{last_named}
use Rattle.iv_state.proofs.Saves.{open_is}
use Rattle.iv_state.proofs.Releasing.{found, not_found, released_state, released_kept}
use Rattle.iv_state.proofs.session_state.SessionState.release_quietly.Goals as goal

pub invariant_of-self : goal.invariant_of-self
invariant_of-self g c =
    let h : Parts = parts g.K.ReferencingRows.view c.self.inside in
    let a : h.active ≡ true = open_is h.active h.store (ap (λ x. is_open x.state) c.self.view_is ∙ c.requires) in
    released_kept h c.in-Some.place c.take_from.new.saves.saves (g.K.ReferencingRows.view c.take_from.new.store) a (subst (λ b. StandsAs b h) a c.self.invariant.stands)
    c.in-Some.ensures.within c.take_from.ensures.saves c.take_from.ensures.store c.self.invariant

pub returns-in-Some-clause-performs : goal.returns-in-Some-clause-performs
returns-in-Some-clause-performs g c =
    let h : Parts = parts g.K.ReferencingRows.view c.self.inside in
    let a : h.active ≡ true = open_is h.active h.store (ap (λ x. is_open x.state) c.self.view_is ∙ c.requires) in
    let o : IsOpen h = subst (λ b. StandsAs b h) a c.self.invariant.stands in
    let s : Saved = record { name = c.args.name.now; modes = None } in
    let at : last_named c.args.name.now h.saves ≡ Some c.in-Some.place =
    ap (λ n. last_named n h.saves) (sym c.as_str.ensures) ∙ sym c.place_of.ensures.place ∙ c.in-Some.is in
    let named = found h c.args.name.now c.in-Some.place s no_rows o at in
    rw (← c.self.view_is, named) (
      refl,
      released_state h c.in-Some.place s no_rows c.take_from.new.saves.saves (g.K.ReferencingRows.view c.take_from.new.store) c.take_from.ensures.saves c.take_from.ensures.store,
      ap (λ w. record { changes = w.changes; undone = w.undone }) c.none-self-inside.ensures,
    )

pub returns-in-None-clause-performs : goal.returns-in-None-clause-performs
returns-in-None-clause-performs g c =
    let h : Parts = parts g.K.ReferencingRows.view c.self.inside in
    let at : last_named c.args.name.now h.saves ≡ None =
    ap (λ n. last_named n h.saves) (sym c.as_str.ensures) ∙ sym c.place_of.ensures.place ∙ c.in-None.is in
    let named = not_found h c.args.name.now at in
    rw (← c.self.view_is, named, c.refuse.ensures) (
      refl,
      refl,
      ap (λ w. record { changes = w.changes; undone = w.undone }) c.none-self-inside.ensures,
    )
