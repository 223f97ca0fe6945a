use Rattle.std.proofs.Common.{◌≡◌, ◌∙◌, ap, subst, refl, true, string_bytes}
use Rattle.iv_machine.specs.Machine.{is_open, state_with_savepoint}
use Rattle.iv_store.specs.Stores.{store_with_mark}
use Rattle.iv_state.specs.Saved.{Saved}
use Rattle.iv_state.specs.Kept.{Parts, parts, StandsAs, state_of}
use Rattle.iv_state.specs.Saving.{IsWithout}
use Rattle.iv_state.proofs.Saves.{open_is, saved, saved_state, saved_kept}
use Rattle.iv_state.proofs.session_state.SessionState.savepoint.Goals as goal

pub invariant_of-self-2 : goal.invariant_of-self-2
invariant_of-self-2 g c =
    let h : Parts = parts g.K.ReferencingRows.view c.self.inside in
    let s : Saved = record { name = string_bytes c.in_ok-own.own; modes = c.in_ok-modes.modes } in
    let a : h.active ≡ true = open_is h.active h.store (ap (λ x. is_open x.state) c.self.view_is ∙ c.requires) in
    let w : IsWithout c.args.name.now h.saves (store_with_mark h.store) c.take_named.new.saves.saves (g.K.ReferencingRows.view c.take_named.new.store) =
    rw (← c.in_ok-mark.ensures.ok, ← c.make_room.ensures.saves, ← c.as_str-2.ensures) c.take_named.ensures.without in
    saved_kept h c.args.name.now s c.take_named.new.saves.saves c.push.new.self.saves (g.K.ReferencingRows.view c.take_named.new.store) a
    (subst (λ b. StandsAs b h) a c.self.invariant.stands) c.in_ok-modes.ensures w c.push.ensures c.self.invariant

pub returns-clause-performs : goal.returns-clause-performs
returns-clause-performs g c =
    let h : Parts = parts g.K.ReferencingRows.view c.self.inside in
    let s : Saved = record { name = string_bytes c.in_ok-own.own; modes = c.in_ok-modes.modes } in
    let a : h.active ≡ true = open_is h.active h.store (ap (λ x. is_open x.state) c.self.view_is ∙ c.requires) in
    let w : IsWithout c.args.name.now h.saves (store_with_mark h.store) c.take_named.new.saves.saves (g.K.ReferencingRows.view c.take_named.new.store) =
    rw (← c.in_ok-mark.ensures.ok, ← c.make_room.ensures.saves, ← c.as_str-2.ensures) c.take_named.ensures.without in
    let state : state_of (saved h (g.K.ReferencingRows.view c.take_named.new.store) c.push.new.self.saves) ≡ state_with_savepoint (state_of h) c.args.name.now =
    saved_state h c.args.name.now s c.take_named.new.saves.saves c.push.new.self.saves (g.K.ReferencingRows.view c.take_named.new.store) a
    (subst (λ b. StandsAs b h) a c.self.invariant.stands) (c.in_ok-own.ensures.ok ∙ c.as_str.ensures) c.in_ok-modes.ensures w c.push.ensures in (
      refl,
      state ∙ ap (λ x. state_with_savepoint x.state c.args.name.now) c.self.view_is,
      ap (λ w. record { changes = w.changes; undone = w.undone }) c.none-self-inside.ensures,
    )
