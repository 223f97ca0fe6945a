use Rattle.std.proofs.Common.{false, List, ◌≡◌, ◌∙◌, ap, sym, subst, refl, true, map, Option, Some, is_some}
use Rattle.iv_account.specs.declared.entry.Entry.{Entry}
use Rattle.iv_account.specs.Sessions.{modes_told, set_constraints_told}
use Rattle.iv_account.specs.Telling.{and_told, no_account}
use Rattle.iv_state.specs.Types.{Fault}
use Rattle.iv_state.specs.Types.cause.{NotDeferrable, Violation}
use Rattle.iv_state.specs.Types.answer.{Done}
use Rattle.iv_machine.specs.Machine.{State, accept, first_made_immediate, is_open, no_work, refuse_first, set_constraints_outcome}
use Rattle.iv_modes.specs.ModeMaps.{ModeMap}
use Rattle.iv_state.specs.Kept.{IsOpen, Parts, parts, Seen, StandsAs, state_of}
use Rattle.iv_state.proofs.Deferred.{set_refused, set_seen}
use Rattle.iv_state.proofs.Told.{always, nothing_told, set_is_told, set_untold}
use Rattle.iv_state.proofs.Saves.{modes_changed, open_is}
use Rattle.iv_state.proofs.Performed.{accept_performs, refuse_performs}
use Rattle.iv_state.proofs.session_state.SessionState.set_modes.Goals as goal

pub invariant_of-self-in-None : goal.invariant_of-self-in-None
invariant_of-self-in-None g c =
    let h : Parts = parts g.K.ReferencingRows.view c.self.inside in
    let a : h.active ≡ true = open_is h.active h.store (ap (λ x. is_open x.state) c.self.view_is ∙ c.requires) in
    let o : IsOpen h = subst (λ b. StandsAs b h) a c.self.invariant.stands in
    let m : c.set.new.self.deferrable ≡ map (λ k. k.deferrable) h.schema.constraints =
    ap (λ (x : ModeMap). x.deferrable) (c.in_default.ensures.set) ∙ ap (λ (x : ModeMap). x.deferrable) c.in_ok-modes.ensures ∙ c.modes.ensures.settable in
    record {
      store = c.self.invariant.store;
      initial = c.self.invariant.initial;
      stands = subst (λ b. StandsAs b (record h { changed = Some c.set.new.self })) (sym a) (record { marks = o.marks; modes = m; saved = modes_changed h.schema.constraints (is_some h.changed) h.saves o.saved; fit = o.fit });
    }

pub returns-in-Err-clause-performs : goal.returns-in-Err-clause-performs
returns-in-Err-clause-performs g c =
    let h : Parts = parts g.K.ReferencingRows.view c.self.inside in
    let s : State = c.args.self.now.state in
    let v : state_of h ≡ s = ap (λ x. x.state) c.self.view_is in
    let x : Seen = record { state = state_of h; work = record { changes = c.none-self-inside.result.changes; undone = c.none-self-inside.result.undone }; lookups = c.none-self-inside.result.lookups; looked_up = g.K.ReferencingRows.lookups c.self.inside.store; account = no_account false } in
    let w : x.work ≡ no_work = ap (λ w. record { changes = w.changes; undone = w.undone }) c.none-self-inside.ensures in
    refuse_performs s (set_constraints_outcome s c.args.ids.now c.args.mode) (NotDeferrable c.in-Err.refused.0) c.refuse.result x
    (set_refused s c.args.ids.now c.args.mode c.in_ok-modes.modes c.in-Err.refused.0
    (ap (λ (x : ModeMap). x.deferrable) c.in_ok-modes.ensures ∙ c.modes.ensures.settable ∙ ap (λ (y : State). map (λ k. k.deferrable) y.schema.constraints) v) c.in-Err.ensures.refused)
    refl c.refuse.ensures v w

pub returns-in-Some-clause-performs : goal.returns-in-Some-clause-performs
returns-in-Some-clause-performs g c =
    let h : Parts = parts g.K.ReferencingRows.view c.self.inside in
    let s : State = c.args.self.now.state in
    let v : state_of h ≡ s = ap (λ x. x.state) c.self.view_is in
    let x : Seen = record { state = state_of h; work = record { changes = c.none-self-inside.result.changes; undone = c.none-self-inside.result.undone }; lookups = c.none-self-inside.result.lookups; looked_up = g.K.ReferencingRows.lookups c.self.inside.store; account = no_account false } in
    let w : x.work ≡ no_work = ap (λ w. record { changes = w.changes; undone = w.undone }) c.none-self-inside.ensures in
    let seen : set_constraints_outcome s c.args.ids.now c.args.mode ≡ refuse_first s Violation c.in_ok-fault.field-0 (accept (record s { modes = c.set.new.self.modes }) Done) =
    set_seen s c.args.ids.now c.args.mode c.in_ok-modes.modes c.set.new.self c.in_ok-fault.field-0
    (ap (λ (x : ModeMap). x.modes) c.in_ok-modes.ensures ∙ c.modes.ensures.modes ∙ ap (λ (y : State). y.modes) v)
    (ap (λ (x : ModeMap). x.deferrable) c.in_ok-modes.ensures ∙ c.modes.ensures.settable ∙ ap (λ (y : State). map (λ k. k.deferrable) y.schema.constraints) v)
    c.in_default.ensures.accepted c.in_default.ensures.set
    (c.in_ok-fault.ensures ∙ ap (λ (y : State). first_made_immediate y c.set.new.self.modes) v) in
    refuse_performs s (set_constraints_outcome s c.args.ids.now c.args.mode) (Violation c.in-Some.fault) c.refuse-in-Some.result x
    (seen ∙ ap (λ (o : Option Fault). refuse_first s Violation o (accept (record s { modes = c.set.new.self.modes }) Done)) c.in-Some.is) refl c.refuse-in-Some.ensures v w

pub returns-in-None-clause-performs : goal.returns-in-None-clause-performs
returns-in-None-clause-performs g c =
    let h : Parts = parts g.K.ReferencingRows.view c.self.inside in
    let s : State = c.args.self.now.state in
    let v : state_of h ≡ s = ap (λ x. x.state) c.self.view_is in
    let x : Seen = record { state = state_of h; work = record { changes = c.none-self-inside.result.changes; undone = c.none-self-inside.result.undone }; lookups = c.none-self-inside.result.lookups; looked_up = g.K.ReferencingRows.lookups c.self.inside.store; account = no_account false } in
    let w : x.work ≡ no_work = ap (λ w. record { changes = w.changes; undone = w.undone }) c.none-self-inside.ensures in
    let seen : set_constraints_outcome s c.args.ids.now c.args.mode ≡ refuse_first s Violation c.in_ok-fault.field-0 (accept (record s { modes = c.set.new.self.modes }) Done) =
    set_seen s c.args.ids.now c.args.mode c.in_ok-modes.modes c.set.new.self c.in_ok-fault.field-0
    (ap (λ (x : ModeMap). x.modes) c.in_ok-modes.ensures ∙ c.modes.ensures.modes ∙ ap (λ (y : State). y.modes) v)
    (ap (λ (x : ModeMap). x.deferrable) c.in_ok-modes.ensures ∙ c.modes.ensures.settable ∙ ap (λ (y : State). map (λ k. k.deferrable) y.schema.constraints) v)
    c.in_default.ensures.accepted c.in_default.ensures.set
    (c.in_ok-fault.ensures ∙ ap (λ (y : State). first_made_immediate y c.set.new.self.modes) v) in
    accept_performs s (set_constraints_outcome s c.args.ids.now c.args.mode) (record s { modes = c.set.new.self.modes }) Done
    (record x { state = record (state_of h) { modes = c.set.new.self.modes } })
    (seen ∙ ap (λ (o : Option Fault). refuse_first s Violation o (accept (record s { modes = c.set.new.self.modes }) Done)) c.in-None.is)
    (ap (λ (y : State). record y { modes = c.set.new.self.modes }) v) w

pub returns-in-Err-clause-told : goal.returns-in-Err-clause-told
returns-in-Err-clause-told g c =
    let h : Parts = parts g.K.ReferencingRows.view c.self.inside in
    let s : State = c.args.self.now.state in
    let v : state_of h ≡ s = ap (λ x. x.state) c.self.view_is in
    always c.refuse.result (c.args.account.now ≡ and_told c.args.account.now (set_constraints_told s c.args.ids.now c.args.mode))
    (nothing_told c.args.account.now (set_constraints_told s c.args.ids.now c.args.mode)
    (set_untold s c.args.ids.now c.args.mode c.in_ok-modes.modes c.in-Err.refused.0
    (ap (λ (x : ModeMap). x.deferrable) c.in_ok-modes.ensures ∙ c.modes.ensures.settable ∙ ap (λ (y : State). map (λ k. k.deferrable) y.schema.constraints) v) c.in-Err.ensures.refused))

pub returns-in-Some-clause-told : goal.returns-in-Some-clause-told
returns-in-Some-clause-told g c =
    let h : Parts = parts g.K.ReferencingRows.view c.self.inside in
    let s : State = c.args.self.now.state in
    let v : state_of h ≡ s = ap (λ x. x.state) c.self.view_is in
    always c.refuse-in-Some.result (c.tell_modes.new.account ≡ and_told c.args.account.now (set_constraints_told s c.args.ids.now c.args.mode))
    (c.in_ok-tell_modes.ensures ∙ ap (λ (l : List Entry). and_told c.args.account.now l) (ap (λ (y : State). modes_told y c.set.new.self.modes) v
    ∙ sym (set_is_told s c.args.ids.now c.args.mode c.in_ok-modes.modes c.set.new.self
    (ap (λ (x : ModeMap). x.modes) c.in_ok-modes.ensures ∙ c.modes.ensures.modes ∙ ap (λ (y : State). y.modes) v)
    (ap (λ (x : ModeMap). x.deferrable) c.in_ok-modes.ensures ∙ c.modes.ensures.settable ∙ ap (λ (y : State). map (λ k. k.deferrable) y.schema.constraints) v)
    c.in_default.ensures.accepted c.in_default.ensures.set)))

pub returns-in-None-clause-told : goal.returns-in-None-clause-told
returns-in-None-clause-told g c =
    let h : Parts = parts g.K.ReferencingRows.view c.self.inside in
    let s : State = c.args.self.now.state in
    let v : state_of h ≡ s = ap (λ x. x.state) c.self.view_is in
    c.in_ok-tell_modes.ensures ∙ ap (λ (l : List Entry). and_told c.args.account.now l) (ap (λ (y : State). modes_told y c.set.new.self.modes) v
    ∙ sym (set_is_told s c.args.ids.now c.args.mode c.in_ok-modes.modes c.set.new.self
    (ap (λ (x : ModeMap). x.modes) c.in_ok-modes.ensures ∙ c.modes.ensures.modes ∙ ap (λ (y : State). y.modes) v)
    (ap (λ (x : ModeMap). x.deferrable) c.in_ok-modes.ensures ∙ c.modes.ensures.settable ∙ ap (λ (y : State). map (λ k. k.deferrable) y.schema.constraints) v)
    c.in_default.ensures.accepted c.in_default.ensures.set))
