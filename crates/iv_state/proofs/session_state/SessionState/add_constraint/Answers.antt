use Rattle.std.proofs.Common.{◌≡◌, ◌∙◌, ap, sym, subst, false, None, Err}
use Rattle.iv_account.specs.Sessions.{addition_told}
use Rattle.iv_account.specs.Telling.{and_told, no_account}
use Rattle.iv_laws_rows.specs.Changing.{UnlessMemory}
use Rattle.iv_catalogue.specs.Catalogues.{with_constraint}
use Rattle.iv_state.specs.Types.{Answer, Refusal}
use Rattle.iv_state.specs.Types.answer.{Done}
use Rattle.iv_machine.specs.Machine.{State, is_open, no_work, add_constraint_outcome, with_schema}
use Rattle.iv_store.specs.Stores.{first_violating_row}
use Rattle.iv_state.specs.Kept.{Parts, parts, Seen, state_of}
use Rattle.iv_state.specs.Performing.{Performs}
use Rattle.iv_state.proofs.Defined.{defined, added_refused, added_untold, refused_told, shut_is, add_is, added_state, by_row}
use Rattle.iv_state.proofs.Performed.{accept_performs}
use Rattle.iv_state.proofs.session_state.SessionState.add_constraint.Goals as goal

pub returns-in-Ok-clause-performs : goal.returns-in-Ok-clause-performs
returns-in-Ok-clause-performs g c =
    let h : Parts = parts g.K.ReferencingRows.view c.self.inside in
    let v : state_of h ≡ c.args.self.now.state = ap (λ x. x.state) c.self.view_is in
    let x : Seen = record { state = state_of h; work = record { changes = c.none-self-inside.result.changes; undone = c.none-self-inside.result.undone }; lookups = c.none-self-inside.result.lookups; looked_up = g.K.ReferencingRows.lookups c.self.inside.store; account = no_account false } in
    let w : x.work ≡ no_work = ap (λ w. record { changes = w.changes; undone = w.undone }) c.none-self-inside.ensures in
    let a : h.active ≡ false = shut_is h.active h.store (ap is_open v ∙ c.requires.outside) in
    let none : first_violating_row h.store c.args.constraint ≡ None = c.in-Ok.ensures.answer in
    accept_performs c.args.self.now.state (add_constraint_outcome c.args.self.now.state c.args.constraint)
    (with_schema c.args.self.now.state (with_constraint c.args.self.now.state.schema c.args.constraint)) Done
    (record x { state = state_of (defined h c.add_constraint.new.catalogue (g.K.ReferencingRows.view c.add_constraint.new.store) c.in-Ok.modes); looked_up = g.K.ReferencingRows.lookups c.add_constraint.new.store })
    (ap (λ (y : State). add_constraint_outcome y c.args.constraint) (sym v) ∙ add_is h c.args.constraint c.self.invariant ∙ ap (by_row (state_of h) c.args.constraint) none
    ∙ ap (λ (y : State). by_row y c.args.constraint None) v)
    (added_state h c.args.constraint c.add_constraint.new.catalogue (g.K.ReferencingRows.view c.add_constraint.new.store) c.in-Ok.modes a c.self.invariant
    c.in-Ok.ensures.catalogue c.in-Ok.ensures.store c.in-Ok.ensures.modes
    ∙ ap (λ (y : State). with_schema y (with_constraint y.schema c.args.constraint)) v) w

pub returns-in-Err-clause-performs : goal.returns-in-Err-clause-performs
returns-in-Err-clause-performs g c =
    let h : Parts = parts g.K.ReferencingRows.view c.self.inside in
    let v : state_of h ≡ c.args.self.now.state = ap (λ x. x.state) c.self.view_is in
    let x : Seen = record { state = state_of h; work = record { changes = c.none-self-inside.result.changes; undone = c.none-self-inside.result.undone }; lookups = c.none-self-inside.result.lookups; looked_up = g.K.ReferencingRows.lookups c.self.inside.store; account = no_account false } in
    let w : x.work ≡ no_work = ap (λ w. record { changes = w.changes; undone = w.undone }) c.none-self-inside.ensures in
    let kept : state_of (defined h c.add_constraint.new.catalogue (g.K.ReferencingRows.view c.add_constraint.new.store) h.initial) ≡ state_of h =
    λ i. state_of (defined h (c.in-Err.ensures.same i) (c.in-Err.ensures.kept i) h.initial) in
    subst (λ (y : State). Performs y (add_constraint_outcome y c.args.constraint) (Err c.adding_refusal.result)
    (record x { state = state_of (defined h c.add_constraint.new.catalogue (g.K.ReferencingRows.view c.add_constraint.new.store) h.initial); looked_up = g.K.ReferencingRows.lookups c.add_constraint.new.store })) v
    (subst (λ (r : Refusal). Performs (state_of h) (add_constraint_outcome (state_of h) c.args.constraint) (Err r)
    (record x { state = state_of (defined h c.add_constraint.new.catalogue (g.K.ReferencingRows.view c.add_constraint.new.store) h.initial); looked_up = g.K.ReferencingRows.lookups c.add_constraint.new.store })) (sym c.adding_refusal.ensures)
    (added_refused h c.args.constraint c.in-Err.fault (record x { state = state_of (defined h c.add_constraint.new.catalogue (g.K.ReferencingRows.view c.add_constraint.new.store) h.initial); looked_up = g.K.ReferencingRows.lookups c.add_constraint.new.store })
    c.in-Err.ensures.answer c.self.invariant kept w))

pub returns-in-Ok-clause-told : goal.returns-in-Ok-clause-told
returns-in-Ok-clause-told g c =
    let h : Parts = parts g.K.ReferencingRows.view c.self.inside in
    subst (λ (x : Seen). c.add_constraint.new.account ≡ and_told c.args.account.now (addition_told x.state c.args.constraint)) c.self.view_is
    (added_untold h c.args.constraint c.args.account.now c.add_constraint.new.account c.self.invariant c.in-Ok.ensures.answer c.in-Ok.ensures.told)

pub returns-in-Err-clause-told : goal.returns-in-Err-clause-told
returns-in-Err-clause-told g c =
    let h : Parts = parts g.K.ReferencingRows.view c.self.inside in
    subst (λ (x : Seen). UnlessMemory {A = Answer} (Err c.adding_refusal.result) (c.add_constraint.new.account ≡ and_told c.args.account.now (addition_told x.state c.args.constraint))) c.self.view_is
    (subst (λ (r : Refusal). UnlessMemory {A = Answer} (Err r) (c.add_constraint.new.account ≡ and_told c.args.account.now (addition_told (state_of h) c.args.constraint))) (sym c.adding_refusal.ensures)
    (refused_told h c.args.constraint c.in-Err.fault c.args.account.now c.add_constraint.new.account c.self.invariant c.in-Err.ensures.answer c.in-Err.ensures.told))
