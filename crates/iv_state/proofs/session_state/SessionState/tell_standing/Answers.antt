use Rattle.std.proofs.Common.{◌≡◌, ◌∙◌, ap, sym, subst, ◌∷◌, [], List, OnOk}
use Rattle.iv_account.specs.declared.entry.Entry.{Entry}
use Rattle.iv_account.specs.declared.entry.Entry.TheVariants.{Standing}
use Rattle.iv_account.specs.Sessions.{savepoint_told}
use Rattle.iv_account.specs.Telling.{and_told}
use Rattle.iv_state.specs.Kept.{Parts, Seen, parts}
use Rattle.iv_state.proofs.Standing.{missing_told, there_untold}
use Rattle.iv_state.proofs.Told.{nothing_told}
use Rattle.iv_state.proofs.session_state.SessionState.tell_standing.Goals as goal

pub returns-in-Some : goal.returns-in-Some
returns-in-Some g c =
    let h : Parts = parts g.K.ReferencingRows.view c.self.inside in
    nothing_told c.args.account.now (savepoint_told c.args.self.now.state c.args.name.now)
    (sym (ap (λ (x : Seen). savepoint_told x.state c.args.name.now) c.self.view_is)
    ∙ there_untold h c.args.name.now _ c.self.invariant (sym c.place_of.ensures.place ∙ c.in-Some.is))

pub returns-in_ok-names-in-None : goal.returns-in_ok-names-in-None
returns-in_ok-names-in-None g c =
    let h : Parts = parts g.K.ReferencingRows.view c.self.inside in
    subst (λ (told : List Entry). OnOk c.standing.result (c.standing.new.self ≡ and_told c.args.account.now told))
    (ap (λ l. Standing l ∷ []) c.in_ok-names-in-None.ensures
    ∙ sym (missing_told h c.args.name.now c.self.invariant (sym c.place_of.ensures.place ∙ c.in-None.is))
    ∙ ap (λ (x : Seen). savepoint_told x.state c.args.name.now) c.self.view_is)
    c.standing.ensures.told
