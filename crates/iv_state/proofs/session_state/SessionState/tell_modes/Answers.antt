use Rattle.std.proofs.Common.{◌≡◌, ◌∙◌, List, filter, not, ap, sym, subst, OnOk}
use Rattle.iv_state.specs.Types.{Fault}
use Rattle.iv_machine.specs.declared.database.Which.TheVariants.{Deferred}
use Rattle.iv_machine.specs.Databases.{is_chosen, is_deferred, scan}
use Rattle.iv_machine.specs.Machine.{State}
use Rattle.iv_account.specs.declared.entry.Entry.{Entry}
use Rattle.iv_account.specs.Accounts.{faults_told}
use Rattle.iv_account.specs.Sessions.{modes_told}
use Rattle.iv_account.specs.Telling.{and_told}
use Rattle.iv_state.specs.Kept.{Seen, parts, state_of}
use Rattle.iv_state.proofs.Told.{modes_are_told}
use Rattle.iv_state.proofs.session_state.SessionState.tell_modes.Goals as goal

pub returns : goal.returns
returns g c =
    let h : State = state_of (parts g.K.ReferencingRows.view c.self.inside) in
    let s : State = c.args.self.now.state in
    let new = c.args.modes.now.modes in
    let v : h ≡ s = ap (λ (x : Seen). x.state) c.self.view_is in
    subst (λ (told : List Entry). OnOk c.tell_immediate.result (c.tell_immediate.new.account ≡ and_told c.args.account.now told))
    (ap (λ (l : List Fault). faults_told h.schema h.database.rows (filter (λ f. not (is_deferred new f.constraint)) l))
    (c.as_slice.ensures.value ∙ c.in_ok-faults.ensures ∙ ap (λ (y : State). scan y.database.rows y.schema.constraints (is_chosen y.modes Deferred)) (sym v))
    ∙ modes_are_told h new ∙ ap (λ (y : State). modes_told y new) v)
    c.tell_immediate.ensures
