use Rattle.std.proofs.Common.{◌≡◌, ◌∙◌, true, [], ap, sym, subst, OnOk}
use Rattle.iv_machine.specs.declared.database.Which.TheVariants.{All}
use Rattle.iv_machine.specs.Databases.{is_chosen, scan}
use Rattle.iv_machine.specs.Machine.{commit_outcome}
use Rattle.iv_account.specs.Sessions.{commit_told}
use Rattle.iv_account.specs.Telling.{Account, MayTell, no_account}
use Rattle.iv_step.proofs.Reached.{IsReached}
use Rattle.iv_state.specs.Kept.{Seen}
use Rattle.iv_session.proofs.Sound.{accepted_always, committed_reached}
use Rattle.iv_session.proofs.session.Session.commit.Goals as goal

pub invariant_of-self : goal.invariant_of-self
invariant_of-self g c = subst IsReached (sym c.commit.ensures.state) (committed_reached c.self.inside.state.state c.self.invariant)

pub returns-clause-work : goal.returns-clause-work
returns-clause-work g c = c.commit.ensures.work ∙ ap (λ (x : Seen). (commit_outcome x.state).work) c.self.view_is

pub returns-clause-accepted : goal.returns-clause-accepted
returns-clause-accepted g c =
    subst (λ (x : Seen). OnOk c.commit.result (scan x.state.database.rows x.state.schema.constraints (is_chosen x.state.modes All) ≡ []))
    c.self.view_is (accepted_always c.self.inside.state.state c.commit.result c.self.invariant c.commit.ensures.accepted)

pub returns-clause-told : goal.returns-clause-told
returns-clause-told g c =
    subst (λ (x : Seen). MayTell true (no_account x.account.asked) c.tell_commit.new.account (commit_told x.state)) c.self.view_is
    (subst (λ (a : Account). MayTell true a c.tell_commit.new.account (commit_told c.self.inside.state.state)) (c.new.ensures ∙ ap no_account c.is_asked.ensures) c.tell_commit.ensures)
