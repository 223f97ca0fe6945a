use Rattle.std.proofs.Common.{◌≡◌, ◌∙◌, ap, sym, subst, None, Err}
use Rattle.iv_catalogue.specs.Catalogues.{Schema}
use Rattle.iv_machine.specs.Machine.{State, is_open, transaction_cause, occasion_of, resolution_outcome}
use Rattle.iv_resolution.specs.Resolution.{Resolves, resolution}
use Rattle.iv_state.specs.Kept.{Seen}
use Rattle.iv_state.specs.Performing.{Runs}
use Rattle.iv_state.proofs.Defined.{runs_of}
use Rattle.iv_state.proofs.Fitting.{plan_fits}
use Rattle.iv_step.proofs.Occasions.{plans_keep}
use Rattle.iv_step.proofs.Reached.{IsReached}
use Rattle.iv_session.proofs.Few.{few_from, no_definition}
use Rattle.iv_session.proofs.Told.{unresolved_untold}
use Rattle.iv_session.proofs.Sound.{resolved_reached}
use Rattle.iv_session.proofs.session.Session.resolve_and_perform.Goals as goal

pub perform-requires : goal.perform-requires
perform-requires g c =
    let same : c.clear_work.new.self.state ≡ c.args.self.now.state = c.clear_work.ensures.state ∙ ap (λ (x : Seen). x.state) c.self.view_is in
    plan_fits c.clear_work.new.self.state c.args.statement.now c.in-Ok.plan c.catalogue.ensures.suits
    (subst (λ (y : State). transaction_cause (is_open y) (occasion_of c.args.statement.now) ≡ None) (sym same) c.requires)
    (sym {b = resolution c.clear_work.new.self.state.schema c.args.statement.now} (c.in-Ok.ensures ∙ ap (λ (x : Schema). resolution x c.args.statement.now) c.catalogue.ensures.now))

pub returns-in-Ok-clause-runs : goal.returns-in-Ok-clause-runs
returns-in-Ok-clause-runs g c =
    let same : c.clear_work.new.self.state ≡ c.args.self.now.state = c.clear_work.ensures.state ∙ ap (λ (x : Seen). x.state) c.self.view_is in
    subst (λ (y : State). Runs y c.args.statement.now (resolution_outcome y (resolution y.schema c.args.statement.now)) c.perform.result c.perform.new.self) same
    (runs_of c.clear_work.new.self.state c.args.statement.now c.in-Ok.plan c.perform.result c.perform.new.self
    (c.in-Ok.ensures ∙ ap (λ (x : Schema). resolution x c.args.statement.now) c.catalogue.ensures.now) c.perform.ensures.performs)

pub invariant_of-self : goal.invariant_of-self
invariant_of-self g c =
    let same : c.clear_work.new.self.state ≡ c.args.self.now.state = c.clear_work.ensures.state ∙ ap (λ (x : Seen). x.state) c.self.view_is in
    resolved_reached c.args.self.now.state c.args.statement.now c.perform.result c.perform.new.self
    (subst (λ (x : Seen). IsReached x.state) c.self.view_is c.self.invariant) c.requires
    (subst (λ (y : State). Runs y c.args.statement.now (resolution_outcome y (resolution y.schema c.args.statement.now)) c.perform.result c.perform.new.self) same
    (runs_of c.clear_work.new.self.state c.args.statement.now c.in-Ok.plan c.perform.result c.perform.new.self
    (c.in-Ok.ensures ∙ ap (λ (x : Schema). resolution x c.args.statement.now) c.catalogue.ensures.now) c.perform.ensures.performs))

pub returns-in-Ok-clause-looked_up : goal.returns-in-Ok-clause-looked_up
returns-in-Ok-clause-looked_up g c = λ plain.
    let same : c.clear_work.new.self.state ≡ c.args.self.now.state = c.clear_work.ensures.state ∙ ap (λ (x : Seen). x.state) c.self.view_is in
    let planned = sym {b = resolution c.clear_work.new.self.state.schema c.args.statement.now} (c.in-Ok.ensures ∙ ap (λ (x : Schema). resolution x c.args.statement.now) c.catalogue.ensures.now) in
    few_from c.perform.result c.args.self.now c.clear_work.new.self c.perform.new.self same (c.clear_work.ensures.looked_up ∙ ap (λ (x : Seen). x.looked_up) c.self.view_is)
    (c.perform.ensures.looked_up (no_definition c.in-Ok.plan c.args.statement.now (plans_keep c.clear_work.new.self.state.schema c.args.statement.now c.in-Ok.plan planned) plain))

pub returns-in-Err-clause-told : goal.returns-in-Err-clause-told
returns-in-Err-clause-told g c =
    let same : c.clear_work.new.self.state ≡ c.args.self.now.state = c.clear_work.ensures.state ∙ ap (λ (x : Seen). x.state) c.self.view_is in
    unresolved_untold c.args.self.now.state c.in-Err.refusal (resolution c.args.self.now.state.schema c.args.statement.now) c.args.self.now.account c.self.inside.account
    (subst (λ (x : Schema). Resolves x c.args.statement.now (Err c.in-Err.refusal)) (c.catalogue.ensures.now ∙ ap (λ (y : State). y.schema) same) c.in-Err.ensures)
    (ap (λ (x : Seen). x.account) c.self.view_is)
