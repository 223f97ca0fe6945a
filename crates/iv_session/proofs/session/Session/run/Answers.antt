use Rattle.std.proofs.Common.{◌∙◌, ℕ, List, true, ap, subst, sym, MatchBool}
use Rattle.iv_syntax.specs.declared.statement.Statement.TheVariants as statement
use Rattle.iv_account.specs.Sessions.{savepoint_told}
use Rattle.iv_account.specs.Telling.{MayTell}
use Rattle.iv_catalogue.specs.Refusals.{is_memory}
use Rattle.iv_machine.specs.Machine.{Outcome, State, commit_outcome, is_open, occasion_of, rollback_outcome, transaction_cause}
use Rattle.iv_resolution.specs.Resolution.{resolution}
use Rattle.iv_step.specs.Step.{step}
use Rattle.iv_step.specs.Telling.{may_be_untold, statement_told}
use Rattle.iv_session.proofs.Told.{barred_untold, commit_is_told, rollback_to_is_told}
use Rattle.iv_session.specs.Types.{Statement}
use Rattle.iv_state.specs.Kept.{Seen}
use Rattle.iv_state.specs.Performing.{Performs, Runs}
use Rattle.iv_state.proofs.Performed.{always_runs, runs_performed}
use Rattle.iv_catalogue.specs.declared.plan.TransactionPlan.TheVariants as transaction
use Rattle.iv_session.proofs.Sound.{performs_reached, runs_reached}
use Rattle.iv_session.proofs.session.Session.run.Goals as goal

pub returns-in-Commit-clause-runs : goal.returns-in-Commit-clause-runs
returns-in-Commit-clause-runs g c =
    let s : State = c.self.inside.state.state in
    let x : Seen = c.commit_statement.new.self in
    subst (λ (y : Seen). Runs y.state c.args.statement.now (step y.state c.args.statement.now) c.commit_statement.result x) c.self.view_is
    (subst (λ (st : Statement). Runs s st (step s st) c.commit_statement.result x) (sym c.in-Commit.is)
    (runs_performed s statement.Commit (step s statement.Commit) c.commit_statement.result x
    (subst (λ (o : Outcome). Performs s o c.commit_statement.result x) (sym (always_runs s (commit_outcome s))) c.commit_statement.ensures.performs)))

pub returns-in-Rollback-clause-runs : goal.returns-in-Rollback-clause-runs
returns-in-Rollback-clause-runs g c =
    let s : State = c.self.inside.state.state in
    let x : Seen = c.rollback_statement.new.self in
    subst (λ (y : Seen). Runs y.state c.args.statement.now (step y.state c.args.statement.now) c.rollback_statement.result x) c.self.view_is
    (subst (λ (st : Statement). Runs s st (step s st) c.rollback_statement.result x) (sym c.in-Rollback.is)
    (runs_performed s statement.Rollback (step s statement.Rollback) c.rollback_statement.result x
    (subst (λ (o : Outcome). Performs s o c.rollback_statement.result x) (sym (always_runs s (rollback_outcome s))) c.rollback_statement.ensures.performs)))

pub invariant_of-self-in-Commit : goal.invariant_of-self-in-Commit
invariant_of-self-in-Commit g c =
    let s : State = c.self.inside.state.state in
    let x : Seen = c.commit_statement.new.self in
    runs_reached s statement.Commit c.commit_statement.result x c.self.invariant
    (runs_performed s statement.Commit (step s statement.Commit) c.commit_statement.result x
    (subst (λ (o : Outcome). Performs s o c.commit_statement.result x) (sym (always_runs s (commit_outcome s))) c.commit_statement.ensures.performs))

pub invariant_of-self-in-Rollback : goal.invariant_of-self-in-Rollback
invariant_of-self-in-Rollback g c =
    let s : State = c.self.inside.state.state in
    let x : Seen = c.rollback_statement.new.self in
    runs_reached s statement.Rollback c.rollback_statement.result x c.self.invariant
    (runs_performed s statement.Rollback (step s statement.Rollback) c.rollback_statement.result x
    (subst (λ (o : Outcome). Performs s o c.rollback_statement.result x) (sym (always_runs s (rollback_outcome s))) c.rollback_statement.ensures.performs))

pub invariant_of-self-then-is_writable : goal.invariant_of-self-then-is_writable
invariant_of-self-then-is_writable g c =
    performs_reached c.self.inside.state.state (transaction.RollbackTo c.as_str-then-is_writable.result.now) c.rollback_to.result c.rollback_to.new.self c.self.invariant c.rollback_to.ensures.performs

pub returns-in-Some-clause-told : goal.returns-in-Some-clause-told
returns-in-Some-clause-told g c =
    barred_untold c.args.self.now.state c.args.statement.now c.in-Some.cause (may_be_untold (resolution c.args.self.now.state.schema c.args.statement.now)) (is_memory c.refuse_now.result)
    c.args.self.now.account c.self.inside.account
    (c.in-Some.ensures ∙ ap (λ (x : Seen). transaction_cause (is_open x.state) (occasion_of c.args.statement.now)) c.self.view_is)
    (ap (λ (x : Seen). x.account) c.self.view_is)

pub returns-in-Commit-clause-told : goal.returns-in-Commit-clause-told
returns-in-Commit-clause-told g c =
    subst (λ (x : Seen). MatchBool (is_memory c.commit_statement.result) (Unit {0})
    (MayTell (may_be_untold (resolution x.state.schema c.args.statement.now)) x.account c.commit_statement.new.account (statement_told x.state c.args.statement.now))) c.self.view_is
    (commit_is_told c.self.inside.state.state c.args.statement.now (is_memory c.commit_statement.result) c.self.inside.account c.commit_statement.new.account
    c.in-Commit.is c.commit_statement.ensures.told)

pub returns-then-is_writable-clause-told : goal.returns-then-is_writable-clause-told
returns-then-is_writable-clause-told g c =
    let s : State = c.self.inside.state.state in
    subst (λ (x : Seen). MatchBool (is_memory c.rollback_to.result) (Unit {0})
    (MayTell (may_be_untold (resolution x.state.schema c.args.statement.now)) x.account c.tell_rollback_to.new.account (statement_told x.state c.args.statement.now))) c.self.view_is
    (rollback_to_is_told s c.args.statement.now c.in-RollbackTo.name (is_memory c.rollback_to.result) c.self.inside.account c.tell_rollback_to.new.account
    c.in-RollbackTo.is (sym c.is_writable.ensures ∙ c.if-is_writable.true) (sym c.in_default.ensures)
    (subst (λ (n : List ℕ). MayTell true c.self.inside.account c.tell_rollback_to.new.account (savepoint_told s n)) c.as_str.ensures c.tell_rollback_to.ensures))
