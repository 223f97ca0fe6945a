-- A session's state is one that statements reach.
use Rattle.std.proofs.Common.{◌≡◌, Bool, true, false, [], None, Some, Option, Result, Ok, Err, refl, sym, ap, subst, MatchBool, IfOk, OnOk, is_some, List}
use Rattle.iv_session.specs.Types.{Statement, Refusal, Answer}
use Rattle.iv_catalogue.specs.declared.plan.TransactionPlan.{TransactionPlan}
use Rattle.iv_catalogue.specs.declared.plan.Plan.TheVariants as plan
use Rattle.iv_catalogue.specs.Refusals.{is_memory, out_of_memory}
use Rattle.iv_laws_levels.specs.Reached.{planned}
use Rattle.iv_laws_levels.proofs.ReachedStates.{reachable_is_sound}
use Rattle.iv_machine.specs.declared.database.Which.TheVariants.{All, Deferred}
use Rattle.iv_machine.specs.Databases.{is_chosen, scan}
use Rattle.iv_catalogue.specs.declared.plan.TransactionPlan.TheVariants as transaction
use Rattle.iv_machine.specs.declared.database.Database.{Database}
use Rattle.iv_machine.specs.Machine.{State, Outcome, commit_outcome, is_open, IsMemoryRefusal, changes_rows, occasion_of, outcome_unless, resolution_outcome, rollback_outcome, transaction_cause}
use Rattle.iv_catalogue.specs.declared.cause.Cause.{Cause}
use Rattle.iv_catalogue.specs.declared.cause.Fault.{Fault}
use Rattle.iv_resolution.specs.Resolution.{resolution}
use Rattle.iv_state.proofs.Performed.{always_runs}
use Rattle.iv_step.specs.Pending.{FaultsRise, pending}
use Rattle.iv_step.specs.Step.{step}
use Rattle.iv_step.proofs.Reached.{IsReached, control_reached, step_reached}
use Rattle.iv_step.proofs.ScansRise.{scan_rises}
use Rattle.iv_state.specs.Kept.{Seen}
use Rattle.iv_state.specs.Performing.{Did, Performs, Runs}

-- a statement leads to such a state, or an allocation failed and the state stays
pub runs_reached : (s : State) (st : Statement) (r : Result Answer Refusal) (x : Seen) → IsReached s → Runs s st (step s st) r x → IsReached x.state
runs_reached s st r x h runs = by (is_memory r) runs where
  by : (b : Bool) → MatchBool b ((x.state ≡ s) × IsMemoryRefusal (changes_rows st) s.schema r) (Did (step s st) r x) → IsReached x.state
  by true k = subst IsReached (sym k.0) h
  by false k = subst IsReached (sym k.1) (step_reached s st h)

-- a call that is a statement of transaction management leads to such a state
pub performs_reached : (s : State) (t : TransactionPlan) (r : Result Answer Refusal) (x : Seen) → IsReached s → Performs s (planned s (plan.Transaction t)) r x → IsReached x.state
performs_reached s t r x h performs = by (is_memory r) performs where
  by : (b : Bool) → MatchBool b ((x.state ≡ s) × (r ≡ Err out_of_memory)) (Did (planned s (plan.Transaction t)) r x) → IsReached x.state
  by true k = subst IsReached (sym k.0) h
  by false k = subst IsReached (sym k.1) (control_reached s t h)

-- outside a transaction no constraint is violated
pub unviolated : (s : State) → IsReached s → s.start ≡ None → scan s.database.rows s.schema.constraints (is_chosen s.modes All) ≡ []
unviolated s h e = ((reachable_is_sound s h.reachable).outside e).unviolated

-- the violations of deferred constraints are in order
pub listed_rise : {V E : Type 0} (s : State) (r : Result V E) (faults : V → List Fault) → IsReached s → IfOk r (λ v. faults v ≡ pending s) → IfOk r (λ v. FaultsRise (faults v))
listed_rise s (Err e) faults h f = tt
listed_rise s (Ok v) faults h f =
    subst FaultsRise (sym f) (scan_rises s.database.rows s.database.next s.schema.constraints (is_chosen s.modes Deferred) (reachable_is_sound s h.reachable).rising)

-- what a statement that may run resolves to leads to such a state
pub resolved_reached : (s : State) (st : Statement) (r : Result Answer Refusal) (x : Seen) → IsReached s → transaction_cause (is_open s) (occasion_of st) ≡ None
    → Runs s st (resolution_outcome s (resolution s.schema st)) r x → IsReached x.state
resolved_reached s st r x h may runs =
    runs_reached s st r x h
    (subst (λ (o : Option Cause). Runs s st (outcome_unless s o (resolution_outcome s (resolution s.schema st))) r x) (sym may) runs)

-- ROLLBACK and COMMIT, as calls
pub rolled_back_reached : (s : State) → IsReached s → IsReached (rollback_outcome s).state
rolled_back_reached s h = subst (λ (o : Outcome). IsReached o.state) (always_runs s (rollback_outcome s)) (control_reached s transaction.Rollback h)

pub committed_reached : (s : State) → IsReached s → IsReached (commit_outcome s).state
committed_reached s h = subst (λ (o : Outcome). IsReached o.state) (always_runs s (commit_outcome s)) (control_reached s transaction.Commit h)

-- COMMIT is accepted only if no constraint is violated, in a transaction and outside of one
pub accepted_always : {A E : Type 0} (s : State) (r : Result A E) → IsReached s
    → OnOk r (is_open s ≡ true → scan s.database.rows s.schema.constraints (is_chosen s.modes All) ≡ [])
    → OnOk r (scan s.database.rows s.schema.constraints (is_chosen s.modes All) ≡ [])
accepted_always s (Err e) h accepted = tt
accepted_always s (Ok a) h accepted = by s.start refl where
  by : (o : Option Database) → s.start ≡ o → scan s.database.rows s.schema.constraints (is_chosen s.modes All) ≡ []
  by None e = unviolated s h e
  by (Some db) e = accepted (ap is_some e)
