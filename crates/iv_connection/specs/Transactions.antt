-- What the calls for transactions do to a session, as the clauses of `Session` say it.
use Rattle.std.specs.Prelude.{◌≡◌, ◌≢◌, ◌-◌, ℕ, [], List, true, false, Result, OnOk, OnErr}
use Rattle.iv_catalogue.specs.declared.cause.Refusal.{Refusal}
use Rattle.iv_catalogue.specs.Refusals.{is_memory}
use Rattle.iv_machine.specs.declared.answer.Answer.{Answer}
use Rattle.iv_machine.specs.declared.database.Which.TheVariants.{All}
use Rattle.iv_machine.specs.Databases.{is_chosen, scan}
use Rattle.iv_machine.specs.Machine.{commit_outcome, inside, is_open, outcome_unless, rollback_to_outcome, savepoint_named, transaction_cause}
use Rattle.iv_account.specs.Sessions.{commit_told}
use Rattle.iv_account.specs.Telling.{MayTell, no_account}
use Rattle.iv_session.specs.FewLookups.{FewLookups}
use Rattle.iv_state.specs.Kept.{Seen}
use Rattle.iv_state.specs.Performing.{Performs}

-- a COMMIT with this outcome
pub record Committed (old : Seen) (r : Result Answer Refusal) (new : Seen) : Type 0 where
  pub answer : r ≡ (commit_outcome old.state).answer
  pub state : new.state ≡ (commit_outcome old.state).state
  pub work : new.work ≡ (commit_outcome old.state).work
  pub lookups : new.lookups ≡ new.looked_up - old.looked_up
  pub bounded : FewLookups old.state new
  pub accepted : OnOk r (scan old.state.database.rows old.state.schema.constraints (is_chosen old.state.modes All) ≡ [])
  pub refused : OnErr r (scan old.state.database.rows old.state.schema.constraints (is_chosen old.state.modes All) ≢ [])
  pub told : MayTell true (no_account old.account.asked) new.account (commit_told old.state)

-- a ROLLBACK TO SAVEPOINT of this name with this outcome
pub record RolledBackTo (name : List ℕ) (old : Seen) (r : Result Answer Refusal) (new : Seen) : Type 0 where
  pub performs : Performs old.state
      (outcome_unless old.state (transaction_cause (is_open old.state) inside) (rollback_to_outcome old.state (savepoint_named name old.state.savepoints))) r new
  pub lookups : new.lookups ≡ new.looked_up - old.looked_up
  pub bounded : FewLookups old.state new
  pub sure : is_memory r ≡ false
  pub account : new.account ≡ no_account old.account.asked
