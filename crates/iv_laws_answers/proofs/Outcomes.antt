-- What a resolved statement is refused for, beside the causes of evaluation and of data statements.
use Rattle.std.proofs.Common.{◌≡◌, refl, ℕ, ◌==◌, Bool, true, false, not, List, length, find, Option, Some, None, Result, Ok, Err, sym, ap, subst, ◌∙◌}
use Rattle.iv_syntax.specs.declared.statement.ConstraintMode.{ConstraintMode}
use Rattle.iv_catalogue.specs.declared.plan.SchemaPlan.{SchemaPlan}
use Rattle.iv_catalogue.specs.declared.plan.TransactionPlan.{TransactionPlan}
use Rattle.iv_catalogue.specs.declared.plan.TransactionPlan.TheVariants as transaction
use Rattle.iv_catalogue.specs.Catalogues.{with_constraint}
use Rattle.iv_machine.specs.declared.answer.Answer.{Answer}
use Rattle.iv_machine.specs.declared.answer.Answer.TheVariants.{Done}
use Rattle.iv_machine.specs.Context.{Failure}
use Rattle.iv_machine.specs.Databases.{first, scan}
use Rattle.iv_machine.specs.Levels.{Finished}
use Rattle.iv_machine.specs.Machine.{State, Outcome, NamedSavepoint, Occasion, outside, inside, beginning, always, accept, refuse, refuse_first, level_outcome, answer_outcome, commit_by, rollback_by, first_violation, savepoint_named, release_outcome, rollback_to_outcome, is_deferrable, constraints_meant, with_modes, first_made_immediate, modes_outcome, set_constraints_outcome, with_schema, schema_outcome, transaction_outcome, transaction_cause, outcome_unless}
use Rattle.std.proofs.lemmas.Option.{none-some, same_Some}
use Rattle.iv_laws_answers.specs.Types.{Cause, Fault, Refusal, Database}
use Rattle.iv_laws_answers.specs.Types.schema
use Rattle.iv_laws_answers.specs.Types.cause.{InTransaction, NoTransaction, ActiveTransaction, UnknownSavepoint, NotDeferrable, Violation, CommitRefused, AddRefused}

-- a test that is false of every cause which the occasion of a statement has, or a statement about the schema or a transaction
pub record IsOfEvaluation (bad : Cause → Bool) : Type 0 where
  pub in_transaction : bad InTransaction ≡ false
  pub no_transaction : bad NoTransaction ≡ false
  pub active : bad ActiveTransaction ≡ false
  pub savepoint : bad UnknownSavepoint ≡ false
  pub deferrable : (id : ℕ) → bad (NotDeferrable id) ≡ false
  pub violation : (f : Fault) → bad (Violation f) ≡ false
  pub commit : (f : Fault) → bad (CommitRefused f) ≡ false
  pub added : (row : ℕ) → bad (AddRefused row) ≡ false

-- an answer, or a refusal for a cause that the test is false of
abbrev pub Without : (Cause → Bool) → Result Answer Refusal → Type 0
Without bad (Ok a) = Unit {0}
Without bad (Err r) = bad r.cause ≡ false

module _ (bad : Cause → Bool) (h : IsOfEvaluation bad) where
  first_without : (s : State) (cause : Fault → Cause) → ((f : Fault) → bad (cause f) ≡ false) → (o : Option Fault) (x : Outcome) → Without bad x.answer
      → Without bad (refuse_first s cause o x).answer
  first_without s cause g (Some f) x p = g f
  first_without s cause g None x p = p

  pub schema_without : (s : State) (p : SchemaPlan) → Without bad (schema_outcome s p).answer
  schema_without s (schema.CreateTable table constraints) = tt
  schema_without s (schema.AddConstraint k) =
      first_without s (λ f. AddRefused f.row) (λ f. h.added f.row)
      (first (scan s.database.rows (with_constraint s.schema k).constraints (λ id. id == length s.schema.constraints)))
      (accept (with_schema s (with_constraint s.schema k)) Done) tt
  schema_without s (schema.CreateTrigger t) = tt
  schema_without s (schema.DropTrigger id) = tt

  commit_without : (s : State) (start : Option Database) (o : Option Fault) → Without bad (commit_by s start o).answer
  commit_without s None o = tt
  commit_without s (Some start) None = tt
  commit_without s (Some start) (Some f) = h.commit f

  rollback_without : (s : State) (start : Option Database) → Without bad (rollback_by s start).answer
  rollback_without s None = tt
  rollback_without s (Some start) = tt

  release_without : (s : State) (x : Option NamedSavepoint) → Without bad (release_outcome s x).answer
  release_without s None = h.savepoint
  release_without s (Some x) = tt

  rollback_to_without : (s : State) (x : Option NamedSavepoint) → Without bad (rollback_to_outcome s x).answer
  rollback_to_without s None = h.savepoint
  rollback_to_without s (Some x) = tt

  set_without : (s : State) (ids : List ℕ) (m : ConstraintMode) → Without bad (set_constraints_outcome s ids m).answer
  set_without s ids m = by (find (λ id. not (is_deferrable s.schema id)) ids)
    where
      by : (o : Option ℕ)
          → Without bad (elim o as (λ _. Outcome) [ Some id ↦ refuse s (NotDeferrable id) | None ↦ modes_outcome s (with_modes s.modes ids m) ]).answer
      by (Some id) = h.deferrable id
      by None =
          first_without s Violation h.violation (first_made_immediate s (with_modes s.modes ids m))
          (accept (record s { modes = with_modes s.modes ids m }) Done) tt

  pub transaction_without : (s : State) (p : TransactionPlan) → Without bad (transaction_outcome s p).answer
  transaction_without s transaction.Start = tt
  transaction_without s transaction.Commit = commit_without s s.start (first_violation s)
  transaction_without s transaction.Rollback = rollback_without s s.start
  transaction_without s (transaction.Savepoint name) = tt
  transaction_without s (transaction.Release name) = release_without s (savepoint_named name s.savepoints)
  transaction_without s (transaction.RollbackTo name) = rollback_to_without s (savepoint_named name s.savepoints)
  transaction_without s (transaction.SetConstraints ids m) = set_without s (constraints_meant s.schema ids) m

  -- the transaction that is open or isn't
  pub occasion_without : (open_now : Bool) (o : Occasion) (cause : Cause) → transaction_cause open_now o ≡ Some cause → bad cause ≡ false
  occasion_without true outside cause e = ap bad (sym (same_Some InTransaction cause e)) ∙ h.in_transaction
  occasion_without true inside cause e = absurd (none-some cause e)
  occasion_without true beginning cause e = ap bad (sym (same_Some ActiveTransaction cause e)) ∙ h.active
  occasion_without true always cause e = absurd (none-some cause e)
  occasion_without false outside cause e = absurd (none-some cause e)
  occasion_without false inside cause e = ap bad (sym (same_Some NoTransaction cause e)) ∙ h.no_transaction
  occasion_without false beginning cause e = absurd (none-some cause e)
  occasion_without false always cause e = absurd (none-some cause e)

  pub unless_without : (s : State) (open_now : Bool) (o : Occasion) (x : Outcome) → (transaction_cause open_now o ≡ None → Without bad x.answer)
      → Without bad (outcome_unless s (transaction_cause open_now o) x).answer
  unless_without s open_now o x g = by (transaction_cause open_now o) refl
    where
      by : (c : Option Cause) → transaction_cause open_now o ≡ c → Without bad (outcome_unless s c x).answer
      by (Some cause) e = occasion_without open_now o cause e
      by None e = g e

pub answer_without : (bad : Cause → Bool) (s : State) (r : Result Answer Cause) → ((cause : Cause) → r ≡ Err cause → bad cause ≡ false)
    → Without bad (answer_outcome s r).answer
answer_without bad s (Ok a) g = tt
answer_without bad s (Err cause) g = g cause refl

pub level_without : (bad : Cause → Bool) (s : State) (r : Result Finished Failure) → ((failure : Failure) → r ≡ Err failure → bad failure.cause ≡ false)
    → Without bad (level_outcome s r).answer
level_without bad s (Ok done) g = tt
level_without bad s (Err failure) g = g failure refl

pub without_refused : (bad : Cause → Bool) (r : Result Answer Refusal) (refusal : Refusal) → Without bad r → r ≡ Err refusal → bad refusal.cause ≡ false
without_refused bad r refusal w e = subst (Without bad) e w
