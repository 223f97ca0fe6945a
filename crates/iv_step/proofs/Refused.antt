-- No refusal but that of a COMMIT changes anything, statement by statement.
use Rattle.std.proofs.Common.{◌≡◌, ℕ, ◌-◌, ◌==◌, true, false, not, List, length, find, Option, Some, None, Result, Ok, Err, refl}
use Rattle.std.proofs.lemmas.Bool.{true≢false}
use Rattle.iv_syntax.specs.declared.statement.ConstraintMode.{ConstraintMode}
use Rattle.iv_syntax.specs.declared.statement.Statement.{Statement}
use Rattle.iv_catalogue.specs.declared.cause.Cause.{Cause}
use Rattle.iv_catalogue.specs.declared.cause.Cause.TheVariants.{AddRefused, NotDeferrable, Violation}
use Rattle.iv_catalogue.specs.declared.cause.Fault.{Fault}
use Rattle.iv_catalogue.specs.declared.cause.Refusal.{Refusal}
use Rattle.iv_catalogue.specs.declared.plan.Plan.{Plan}
use Rattle.iv_catalogue.specs.declared.plan.Plan.TheVariants as plan
use Rattle.iv_catalogue.specs.declared.plan.QueryPlan.{QueryPlan}
use Rattle.iv_catalogue.specs.declared.plan.QueryPlan.TheVariants as query
use Rattle.iv_catalogue.specs.declared.plan.SchemaPlan.{SchemaPlan}
use Rattle.iv_catalogue.specs.declared.plan.SchemaPlan.TheVariants as schema
use Rattle.iv_catalogue.specs.declared.plan.TransactionPlan.{TransactionPlan}
use Rattle.iv_catalogue.specs.declared.plan.TransactionPlan.TheVariants as transaction
use Rattle.iv_machine.specs.declared.answer.Answer.{Answer}
use Rattle.iv_machine.specs.declared.answer.Answer.TheVariants.{Done}
use Rattle.iv_machine.specs.declared.database.Database.{Database}
use Rattle.iv_machine.specs.Context.{Failure}
use Rattle.iv_machine.specs.Levels.{Finished, level}
use Rattle.iv_machine.specs.Databases.{first, scan}
use Rattle.iv_expr.specs.Scopes.{no_frame}
use Rattle.iv_catalogue.specs.Catalogues.{with_constraint}
use Rattle.iv_machine.specs.Machine.{State, Outcome, NamedSavepoint, accept, refuse, refuse_first, level_outcome, answer_outcome, rows_answer, count_answer, rollback_by, commit_by, first_violation, savepoint_named, release_outcome, rollback_to_outcome, is_deferrable, constraints_meant, with_modes, first_made_immediate, modes_outcome, set_constraints_outcome, schema_outcome, query_outcome, transaction_outcome, plan_outcome, resolution_outcome, transaction_cause, outcome_unless, is_open, occasion_of, with_schema, context_of}
use Rattle.iv_resolution.specs.Resolution.{resolution}
use Rattle.iv_step.specs.Refusals.{Leaves, RefusalsChangeNothing}

abbrev Keeps : State → Outcome → Type 0
Keeps s o = Leaves s o.answer o.state

first_keeps : (s : State) (cause : Fault → Cause) (f : Option Fault) (o : Outcome) → Keeps s o → Keeps s (refuse_first s cause f o)
first_keeps s cause (Some f) o h = λ _. refl
first_keeps s cause None o h = h

level_keeps : (s : State) (r : Result Finished Failure) → Keeps s (level_outcome s r)
level_keeps s (Ok l) = tt
level_keeps s (Err f) = λ _. refl

answer_keeps : (s : State) (r : Result Answer Cause) → Keeps s (answer_outcome s r)
answer_keeps s (Ok a) = tt
answer_keeps s (Err c) = λ _. refl

commit_keeps : (s : State) (start : Option Database) (f : Option Fault) → Keeps s (commit_by s start f)
commit_keeps s None f = tt
commit_keeps s (Some start) None = tt
commit_keeps s (Some start) (Some f) = λ h. absurd (true≢false h)

rollback_keeps : (s : State) (start : Option Database) → Keeps s (rollback_by s start)
rollback_keeps s None = tt
rollback_keeps s (Some start) = tt

release_keeps : (s : State) (x : Option NamedSavepoint) → Keeps s (release_outcome s x)
release_keeps s None = λ _. refl
release_keeps s (Some x) = tt

rollback_to_keeps : (s : State) (x : Option NamedSavepoint) → Keeps s (rollback_to_outcome s x)
rollback_to_keeps s None = λ _. refl
rollback_to_keeps s (Some x) = tt

set_keeps : (s : State) (ids : List ℕ) (m : ConstraintMode) → Keeps s (set_constraints_outcome s ids m)
set_keeps s ids m =
    elim (find (λ id. not (is_deferrable s.schema id)) ids) as (λ o. Keeps s (elim o as (λ _. Outcome) [ Some id ↦ refuse s (NotDeferrable id) | None ↦ modes_outcome s (with_modes s.modes ids m) ])) [
      | Some id ↦ λ _. refl
      | None ↦ first_keeps s Violation (first_made_immediate s (with_modes s.modes ids m)) (accept (record s { modes = with_modes s.modes ids m }) Done) tt
    ]

schema_keeps : (s : State) (p : SchemaPlan) → Keeps s (schema_outcome s p)
schema_keeps s (schema.CreateTable table constraints) = tt
schema_keeps s (schema.AddConstraint k) =
    first_keeps s (λ f. AddRefused f.row)
    (first (scan s.database.rows (with_constraint s.schema k).constraints (λ id. id == length s.schema.constraints)))
    (accept (with_schema s (with_constraint s.schema k)) Done) tt
schema_keeps s (schema.CreateTrigger t) = tt
schema_keeps s (schema.DropTrigger id) = tt

query_keeps : (s : State) (p : QueryPlan) → Keeps s (query_outcome s p)
query_keeps s (query.Rows table outputs filter) = answer_keeps s (rows_answer s table outputs filter)
query_keeps s (query.Count table filter) = answer_keeps s (count_answer s table filter)

transaction_keeps : (s : State) (p : TransactionPlan) → Keeps s (transaction_outcome s p)
transaction_keeps s transaction.Start = tt
transaction_keeps s transaction.Commit = commit_keeps s s.start (first_violation s)
transaction_keeps s transaction.Rollback = rollback_keeps s s.start
transaction_keeps s (transaction.Savepoint name) = tt
transaction_keeps s (transaction.Release name) = release_keeps s (savepoint_named name s.savepoints)
transaction_keeps s (transaction.RollbackTo name) = rollback_to_keeps s (savepoint_named name s.savepoints)
transaction_keeps s (transaction.SetConstraints ids m) = set_keeps s (constraints_meant s.schema ids) m

plan_keeps : (s : State) (p : Plan) → Keeps s (plan_outcome s p)
plan_keeps s (plan.Schema p) = schema_keeps s p
plan_keeps s (plan.Change d) = level_keeps s (level (s.limits.depth - 1) (context_of s) d no_frame s.database s.limits.changes)
plan_keeps s (plan.Query p) = query_keeps s p
plan_keeps s (plan.Transaction p) = transaction_keeps s p

resolution_keeps : (s : State) (r : Result Plan Refusal) → Keeps s (resolution_outcome s r)
resolution_keeps s (Ok p) = plan_keeps s p
resolution_keeps s (Err r) = λ _. refl

unless_keeps : (s : State) (cause : Option Cause) (o : Outcome) → Keeps s o → Keeps s (outcome_unless s cause o)
unless_keeps s (Some cause) o h = λ _. refl
unless_keeps s None o h = h

pub refusals_change_nothing : RefusalsChangeNothing
refusals_change_nothing s st =
    unless_keeps s (transaction_cause (is_open s) (occasion_of st)) (resolution_outcome s (resolution s.schema st)) (resolution_keeps s (resolution s.schema st))
