-- Each statement leads from a state that fits to one that does.
use Rattle.std.proofs.Common.{◌≡◌, refl, ℕ, ◌-◌, ◌==◌, Bool, true, false, not, if◌then◌else◌, List, [], ◌∷◌, ◌++◌, length, find, Option, Some, None, unwrap_or, Result, Ok, Err, sym, ap, ◌∙◌}
use Rattle.std.specs.List.{list_all}
use Rattle.std.specs.Str.{bytes_eq}
use Rattle.iv_syntax.specs.declared.statement.ConstraintMode.{ConstraintMode}
use Rattle.iv_expr.specs.Scopes.{no_frame}
use Rattle.iv_catalogue.specs.declared.plan.QueryPlan.TheVariants as query
use Rattle.iv_catalogue.specs.declared.plan.SchemaPlan.{SchemaPlan}
use Rattle.iv_catalogue.specs.declared.plan.TransactionPlan.{TransactionPlan}
use Rattle.iv_catalogue.specs.declared.plan.TransactionPlan.TheVariants as transaction
use Rattle.iv_catalogue.specs.Catalogues.{with_constraint}
use Rattle.iv_machine.specs.declared.answer.Answer.{Answer}
use Rattle.iv_machine.specs.declared.answer.Answer.TheVariants.{Done}
use Rattle.iv_machine.specs.Bounds.{Bounds}
use Rattle.iv_machine.specs.Context.{Failure}
use Rattle.iv_machine.specs.Databases.{first, scan}
use Rattle.iv_machine.specs.Levels.{Finished, level}
use Rattle.iv_machine.specs.Machine.{Savepoint, State, Outcome, NamedSavepoint, empty_state, start_database, is_open, context_of, accept, refuse, refuse_first, level_outcome, answer_outcome, rows_answer, count_answer, commit_by, first_violation, rollback_by, savepoint_named, without_name, release_outcome, rollback_to_outcome, is_deferrable, constraints_meant, with_modes, first_made_immediate, modes_outcome, set_constraints_outcome, with_schema, schema_outcome, transaction_outcome, plan_outcome, resolution_outcome, occasion_of, transaction_cause, outcome_unless}
use Rattle.iv_resolution.specs.Resolution.{resolution}
use Rattle.iv_laws_fitting.proofs.Plans.{changes_fit}
use Rattle.std.proofs.lemmas.Bool.{and_from, and_parts}
use Rattle.std.proofs.lemmas.Option.{none-some, same_Some}
use Rattle.iv_laws_rows.specs.RowFits.{rows_fit}
use Rattle.iv_laws_rows.proofs.FittingFrames.{plain_statements_fit}
use Rattle.iv_laws_rows.proofs.FittingLevels.{levels_keep_rows}
use Rattle.iv_laws_rows.proofs.MoreRows.{rows_fit_more_tables}
use Rattle.iv_step.specs.Step.{step, run}
use Rattle.iv_step.proofs.Reached.{IsReached, step_reached, empty_reached}
use Rattle.iv_laws_answers.specs.Types.{Statement, Table, Cause, Fault, Refusal, Plan, Database}
use Rattle.iv_laws_answers.specs.Types.plan
use Rattle.iv_laws_answers.specs.Types.schema
use Rattle.iv_laws_answers.specs.Types.cause.{AddRefused, NotDeferrable, Violation}
use Rattle.iv_laws_answers.specs.FittingStates.{savepoint_fits, RowsFit, ReachedStatesFit}

-- ---- savepoints

abbrev SavesFit : List Table → List Savepoint → Type 0
SavesFit tables xs = list_all (savepoint_fits tables) xs ≡ true

without_fit : (tables : List Table) (name : List ℕ) (xs : List Savepoint) → SavesFit tables xs → SavesFit tables (without_name name xs)
without_fit tables name [] h = refl
without_fit tables name (x ∷ xs) h =
    let p = and_parts (savepoint_fits tables x) (list_all (savepoint_fits tables) xs) h in
    elim (not (bytes_eq name x.name)) as (λ b. SavesFit tables (if b then x ∷ without_name name xs else without_name name xs)) [
      | true ↦ and_from (savepoint_fits tables x) (list_all (savepoint_fits tables) (without_name name xs)) p.0 (without_fit tables name xs p.1)
      | false ↦ without_fit tables name xs p.1
    ]

-- the one that is found, and those before it
abbrev with_older : Savepoint → List Savepoint → NamedSavepoint
with_older x xs = record { savepoint = x; older = xs }

abbrev named_fits : List Table → NamedSavepoint → Bool
named_fits tables x = list_all (savepoint_fits tables) (x.savepoint ∷ x.older)

named_fit : (tables : List Table) (name : List ℕ) (xs : List Savepoint) (x : NamedSavepoint) → savepoint_named name xs ≡ Some x → SavesFit tables xs
    → named_fits tables x ≡ true
named_fit tables name [] x e h = absurd (none-some x e)
named_fit tables name (y ∷ xs) x e h =
    let rest = (and_parts (savepoint_fits tables y) (list_all (savepoint_fits tables) xs) h).1 in
    elim (bytes_eq name y.name) as (λ b. (if b then Some (with_older y xs) else savepoint_named name xs) ≡ Some x → named_fits tables x ≡ true) [
      | true ↦ λ is. ap (named_fits tables) (sym (same_Some (with_older y xs) x is)) ∙ h
      | false ↦ λ is. named_fit tables name xs x is rest
    ] e

named_parts : (tables : List Table) (x : NamedSavepoint) → named_fits tables x ≡ true
    → (savepoint_fits tables x.savepoint ≡ true) × (list_all (savepoint_fits tables) x.older ≡ true)
named_parts tables x h = and_parts (savepoint_fits tables x.savepoint) (list_all (savepoint_fits tables) x.older) h

-- ---- more tables

saves_fit_more : (tables more : List Table) (xs : List Savepoint) → SavesFit tables xs → SavesFit (tables ++ more) xs
saves_fit_more tables more [] h = refl
saves_fit_more tables more (x ∷ xs) h =
    let p = and_parts (savepoint_fits tables x) (list_all (savepoint_fits tables) xs) h in
    and_from (savepoint_fits (tables ++ more) x) (list_all (savepoint_fits (tables ++ more)) xs)
    (rows_fit_more_tables tables more x.database.rows p.0) (saves_fit_more tables more xs p.1)

-- ---- what each statement leaves

abbrev Fits : State → Type 0
Fits s = RowsFit s.schema.tables s

first_fits : (s : State) (cause : Fault → Cause) (o : Option Fault) (x : Outcome) → Fits s → Fits x.state → Fits (refuse_first s cause o x).state
first_fits s cause (Some f) x h g = h
first_fits s cause None x h g = g

schema_fits : (s : State) (p : SchemaPlan) → Fits s → Fits (schema_outcome s p).state
schema_fits s (schema.CreateTable table constraints) h = record {
  now = rows_fit_more_tables s.schema.tables (table ∷ []) s.database.rows h.now;
  first = rows_fit_more_tables s.schema.tables (table ∷ []) (start_database s).rows h.first;
  saves = saves_fit_more s.schema.tables (table ∷ []) s.savepoints h.saves;
}
schema_fits s (schema.AddConstraint k) h =
    first_fits s (λ f. AddRefused f.row)
    (first (scan s.database.rows (with_constraint s.schema k).constraints (λ id. id == length s.schema.constraints)))
    (accept (with_schema s (with_constraint s.schema k)) Done) h (record { now = h.now; first = h.first; saves = h.saves })
schema_fits s (schema.CreateTrigger t) h = record { now = h.now; first = h.first; saves = h.saves }
schema_fits s (schema.DropTrigger id) h = record { now = h.now; first = h.first; saves = h.saves }

level_fits : (s : State) (r : Result Finished Failure) → ((done : Finished) → r ≡ Ok done → rows_fit s.schema.tables done.database.rows ≡ true)
    → Fits s → Fits (level_outcome s r).state
level_fits s (Ok done) g h = record { now = g done refl; first = h.first; saves = h.saves }
level_fits s (Err failure) g h = h

answer_fits : (s : State) (r : Result Answer Cause) → Fits s → Fits (answer_outcome s r).state
answer_fits s (Ok a) h = h
answer_fits s (Err cause) h = h

-- the database at the start of an open transaction fits
begun_fits : (s : State) (start : Database) → s.start ≡ Some start → Fits s → rows_fit s.schema.tables start.rows ≡ true
begun_fits s start e h = ap (λ (o : Option Database). rows_fit s.schema.tables (unwrap_or o s.database).rows) (sym e) ∙ h.first

commit_fits : (s : State) (start : Option Database) (o : Option Fault) → s.start ≡ start → Fits s → Fits (commit_by s start o).state
commit_fits s None o e h = h
commit_fits s (Some start) None e h = record { now = h.now; first = h.now; saves = refl }
commit_fits s (Some start) (Some f) e h = record { now = begun_fits s start e h; first = begun_fits s start e h; saves = refl }

rollback_fits : (s : State) (start : Option Database) → s.start ≡ start → Fits s → Fits (rollback_by s start).state
rollback_fits s None e h = h
rollback_fits s (Some start) e h = record { now = begun_fits s start e h; first = begun_fits s start e h; saves = refl }

release_fits : (s : State) (name : List ℕ) (o : Option NamedSavepoint) → savepoint_named name s.savepoints ≡ o → Fits s → Fits (release_outcome s o).state
release_fits s name None e h = h
release_fits s name (Some x) e h = record {
  now = h.now;
  first = h.first;
  saves = (named_parts s.schema.tables x (named_fit s.schema.tables name s.savepoints x e h.saves)).1;
}

-- the database at the start, if another one is the current one
started_fits : (tables : List Table) (start : Option Database) (before after : Database) → rows_fit tables (unwrap_or start before).rows ≡ true
    → rows_fit tables after.rows ≡ true → rows_fit tables (unwrap_or start after).rows ≡ true
started_fits tables None before after h g = g
started_fits tables (Some start) before after h g = h

rollback_to_fits : (s : State) (name : List ℕ) (o : Option NamedSavepoint) → savepoint_named name s.savepoints ≡ o → Fits s
    → Fits (rollback_to_outcome s o).state
rollback_to_fits s name None e h = h
rollback_to_fits s name (Some x) e h =
    let all = named_fit s.schema.tables name s.savepoints x e h.saves in
    let p = named_parts s.schema.tables x all in
    record { now = p.0; first = started_fits s.schema.tables s.start s.database x.savepoint.database h.first p.0; saves = all }

set_fits : (s : State) (ids : List ℕ) (m : ConstraintMode) → Fits s → Fits (set_constraints_outcome s ids m).state
set_fits s ids m h = by (find (λ id. not (is_deferrable s.schema id)) ids)
  where
    by : (o : Option ℕ) → Fits (elim o as (λ _. Outcome) [ Some id ↦ refuse s (NotDeferrable id) | None ↦ modes_outcome s (with_modes s.modes ids m) ]).state
    by (Some id) = h
    by None =
        first_fits s Violation (first_made_immediate s (with_modes s.modes ids m)) (accept (record s { modes = with_modes s.modes ids m }) Done) h
        (record { now = h.now; first = h.first; saves = h.saves })

transaction_fits : (s : State) (p : TransactionPlan) → Fits s → Fits (transaction_outcome s p).state
transaction_fits s transaction.Start h = record { now = h.now; first = h.first; saves = h.saves }
transaction_fits s transaction.Commit h = commit_fits s s.start (first_violation s) refl h
transaction_fits s transaction.Rollback h = rollback_fits s s.start refl h
transaction_fits s (transaction.Savepoint name) h = record {
  now = h.now;
  first = h.first;
  saves = and_from (rows_fit s.schema.tables s.database.rows) (list_all (savepoint_fits s.schema.tables) (without_name name s.savepoints)) h.now
      (without_fit s.schema.tables name s.savepoints h.saves);
}
transaction_fits s (transaction.Release name) h = release_fits s name (savepoint_named name s.savepoints) refl h
transaction_fits s (transaction.RollbackTo name) h = rollback_to_fits s name (savepoint_named name s.savepoints) refl h
transaction_fits s (transaction.SetConstraints ids m) h = set_fits s (constraints_meant s.schema ids) m h

-- ---- statements

-- what holds of a state that statements reach, its rows too
pub record Fitting (s : State) : Type 0 where
  pub reached : IsReached s
  pub rows : Fits s

plan_fits : (s : State) (st : Statement) (p : Plan) → resolution s.schema st ≡ Ok p → Fitting s → Fits (plan_outcome s p).state
plan_fits s st (plan.Schema p) e h = schema_fits s p h.rows
plan_fits s st (plan.Change d) e h =
    level_fits s (level (s.limits.depth - 1) (context_of s) d no_frame s.database s.limits.changes)
    (λ done is.
    levels_keep_rows (s.limits.depth - 1) (context_of s) d no_frame s.database s.limits.changes done h.reached.suits h.reached.reachable.now.numbered h.rows.now
    (plain_statements_fit s.schema.tables d (changes_fit s.schema st d h.reached.suits.tables e)) is)
    h.rows
plan_fits s st (plan.Query (query.Rows table listed filter)) e h = answer_fits s (rows_answer s table listed filter) h.rows
plan_fits s st (plan.Query (query.Count table filter)) e h = answer_fits s (count_answer s table filter) h.rows
plan_fits s st (plan.Transaction p) e h = transaction_fits s p h.rows

step_fits : (s : State) (st : Statement) → Fitting s → Fits (step s st).state
step_fits s st h = unless (transaction_cause (is_open s) (occasion_of st))
  where
    by_plan : (r : Result Plan Refusal) → resolution s.schema st ≡ r → Fits (resolution_outcome s r).state
    by_plan (Err x) is = h.rows
    by_plan (Ok p) is = plan_fits s st p is h

    unless : (o : Option Cause) → Fits (outcome_unless s o (resolution_outcome s (resolution s.schema st))).state
    unless (Some cause) = h.rows
    unless None = by_plan (resolution s.schema st) refl

run_fitting : (s : State) (sts : List Statement) → Fitting s → Fitting (run s sts).1
run_fitting s [] h = h
run_fitting s (st ∷ sts) h = run_fitting (step s st).state sts (record { reached = step_reached s st h.reached; rows = step_fits s st h })

pub all_fitting : (limits : Bounds) (sts : List Statement) → Fitting (run (empty_state limits) sts).1
all_fitting limits sts =
    run_fitting (empty_state limits) sts (record { reached = empty_reached limits; rows = record { now = refl; first = refl; saves = refl } })

pub reached_states_fit : ReachedStatesFit
reached_states_fit limits sts = let h = all_fitting limits sts in record { suits = h.reached.suits; rows = h.rows }
