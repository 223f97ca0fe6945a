-- The machine: its states, and what a resolved statement answers and leaves ("SQL-transactions", "Transaction management").
use Rattle.std.specs.Prelude.{◌≡◌, ℕ, ◌-◌, Bool, true, false, not, ◌&&◌, if◌then◌else◌, ◌==◌, List, [], ◌∷◌, length, map, filter, find, fold, pos, slice_get, slice_set, Option, Some, None, is_some, unwrap_or, Result, Ok, Err}
use Rattle.std.specs.List.{enumerate_from}
use Rattle.std.specs.Str.{bytes_eq}
use Rattle.iv_machine.specs.Types.{Value, StoredRow, Cond, ConstraintMode, Statement, Constraint, Cause, Fault, Refusal, ConstraintSet, DataStatement, Outputs, Plan, SchemaPlan, QueryPlan, TransactionPlan, Database, Answer}
use Rattle.iv_machine.specs.Types.value.{Int}
use Rattle.iv_machine.specs.Types.statement
use Rattle.iv_machine.specs.Types.cause.{InTransaction, NoTransaction, ActiveTransaction, UnknownSavepoint, NotDeferrable, Violation, CommitRefused, AddRefused, OutOfMemory}
use Rattle.iv_machine.specs.Types.set
use Rattle.iv_machine.specs.Types.plan
use Rattle.iv_machine.specs.Types.schema
use Rattle.iv_machine.specs.Types.query
use Rattle.iv_machine.specs.Types.transaction
use Rattle.iv_machine.specs.Types.which.{All}
use Rattle.iv_machine.specs.Types.answer.{Done, Changed, Rows}
use Rattle.iv_expr.specs.Scopes.{Scope, scope_of, no_frame, table_rows}
use Rattle.iv_expr.specs.Evaluation.{and_then}
use Rattle.iv_catalogue.specs.Catalogues.{Schema, empty_schema, with_table, with_constraint, with_trigger, without_trigger, trigger_numbered}
use Rattle.iv_catalogue.specs.Refusals.{refusal_answer}
use Rattle.iv_machine.specs.Bounds.{Bounds}
use Rattle.iv_machine.specs.Databases.{no_rows, scan, is_chosen, is_deferred, initial_modes, first}
use Rattle.iv_machine.specs.Context.{Context, Failure, each}
use Rattle.iv_machine.specs.Proposals.{with_cause, matching_rows, outputs_of}
use Rattle.iv_machine.specs.Levels.{Finished, level}

-- ---- states

-- a savepoint: what ROLLBACK TO SAVEPOINT brings back
pub record Savepoint : Type 0 where
  pub name : List ℕ
  pub database : Database
  pub modes : List ConstraintMode

-- A state: the catalogue, the limits, the database, the mode of each constraint, the database at the start of an open
-- transaction, and its savepoints, the newest first.
pub record State : Type 0 where
  pub schema : Schema
  pub limits : Bounds
  pub database : Database
  pub modes : List ConstraintMode
  pub start : Option Database
  pub savepoints : List Savepoint

-- the state of a new session
abbrev pub empty_state : Bounds → State
empty_state limits = record { schema = empty_schema; limits = limits; database = no_rows; modes = []; start = None; savepoints = [] }

-- a transaction is open
abbrev pub is_open : State → Bool
is_open s = is_some s.start

-- the database at the start of the transaction, or the database if none is open
abbrev pub start_database : State → Database
start_database s = unwrap_or s.start s.database

-- ---- outcomes

-- How many row changes a statement made, at all levels, and how many it undid.
pub record Work : Type 0 where
  pub changes : ℕ
  pub undone : ℕ

abbrev pub no_work : Work
no_work = record { changes = 0; undone = 0 }

-- the answer to a statement, the state after it, and its work
pub record Outcome : Type 0 where
  pub answer : Result Answer Refusal
  pub state : State
  pub work : Work

abbrev pub accept : State → Answer → Outcome
accept s a = record { answer = Ok a; state = s; work = no_work }

-- a refusal leaves the state
abbrev pub refuse : State → Cause → Outcome
refuse s c = record { answer = refusal_answer c; state = s; work = no_work }

-- refused for the first fault, if there is one
abbrev pub refuse_first : State → (Fault → Cause) → Option Fault → Outcome → Outcome
refuse_first s cause (Some f) o = refuse s (cause f)
refuse_first s cause None o = o

-- ---- INSERT, UPDATE and DELETE

abbrev pub context_of : State → Context
context_of s = record { schema = s.schema; modes = s.modes }

-- a data statement outside a transaction begins one ("SQL-transactions")
abbrev pub with_transaction : State → State
with_transaction s = record s { start = Some (start_database s) }

-- the row changes that are in the one count and not in the other are those that the statement made
abbrev pub level_outcome : State → Result Finished Failure → Outcome
level_outcome s (Ok l) = record {
  answer = Ok (Changed l.size);
  state = record (with_transaction s) { database = l.database };
  work = record { changes = l.database.count - s.database.count; undone = 0 };
}
level_outcome s (Err f) = record {
  answer = Err (record { cause = f.cause; trigger = f.trigger });
  state = s;
  work = record { changes = f.count - s.database.count; undone = f.count - s.database.count };
}

-- The statement is at depth 1, and has the whole budget.
abbrev pub change_outcome : State → DataStatement → Outcome
change_outcome s d = level_outcome s (level (s.limits.depth - 1) (context_of s) d no_frame s.database s.limits.changes)

-- ---- SELECT ("Query specification")

abbrev pub answer_outcome : State → Result Answer Cause → Outcome
answer_outcome s (Ok a) = accept s a
answer_outcome s (Err cause) = refuse s cause

-- the rows of a table where the condition is true, by number
abbrev pub rows_meant : State → ℕ → Cond → Result (List StoredRow) Cause
rows_meant s table filter = matching_rows (scope_of no_frame s.database.rows) filter (table_rows s.database.rows table)

-- what is selected of a row
abbrev pub output_row : Scope → Outputs → List Value → Result (List Value) Cause
output_row s outputs row = each with_cause (outputs_of s outputs row)

abbrev pub rows_answer : State → ℕ → Outputs → Cond → Result Answer Cause
rows_answer s table outputs filter =
    and_then (rows_meant s table filter) (λ rows.
    and_then (each (λ r. output_row (scope_of no_frame s.database.rows) outputs r.values) rows) (λ values. Ok (Rows values)))

-- COUNT(*) gives one row of one integer
abbrev pub count_answer : State → ℕ → Cond → Result Answer Cause
count_answer s table filter = and_then (rows_meant s table filter) (λ rows. Ok (Rows ((Int (pos (length rows)) ∷ []) ∷ [])))

-- ---- the ends of a transaction ("Commit statement", "Rollback statement")

-- The transaction is ended with this database: no change is counted, the modes are initial, and there is no savepoint.
abbrev pub state_at_end : State → Database → State
state_at_end s db = record s { database = record db { count = 0 }; modes = initial_modes s.schema.constraints; start = None; savepoints = [] }

-- The transaction is ended with the database from its start, and every change that stood in it is undone.
abbrev pub undo_outcome : State → Database → Result Answer Refusal → Outcome
undo_outcome s start answer = record { answer = answer; state = state_at_end s start; work = record { changes = 0; undone = s.database.count } }

-- the first violation of any constraint, in creation order, then by row
abbrev pub first_violation : State → Option Fault
first_violation s = first (scan s.database.rows s.schema.constraints (is_chosen s.modes All))

-- COMMIT, by the database at the start of an open transaction and by the first violation. Outside a transaction it does nothing. It is
-- accepted if no constraint is violated, and the database stays; otherwise it rolls the transaction back.
abbrev pub commit_by : State → Option Database → Option Fault → Outcome
commit_by s None violation = accept s Done
commit_by s (Some start) None = accept (state_at_end s s.database) Done
commit_by s (Some start) (Some fault) = undo_outcome s start (refusal_answer (CommitRefused fault))

abbrev pub commit_outcome : State → Outcome
commit_outcome s = commit_by s s.start (first_violation s)

-- ROLLBACK, by the database at the start of an open transaction.
abbrev pub rollback_by : State → Option Database → Outcome
rollback_by s None = accept s Done
rollback_by s (Some start) = undo_outcome s start (Ok Done)

abbrev pub rollback_outcome : State → Outcome
rollback_outcome s = rollback_by s s.start

-- ---- savepoints ("Savepoint statement", "Release savepoint statement")

-- a savepoint of that name, and those before it
pub record NamedSavepoint : Type 0 where
  pub savepoint : Savepoint
  pub older : List Savepoint

abbrev pub savepoint_named : List ℕ → List Savepoint → Option NamedSavepoint
savepoint_named name [] = None
savepoint_named name (x ∷ xs) = if bytes_eq name x.name then Some (record { savepoint = x; older = xs }) else savepoint_named name xs

abbrev pub without_name : List ℕ → List Savepoint → List Savepoint
without_name name saves = filter (λ x. not (bytes_eq name x.name)) saves

-- a savepoint takes the place of an older one of its name
abbrev pub state_with_savepoint : State → List ℕ → State
state_with_savepoint s name = record s { savepoints = record { name = name; database = s.database; modes = s.modes } ∷ without_name name s.savepoints }

-- the named savepoint and the later ones go
abbrev pub release_outcome : State → Option NamedSavepoint → Outcome
release_outcome s None = refuse s UnknownSavepoint
release_outcome s (Some x) = accept (record s { savepoints = x.older }) Done

-- the named savepoint stays and the later ones go
abbrev pub rollback_to_outcome : State → Option NamedSavepoint → Outcome
rollback_to_outcome s None = refuse s UnknownSavepoint
rollback_to_outcome s (Some x) = record {
  answer = Ok Done;
  state = record s { database = x.savepoint.database; modes = x.savepoint.modes; savepoints = x.savepoint ∷ x.older };
  work = record { changes = 0; undone = s.database.count - x.savepoint.database.count };
}

-- ---- SET CONSTRAINTS ("Set constraints mode statement")

abbrev pub is_deferrable : Schema → ℕ → Bool
is_deferrable c id = elim (slice_get c.constraints id) [ Some k ↦ k.deferrable | None ↦ false ]

-- the chosen constraints, in the order of the list
abbrev pub constraints_meant : Schema → ConstraintSet → List ℕ
constraints_meant c set.All = filter (is_deferrable c) (map (λ k. k.0) (enumerate_from 0 c.constraints))
constraints_meant c (set.Named ids) = ids

abbrev pub with_modes : List ConstraintMode → List ℕ → ConstraintMode → List ConstraintMode
with_modes modes ids m = fold (λ ms id. slice_set ms id m) modes ids

-- the first violation of a constraint that these modes make immediate
abbrev pub first_made_immediate : State → List ConstraintMode → Option Fault
first_made_immediate s modes = first (scan s.database.rows s.schema.constraints (λ id. is_deferred s.modes id && not (is_deferred modes id)))

abbrev pub modes_outcome : State → List ConstraintMode → Outcome
modes_outcome s modes = refuse_first s Violation (first_made_immediate s modes) (accept (record s { modes = modes }) Done)

-- the first that isn't deferrable is answered before any violation
abbrev pub set_constraints_outcome : State → List ℕ → ConstraintMode → Outcome
set_constraints_outcome s ids m =
    elim (find (λ id. not (is_deferrable s.schema id)) ids) [
      | Some id ↦ refuse s (NotDeferrable id)
      | None ↦ modes_outcome s (with_modes s.modes ids m)
    ]

-- ---- the schema

-- another catalogue; no transaction is open, so the modes are initial
abbrev pub with_schema : State → Schema → State
with_schema s c = record s { schema = c; modes = initial_modes c.constraints }

-- a constraint is refused if a row violates it, deferrable or not ("Add table constraint definition")
abbrev pub add_constraint_outcome : State → Constraint → Outcome
add_constraint_outcome s k =
    refuse_first s (λ f. AddRefused f.row)
    (first (scan s.database.rows (with_constraint s.schema k).constraints (λ id. id == length s.schema.constraints)))
    (accept (with_schema s (with_constraint s.schema k)) Done)

-- ---- statements

abbrev pub schema_outcome : State → SchemaPlan → Outcome
schema_outcome s (schema.CreateTable table constraints) = accept (with_schema s (with_table s.schema table constraints)) Done
schema_outcome s (schema.AddConstraint k) = add_constraint_outcome s k
schema_outcome s (schema.CreateTrigger t) = accept (with_schema s (with_trigger s.schema t)) Done
schema_outcome s (schema.DropTrigger id) = accept (with_schema s (without_trigger s.schema id)) Done

abbrev pub query_outcome : State → QueryPlan → Outcome
query_outcome s (query.Rows table outputs filter) = answer_outcome s (rows_answer s table outputs filter)
query_outcome s (query.Count table filter) = answer_outcome s (count_answer s table filter)

abbrev pub transaction_outcome : State → TransactionPlan → Outcome
transaction_outcome s transaction.Start = accept (with_transaction s) Done
transaction_outcome s transaction.Commit = commit_outcome s
transaction_outcome s transaction.Rollback = rollback_outcome s
transaction_outcome s (transaction.Savepoint name) = accept (state_with_savepoint s name) Done
transaction_outcome s (transaction.Release name) = release_outcome s (savepoint_named name s.savepoints)
transaction_outcome s (transaction.RollbackTo name) = rollback_to_outcome s (savepoint_named name s.savepoints)
transaction_outcome s (transaction.SetConstraints ids m) = set_constraints_outcome s (constraints_meant s.schema ids) m

-- What a resolved statement does.
abbrev pub plan_outcome : State → Plan → Outcome
plan_outcome s (plan.Schema p) = schema_outcome s p
plan_outcome s (plan.Change d) = change_outcome s d
plan_outcome s (plan.Query p) = query_outcome s p
plan_outcome s (plan.Transaction p) = transaction_outcome s p

abbrev pub resolution_outcome : State → Result Plan Refusal → Outcome
resolution_outcome s (Ok p) = plan_outcome s p
resolution_outcome s (Err r) = record { answer = Err r; state = s; work = no_work }

-- ---- when a statement may run

-- Only outside a transaction, only inside one, only to begin one, or always.
pub data Occasion : Type 0 where
  outside : Occasion
  inside : Occasion
  beginning : Occasion
  always : Occasion

-- schema statements run outside a transaction; savepoints and constraint modes are set inside one
abbrev pub occasion_of : Statement → Occasion
occasion_of (statement.CreateTable _ _) = outside
occasion_of (statement.AlterTable _ _) = outside
occasion_of (statement.CreateTrigger _) = outside
occasion_of (statement.DropTrigger _) = outside
occasion_of statement.StartTransaction = beginning
occasion_of (statement.Savepoint _) = inside
occasion_of (statement.Release _) = inside
occasion_of (statement.RollbackTo _) = inside
occasion_of (statement.SetConstraints _ _) = inside
occasion_of _ = always

abbrev pub transaction_occasion : TransactionPlan → Occasion
transaction_occasion transaction.Start = beginning
transaction_occasion transaction.Commit = always
transaction_occasion transaction.Rollback = always
transaction_occasion _ = inside

-- the same of a resolved statement
abbrev pub plan_occasion : Plan → Occasion
plan_occasion (plan.Schema _) = outside
plan_occasion (plan.Transaction p) = transaction_occasion p
plan_occasion _ = always

-- why a statement is refused before anything else
abbrev pub transaction_cause : Bool → Occasion → Option Cause
transaction_cause true outside = Some InTransaction
transaction_cause false inside = Some NoTransaction
transaction_cause true beginning = Some ActiveTransaction
transaction_cause _ _ = None

abbrev pub outcome_unless : State → Option Cause → Outcome → Outcome
outcome_unless s (Some cause) o = refuse s cause
outcome_unless s None o = o

-- ---- what a session promises

-- the statement changes rows, so that it may run triggers
abbrev pub changes_rows : Statement → Bool
changes_rows (statement.Insert _) = true
changes_rows (statement.Update _) = true
changes_rows (statement.Delete _) = true
changes_rows _ = false

-- what a refusal for lack of memory may tell: no trigger, or one that the catalogue has, if the statement changes rows
abbrev pub may_tell : Bool → Schema → Option ℕ → Bool
may_tell changes schema None = true
may_tell changes schema (Some id) = changes && is_some (trigger_numbered schema id)

-- the answer is such a refusal
abbrev pub IsMemoryRefusal : Bool → Schema → Result Answer Refusal → Type 0
IsMemoryRefusal changes schema r =
    (trigger : Option ℕ) × (may_tell changes schema trigger ≡ true) × (r ≡ Err (record { cause = OutOfMemory; trigger = trigger }))

-- An allocation failed: the state stays, and a trigger is told only if one may have run.
abbrev pub MemoryRefused : State → Statement → Result Answer Refusal → State → Type 0
MemoryRefused old st r new = (new ≡ old) × IsMemoryRefusal (changes_rows st) old.schema r
