-- What is told of a resolved statement: of a data statement; of what failed in a query; of the violations for which COMMIT and SET
-- CONSTRAINTS are refused; of the savepoints that stand where one isn't there; and of the row for which a constraint isn't added.
use Rattle.std.specs.Prelude.{ℕ, ◌-◌, Bool, true, false, ◌&&◌, not, if◌then◌else◌, List, [], ◌∷◌, ◌++◌, find, Option, Some, None}
use Rattle.iv_expr.specs.declared.row.StoredRow.{StoredRow}
use Rattle.iv_machine.specs.Types.{Cause, Constraint, ConstraintMode, DataStatement, Plan, QueryPlan, SchemaPlan, TransactionPlan}
use Rattle.iv_machine.specs.Types.cause.{AddRefused}
use Rattle.iv_machine.specs.Types.plan
use Rattle.iv_machine.specs.Types.schema
use Rattle.iv_machine.specs.Types.transaction
use Rattle.iv_machine.specs.declared.database.Which.TheVariants.{All}
use Rattle.iv_expr.specs.Scopes.{no_frame}
use Rattle.iv_machine.specs.Databases.{scan, is_chosen, is_deferred}
use Rattle.iv_machine.specs.Machine.{NamedSavepoint, Savepoint, State, add_constraint_outcome, constraints_meant, context_of, is_deferrable, is_open, query_outcome, savepoint_named, with_modes}
use Rattle.iv_account.specs.declared.entry.Entry.{Entry}
use Rattle.iv_account.specs.declared.entry.Entry.TheVariants.{Standing}
use Rattle.iv_account.specs.Accounts.{account, failure_told, faults_told, not_added_told, told_or}
use Rattle.iv_account.specs.Failures.{query_failure}

-- The statement is at depth 1, and has the whole budget.
abbrev pub change_told : State → DataStatement → List Entry
change_told s d = account (s.limits.depth - 1) (context_of s) d no_frame s.database s.limits.changes

-- what failed in a query
abbrev pub query_told : State → QueryPlan → List Entry
query_told s q = told_or (query_outcome s q).answer (λ refusal. failure_told refusal.cause (query_failure s.database.rows q)) (λ _. [])

-- all violations of all constraints, inside a transaction
abbrev pub commit_told : State → List Entry
commit_told s =
    if is_open s then faults_told s.schema s.database.rows (scan s.database.rows s.schema.constraints (is_chosen s.modes All)) else []

-- all violations of the constraints that these modes make immediate
abbrev pub modes_told : State → List ConstraintMode → List Entry
modes_told s modes =
    faults_told s.schema s.database.rows
    (scan s.database.rows s.schema.constraints (λ id. is_deferred s.modes id && not (is_deferred modes id)))

-- what SET CONSTRAINTS tells, if each of the constraints is deferrable
abbrev pub set_constraints_told : State → List ℕ → ConstraintMode → List Entry
set_constraints_told s ids m = elim (find (λ id. not (is_deferrable s.schema id)) ids) [
  | Some id ↦ []
  | None ↦ modes_told s (with_modes s.modes ids m)
]

-- the names of these savepoints, of which the newest is first, from the earliest on
abbrev pub names_of : List Savepoint → List (List ℕ)
names_of [] = []
names_of (x ∷ saves) = names_of saves ++ x.name ∷ []

-- the savepoints that stand, by the one that a statement names: nothing if it is there
abbrev pub standing_told : List Savepoint → Option NamedSavepoint → List Entry
standing_told saves (Some named) = []
standing_told saves None = Standing (names_of saves) ∷ []

-- what RELEASE SAVEPOINT and ROLLBACK TO SAVEPOINT tell of this name
abbrev pub savepoint_told : State → List ℕ → List Entry
savepoint_told s name = standing_told s.savepoints (savepoint_named name s.savepoints)

-- Of a statement of transaction management.
abbrev pub transaction_told : State → TransactionPlan → List Entry
transaction_told s transaction.Commit = commit_told s
transaction_told s (transaction.Release name) = savepoint_told s name
transaction_told s (transaction.RollbackTo name) = savepoint_told s name
transaction_told s (transaction.SetConstraints ids m) = set_constraints_told s (constraints_meant s.schema ids) m
transaction_told s _ = []

-- a constraint that isn't added, if this cause refuses it for a row
abbrev pub addition_refused_told : List StoredRow → Constraint → Cause → List Entry
addition_refused_told rows k (AddRefused number) = not_added_told rows k number ∷ []
addition_refused_told rows k _ = []

-- what ALTER TABLE tells
abbrev pub addition_told : State → Constraint → List Entry
addition_told s k =
    told_or (add_constraint_outcome s k).answer (λ refusal. addition_refused_told s.database.rows k refusal.cause) (λ _. [])

-- Of a statement that changes the schema.
abbrev pub schema_told : State → SchemaPlan → List Entry
schema_told s (schema.AddConstraint k) = addition_told s k
schema_told s _ = []

-- What is told of a resolved statement.
abbrev pub plan_told : State → Plan → List Entry
plan_told s (plan.Schema p) = schema_told s p
plan_told s (plan.Change d) = change_told s d
plan_told s (plan.Query q) = query_told s q
plan_told s (plan.Transaction p) = transaction_told s p

-- The plan runs even if its account can't be allocated: a COMMIT, or a ROLLBACK TO SAVEPOINT.
abbrev pub runs_untold : Plan → Bool
runs_untold (plan.Transaction transaction.Commit) = true
runs_untold (plan.Transaction (transaction.RollbackTo name)) = true
runs_untold _ = false
