-- What a statement proposes, BEFORE triggers, and a wave that is entered aren't refused for a violation.
use Rattle.std.proofs.Common.{◌≡◌, refl, ℕ, ◌+◌, Bool, true, false, if◌then◌else◌, List, map, filter, filter_map, Option, Some, None, is_some, Result, Ok, Err}
use Rattle.std.specs.Bool.{nat_lt}
use Rattle.iv_value.specs.declared.value.Value.{Value}
use Rattle.iv_value.specs.declared.value.Truth.{Truth}
use Rattle.iv_value.specs.declared.value.Fit.{Fit}
use Rattle.iv_value.specs.declared.value.Fit.TheVariants.{Yes, WrongKind, TooLong}
use Rattle.iv_value.specs.Truths.{is_true}
use Rattle.iv_value.specs.Values.{fit_of}
use Rattle.iv_expr.specs.declared.row.StoredRow.{StoredRow}
use Rattle.iv_expr.specs.declared.tree.Cond.{Cond}
use Rattle.iv_expr.specs.declared.tree.ExprFault.{ExprFault}
use Rattle.iv_expr.specs.declared.tree.ExprFault.TheVariants.{OutOfRange, IllTyped, NoMemory}
use Rattle.iv_expr.specs.Changes.{Wave}
use Rattle.iv_expr.specs.Evaluation.{and_then, value, truth}
use Rattle.iv_expr.specs.Scopes.{Scope, Frame, scope_of, within, range_rows, table_rows}
use Rattle.iv_catalogue.specs.declared.catalogue.Column.{Column}
use Rattle.iv_catalogue.specs.declared.cause.Cause.{Cause}
use Rattle.iv_catalogue.specs.declared.cause.Cause.TheVariants.{WrongShape, TextTooLong, TooManyChanges, TransactionTooLarge, Limit}
use Rattle.iv_catalogue.specs.declared.cause.Fault.{Fault}
use Rattle.iv_catalogue.specs.declared.cause.Refusal.{Refusal}
use Rattle.iv_catalogue.specs.declared.plan.DataStatement.{DataStatement}
use Rattle.iv_catalogue.specs.declared.plan.DataStatement.TheVariants as data_statement
use Rattle.iv_catalogue.specs.declared.plan.InsertColumns.{InsertColumns}
use Rattle.iv_catalogue.specs.declared.plan.InsertRows.{InsertRows}
use Rattle.iv_catalogue.specs.declared.plan.InsertRows.TheVariants as rows
use Rattle.iv_catalogue.specs.declared.plan.Setting.{Setting}
use Rattle.iv_catalogue.specs.Refusals.{cause_of}
use Rattle.iv_machine.specs.declared.database.Database.{Database}
use Rattle.iv_machine.specs.Bounds.{most_changes_in_a_transaction}
use Rattle.iv_machine.specs.Databases.{size}
use Rattle.iv_machine.specs.Context.{Context, Failure, fails, with_count, each}
use Rattle.iv_machine.specs.Proposals.{set_columns, with_cause, holds, column_at, value_for_column, stored_value, stored_values, with_columns, element_where_true, where_true, matching_rows, outputs_of, values_by_column, row_of_values, insertion, insertion_of, proposed_insertions, update_of, deletion, proposed_changes, proposed_wave}
use Rattle.iv_machine.specs.BeforeTriggers.{before_statement, wave_after_triggers}
use Rattle.iv_machine.specs.Waves.{numbered_wave, is_beyond_last_row, wave_as_applied}
use Rattle.iv_laws_rows.proofs.Without.{Without, counted_without, each_without, then_without}
use Rattle.iv_laws_rows.proofs.WithoutTriggers.{Evaluates, statement_triggers_without, wave_triggers_without}
use Rattle.iv_laws_answers.specs.AccountLaws.{violation_of}

abbrev pub is_violation : Cause → Bool
is_violation c = is_some (violation_of c)

-- an answer, or a refusal for something else
abbrev pub ApartBy : {A E : Type 0} → (E → Cause) → Result A E → Type 0
ApartBy cause r = Without (λ e. is_violation (cause e)) r

abbrev pub ApartCause : {A : Type 0} → Result A Cause → Type 0
ApartCause r = ApartBy (λ c. c) r

abbrev pub ApartRefusal : {A : Type 0} → Result A Refusal → Type 0
ApartRefusal r = ApartBy (λ x. x.cause) r

abbrev pub ApartFailure : {A : Type 0} → Result A Failure → Type 0
ApartFailure r = ApartBy (λ x. x.cause) r

pub no_violation : (c : Cause) → is_some (violation_of c) ≡ false → violation_of c ≡ None
no_violation c = by (violation_of c)
  where
    by : (o : Option Fault) → is_some o ≡ false → o ≡ None
    by None h = refl
    by (Some f) h = cc

-- ---- one step after another

then_apart : {A B E : Type 0} (cause : E → Cause) (r : Result A E) (f : A → Result B E) → ApartBy cause r → ((a : A) → ApartBy cause (f a))
    → ApartBy cause (and_then r f)
then_apart cause r f h more = then_without (λ e. is_violation (cause e)) r f h (λ a e. more a)

each_apart : {A B E : Type 0} (cause : E → Cause) (f : A → Result B E) → ((x : A) → ApartBy cause (f x)) → (xs : List A) → ApartBy cause (each f xs)
each_apart cause f h xs = each_without (λ e. is_violation (cause e)) f xs (λ x i. h x)

-- ---- values and conditions

pub fault_apart : (fault : ExprFault) → is_violation (cause_of fault) ≡ false
fault_apart OutOfRange = refl
fault_apart IllTyped = refl
fault_apart NoMemory = refl

with_cause_apart : {A : Type 0} (r : Result A ExprFault) → ApartCause (with_cause r)
with_cause_apart (Ok a) = tt
with_cause_apart (Err fault) = fault_apart fault

pub holds_apart : (s : Scope) (c : Cond) → ApartCause (holds s c)
holds_apart s c = by (truth s c)
  where
    by : (r : Result Truth ExprFault) → ApartCause (elim r as (λ x. Result Bool Cause) [ Ok t ↦ Ok (is_true t) | Err fault ↦ Err (cause_of fault) ])
    by (Ok t) = tt
    by (Err fault) = fault_apart fault

fitted_apart : (o : Option Column) (v : Value) → ApartCause (value_for_column o v)
fitted_apart None v = refl
fitted_apart (Some column) v = by (fit_of v column.kind)
  where
    by : (f : Fit) → ApartCause (elim f as (λ x. Result Value Cause) [ Yes ↦ Ok v | WrongKind ↦ Err WrongShape | TooLong ↦ Err TextTooLong ])
    by Yes = tt
    by WrongKind = refl
    by TooLong = refl

stored_apart : (w : Context) (table column : ℕ) (r : Result Value ExprFault) → ApartCause (stored_value w table column r)
stored_apart w table column r =
    then_apart (λ c. c) (with_cause r) (value_for_column (column_at w.schema table column)) (with_cause_apart r) (fitted_apart (column_at w.schema table column))

all_stored_apart : (w : Context) (table : ℕ) (pairs : List (ℕ × Result Value ExprFault)) → ApartCause (stored_values w table pairs)
all_stored_apart w table pairs =
    each_apart (λ c. c) (λ p. and_then (stored_value w table p.0 p.1) (λ v. Ok (p.0, v)))
    (λ p. then_apart (λ c. c) (stored_value w table p.0 p.1) (λ v. Ok (p.0, v)) (stored_apart w table p.0 p.1) (λ v. tt)) pairs

-- ---- what a statement proposes

where_apart : {A : Type 0} (row_of : A → List Value) (s : Scope) (c : Cond) (xs : List A) → ApartCause (where_true row_of s c xs)
where_apart row_of s c xs =
    then_apart (λ c. c) (each (λ x. and_then (holds (within s (row_of x)) c) (λ b. Ok (x, b))) xs) (λ pairs. Ok (filter_map element_where_true pairs))
    (each_apart (λ c. c) (λ x. and_then (holds (within s (row_of x)) c) (λ b. Ok (x, b)))
    (λ x. then_apart (λ c. c) (holds (within s (row_of x)) c) (λ b. Ok (x, b)) (holds_apart (within s (row_of x)) c) (λ b. tt)) xs) (λ pairs. tt)

insertion_apart : (w : Context) (table : ℕ) (listed : InsertColumns) (values : List (Result Value ExprFault)) → ApartCause (insertion_of w table listed values)
insertion_apart w table listed values =
    then_apart (λ c. c) (stored_values w table (values_by_column listed values)) (λ pairs. Ok (insertion table (row_of_values w.schema table listed pairs)))
    (all_stored_apart w table (values_by_column listed values)) (λ pairs. tt)

insertions_apart : (w : Context) (s : Scope) (table : ℕ) (listed : InsertColumns) (source : InsertRows) → ApartCause (proposed_insertions w s table listed source)
insertions_apart w s table listed (rows.Values tuples) =
    each_apart (λ c. c) (λ tuple. insertion_of w table listed (map (value s) tuple)) (λ tuple. insertion_apart w table listed (map (value s) tuple)) tuples
insertions_apart w s table listed (rows.Query outputs range filter) =
    then_apart (λ c. c) (where_true (λ row. row) s filter (range_rows s range)) (each (λ row. insertion_of w table listed (outputs_of s outputs row)))
    (where_apart (λ row. row) s filter (range_rows s range))
    (each_apart (λ c. c) (λ row. insertion_of w table listed (outputs_of s outputs row)) (λ row. insertion_apart w table listed (outputs_of s outputs row)))

update_apart : (w : Context) (s : Scope) (settings : List Setting) (r : StoredRow) → ApartCause (update_of w s settings r)
update_apart w s settings r =
    then_apart (λ c. c) (stored_values w r.table (map (λ x. (x.column, value (within s r.values) x.value)) settings))
    (λ pairs. Ok (record { table = r.table; row = r.number; old = Some r.values; new = Some (with_columns r.values pairs) }))
    (all_stored_apart w r.table (map (λ x. (x.column, value (within s r.values) x.value)) settings)) (λ pairs. tt)

changes_apart : (w : Context) (db : Database) (f : Frame) (d : DataStatement) → ApartCause (proposed_changes w db f d)
changes_apart w db f (data_statement.Insert table listed source) = insertions_apart w (scope_of f db.rows) table listed source
changes_apart w db f (data_statement.Update table settings filter) =
    then_apart (λ c. c) (matching_rows (scope_of f db.rows) filter (table_rows db.rows table)) (each (update_of w (scope_of f db.rows) settings))
    (where_apart (λ (r : StoredRow). r.values) (scope_of f db.rows) filter (table_rows db.rows table))
    (each_apart (λ c. c) (update_of w (scope_of f db.rows) settings) (update_apart w (scope_of f db.rows) settings))
changes_apart w db f (data_statement.Delete table filter) =
    then_apart (λ c. c) (matching_rows (scope_of f db.rows) filter (table_rows db.rows table)) (λ found. Ok (map deletion found))
    (where_apart (λ (r : StoredRow). r.values) (scope_of f db.rows) filter (table_rows db.rows table)) (λ found. tt)

pub proposed_apart : (w : Context) (db : Database) (f : Frame) (d : DataStatement) → ApartCause (proposed_wave w db f d)
proposed_apart w db f d =
    then_apart (λ c. c) (proposed_changes w db f d) (λ changes. Ok (record { changes = changes; columns = set_columns d })) (changes_apart w db f d) (λ changes. tt)

-- ---- BEFORE triggers

evaluation_apart : Evaluates is_violation
evaluation_apart = record {
  conditions = holds_apart;
  values = λ w table column s e. stored_apart w table column (value s e);
  signals = λ trigger place. refl;
}

pub before_statement_apart : (w : Context) (db_rows : List StoredRow) (d : DataStatement) → ApartRefusal (before_statement w db_rows d)
before_statement_apart = statement_triggers_without is_violation evaluation_apart

-- ---- a wave that is entered

pub applied_apart : (w : Context) (db : Database) (budget : ℕ) (wave : Wave) → ApartFailure (wave_as_applied w db budget wave)
applied_apart w db budget wave =
    by (nat_lt budget (size wave)) (nat_lt most_changes_in_a_transaction (db.count + size wave)) (is_beyond_last_row (numbered_wave db.next wave).changes)
  where
    by : (few large last : Bool) → ApartFailure
        (if few then fails db TooManyChanges
        else (if large then fails db TransactionTooLarge
        else (if last then fails db Limit
        else with_count db (wave_after_triggers w db.rows (numbered_wave db.next wave)))))
    by true large last = refl
    by false true last = refl
    by false false true = refl
    by false false false =
        counted_without is_violation db (wave_after_triggers w db.rows (numbered_wave db.next wave))
        (wave_triggers_without is_violation evaluation_apart w db.rows (numbered_wave db.next wave))
