-- Expressions, conditions and proposals aren't refused for lack of memory.
use Rattle.std.proofs.Common.{◌≢◌, refl, ℕ, ◌+◌, ℤ, ◌+ℤ◌, ◌-ℤ◌, ◌*ℤ◌, Bool, true, false, ◌||◌, if◌then◌else◌, List, [], ◌∷◌, map, filter_map, zip, Option, Some, None, Result, Ok, Err, slice_get}
use Rattle.std.proofs.lemmas.Bool.{true≢false}
use Rattle.std.specs.List.{enumerate_from}
use Rattle.std.specs.declared.cmp.Ordering.{Ordering}
use Rattle.iv_value.specs.declared.value.Value.{Value}
use Rattle.iv_value.specs.declared.value.Value.TheVariants.{Null, Int, Text}
use Rattle.iv_value.specs.declared.value.Truth.{Truth}
use Rattle.iv_value.specs.declared.value.Truth.TheVariants.{Unknown}
use Rattle.iv_value.specs.declared.value.Fit.{Fit}
use Rattle.iv_value.specs.declared.value.Fit.TheVariants.{Yes, WrongKind, TooLong}
use Rattle.iv_value.specs.Truths.{truth_of, is_true}
use Rattle.iv_value.specs.Values.{is_null, order, checked, fit_of}
use Rattle.iv_expr.specs.declared.tree.Comparison.{Comparison}
use Rattle.iv_expr.specs.declared.tree.Expr.TheVariants.{Literal, Column, Variable}
use Rattle.iv_expr.specs.declared.tree.Cond.TheVariants.{Always, Compare, IsNull}
use Rattle.iv_expr.specs.Trees.{plus, minus, times, not_c, and_c, or_c, exists_c}
use Rattle.iv_expr.specs.Scopes.{Scope, Frame, scope_of, within, range_rows, table_rows, variable_of}
use Rattle.iv_expr.specs.Evaluation.{and_then, column_of, number_of, arithmetic, value, accepts, comparison_of, all_results, truth}
use Rattle.iv_catalogue.specs.declared.catalogue.Column.{Column as TableColumn}
use Rattle.iv_catalogue.specs.declared.plan.InsertColumns.{InsertColumns}
use Rattle.iv_catalogue.specs.declared.plan.InsertColumns.TheVariants as columns
use Rattle.iv_catalogue.specs.declared.plan.InsertRows.{InsertRows}
use Rattle.iv_catalogue.specs.declared.plan.InsertRows.TheVariants as rows
use Rattle.iv_catalogue.specs.declared.plan.Outputs.{Outputs}
use Rattle.iv_catalogue.specs.declared.plan.Outputs.TheVariants as outputs
use Rattle.iv_catalogue.specs.declared.plan.Setting.{Setting}
use Rattle.iv_catalogue.specs.declared.plan.DataStatement.TheVariants as data_statement
use Rattle.iv_catalogue.specs.Refusals.{cause_of}
use Rattle.iv_machine.specs.Context.{Context, each}
use Rattle.iv_machine.specs.Proposals.{set_columns, with_cause, holds, column_at, value_for_column, stored_value, stored_values, with_columns, element_where_true, where_true, matching_rows, outputs_of, values_by_column, row_of_values, insertion, insertion_of, proposed_insertions, update_of, deletion, proposed_changes, proposed_wave}
use Rattle.iv_laws_answers.specs.Types.{StoredRow, Expr, Cond, ExprFault, Cause, DataStatement, Database}
use Rattle.iv_laws_answers.specs.Types.expr_fault.{IllTyped, NoMemory}
use Rattle.iv_laws_answers.specs.Types.cause.{WrongShape, TextTooLong}
use Rattle.iv_laws_answers.specs.Memory.{ValuesWantNoMemory, TruthsWantNoMemory, ProposalsWantNoMemory}
use Rattle.iv_laws_answers.proofs.Spared.{SparedFault, SparedCause, then_spared, both_spared, each_spared, all_spared, spared_refused}

-- ---- expressions

column_spared : (row : Option (List Value)) (c : ℕ) → SparedFault (column_of row c)
column_spared None c = refl
column_spared (Some row) c = by (slice_get row c)
  where
    by : (o : Option Value) → SparedFault (elim o as (λ x. Result Value ExprFault) [ Some v ↦ Ok v | None ↦ Err IllTyped ])
    by (Some v) = tt
    by None = refl

number_spared : (z : Option ℤ) → SparedFault (number_of z)
number_spared (Some z) = tt
number_spared None = refl

arithmetic_spared : (f : ℤ → ℤ → ℤ) (a b : Value) → SparedFault (arithmetic f a b)
arithmetic_spared f (Int a) (Int b) = number_spared (checked (f a b))
arithmetic_spared f (Int a) Null = tt
arithmetic_spared f (Int a) (Text t) = refl
arithmetic_spared f Null (Int b) = tt
arithmetic_spared f Null Null = tt
arithmetic_spared f Null (Text t) = refl
arithmetic_spared f (Text t) (Int b) = refl
arithmetic_spared f (Text t) Null = refl
arithmetic_spared f (Text t) (Text u) = refl

pub value_spared : (s : Scope) (e : Expr) → SparedFault (value s e)
value_spared s (Literal v) = tt
value_spared s (Column range c) = column_spared (slice_get s.ranges range) c
value_spared s (Variable side c) = column_spared (variable_of s side) c
value_spared s (plus a b) = both_spared cause_of (arithmetic ◌+ℤ◌) (value s a) (value s b) (value_spared s a) (value_spared s b) (arithmetic_spared ◌+ℤ◌)
value_spared s (minus a b) = both_spared cause_of (arithmetic ◌-ℤ◌) (value s a) (value s b) (value_spared s a) (value_spared s b) (arithmetic_spared ◌-ℤ◌)
value_spared s (times a b) = both_spared cause_of (arithmetic ◌*ℤ◌) (value s a) (value s b) (value_spared s a) (value_spared s b) (arithmetic_spared ◌*ℤ◌)

-- ---- conditions

comparison_spared : (op : Comparison) (a b : Value) → SparedFault (comparison_of op a b)
comparison_spared op a b = by (order a b) (is_null a || is_null b)
  where
    by : (o : Option Ordering) (null : Bool)
        → SparedFault (elim o as (λ x. Result Truth ExprFault) [ Some q ↦ Ok (truth_of (accepts op q)) | None ↦ if null then Ok Unknown else Err IllTyped ])
    by (Some q) null = tt
    by None true = tt
    by None false = refl

pub truth_spared : (s : Scope) (c : Cond) → SparedFault (truth s c)
truth_spared s Always = tt
truth_spared s (Compare op a b) = both_spared cause_of (comparison_of op) (value s a) (value s b) (value_spared s a) (value_spared s b) (comparison_spared op)
truth_spared s (IsNull a) = then_spared cause_of (value s a) _ (value_spared s a) (λ v. tt)
truth_spared s (not_c a) = then_spared cause_of (truth s a) _ (truth_spared s a) (λ t. tt)
truth_spared s (and_c a b) = both_spared cause_of _ (truth s a) (truth s b) (truth_spared s a) (truth_spared s b) (λ x y. tt)
truth_spared s (or_c a b) = both_spared cause_of _ (truth s a) (truth s b) (truth_spared s a) (truth_spared s b) (λ x y. tt)
truth_spared s (exists_c range a) =
    then_spared cause_of (all_results (map (λ row. truth (within s row) a) (range_rows s range))) _
    (all_spared (λ row. truth (within s row) a) (λ row. truth_spared (within s row) a) (range_rows s range)) (λ truths. tt)

not_spared : {A : Type 0} (r : Result A ExprFault) → SparedFault r → r ≢ Err NoMemory
not_spared r h is = absurd (true≢false (spared_refused cause_of r NoMemory h is))

pub values_want_no_memory : ValuesWantNoMemory
values_want_no_memory s e = not_spared (value s e) (value_spared s e)

pub truths_want_no_memory : TruthsWantNoMemory
truths_want_no_memory s c = not_spared (truth s c) (truth_spared s c)

-- ---- values for columns

pub with_cause_spared : {A : Type 0} (r : Result A ExprFault) → SparedFault r → SparedCause (with_cause r)
with_cause_spared (Ok a) h = tt
with_cause_spared (Err f) h = h

pub holds_spared : (s : Scope) (c : Cond) → SparedCause (holds s c)
holds_spared s c = by (truth s c) (truth_spared s c)
  where
    by : (r : Result Truth ExprFault) → SparedFault r
        → SparedCause (elim r as (λ x. Result Bool Cause) [ Ok t ↦ Ok (is_true t) | Err fault ↦ Err (cause_of fault) ])
    by (Ok t) h = tt
    by (Err f) h = h

fitted_spared : (o : Option TableColumn) (v : Value) → SparedCause (value_for_column o v)
fitted_spared None v = refl
fitted_spared (Some column) v = by (fit_of v column.kind)
  where
    by : (f : Fit) → SparedCause (elim f as (λ x. Result Value Cause) [ Yes ↦ Ok v | WrongKind ↦ Err WrongShape | TooLong ↦ Err TextTooLong ])
    by Yes = tt
    by WrongKind = refl
    by TooLong = refl

pub stored_spared : (w : Context) (table column : ℕ) (r : Result Value ExprFault) → SparedFault r → SparedCause (stored_value w table column r)
stored_spared w table column r h =
    then_spared (λ c. c) (with_cause r) (value_for_column (column_at w.schema table column)) (with_cause_spared r h)
    (fitted_spared (column_at w.schema table column))

-- results, and results with their columns
abbrev AllSpared : List (Result Value ExprFault) → Type 0
AllSpared [] = Unit {0}
AllSpared (r ∷ rs) = SparedFault r × AllSpared rs

abbrev PairsSpared : List (ℕ × Result Value ExprFault) → Type 0
PairsSpared [] = Unit {0}
PairsSpared (p ∷ ps) = SparedFault p.1 × PairsSpared ps

enumerated_spared : (n : ℕ) (rs : List (Result Value ExprFault)) → AllSpared rs → PairsSpared (enumerate_from n rs)
enumerated_spared n [] h = tt
enumerated_spared n (r ∷ rs) h = (h.0, enumerated_spared (n + 1) rs h.1)

zipped_spared : (places : List ℕ) (rs : List (Result Value ExprFault)) → AllSpared rs → PairsSpared (zip places rs)
zipped_spared [] rs h = tt
zipped_spared (place ∷ places) [] h = tt
zipped_spared (place ∷ places) (r ∷ rs) h = (h.0, zipped_spared places rs h.1)

by_column_spared : (listed : InsertColumns) (rs : List (Result Value ExprFault)) → AllSpared rs → PairsSpared (values_by_column listed rs)
by_column_spared columns.All rs h = enumerated_spared 0 rs h
by_column_spared (columns.Listed places) rs h = zipped_spared places rs h

values_spared : (s : Scope) (es : List Expr) → AllSpared (map (value s) es)
values_spared s [] = tt
values_spared s (e ∷ es) = (value_spared s e, values_spared s es)

abbrev well : Value → Result Value ExprFault
well v = Ok v

row_spared : (row : List Value) → AllSpared (map (λ v. well v) row)
row_spared [] = tt
row_spared (v ∷ row) = (tt, row_spared row)

outputs_spared : (s : Scope) (listed : Outputs) (row : List Value) → AllSpared (outputs_of s listed row)
outputs_spared s outputs.Star row = row_spared row
outputs_spared s (outputs.Values es) row = values_spared (within s row) es

abbrev set_by : Scope → Setting → ℕ × Result Value ExprFault
set_by s x = (x.column, value s x.value)

settings_spared : (s : Scope) (settings : List Setting) → PairsSpared (map (set_by s) settings)
settings_spared s [] = tt
settings_spared s (x ∷ settings) = (value_spared s x.value, settings_spared s settings)

stored_values_spared : (w : Context) (table : ℕ) (pairs : List (ℕ × Result Value ExprFault)) → PairsSpared pairs → SparedCause (stored_values w table pairs)
stored_values_spared w table [] h = tt
stored_values_spared w table (p ∷ pairs) h =
    then_spared (λ c. c) (and_then (stored_value w table p.0 p.1) (λ v. Ok (p.0, v))) (λ y. and_then (stored_values w table pairs) (λ ys. Ok (y ∷ ys)))
    (then_spared (λ c. c) (stored_value w table p.0 p.1) (λ v. Ok (p.0, v)) (stored_spared w table p.0 p.1 h.0) (λ v. tt))
    (λ y. then_spared (λ c. c) (stored_values w table pairs) (λ ys. Ok (y ∷ ys)) (stored_values_spared w table pairs h.1) (λ ys. tt))

-- what is selected of a row
pub results_spared : (s : Scope) (listed : Outputs) (row : List Value) → SparedCause (each with_cause (outputs_of s listed row))
results_spared s listed row = by (outputs_of s listed row) (outputs_spared s listed row)
  where
    by : (rs : List (Result Value ExprFault)) → AllSpared rs → SparedCause (each (λ r. with_cause r) rs)
    by [] h = tt
    by (r ∷ rs) h =
        then_spared (λ c. c) (with_cause r) (λ y. and_then (each (λ x. with_cause x) rs) (λ ys. Ok (y ∷ ys))) (with_cause_spared r h.0)
        (λ y. then_spared (λ c. c) (each (λ x. with_cause x) rs) (λ ys. Ok (y ∷ ys)) (by rs h.1) (λ ys. tt))

-- ---- what a statement proposes

pub where_spared : {A : Type 0} (row_of : A → List Value) (s : Scope) (c : Cond) (xs : List A) → SparedCause (where_true row_of s c xs)
where_spared row_of s c xs =
    then_spared (λ c. c) (each (λ x. and_then (holds (within s (row_of x)) c) (λ b. Ok (x, b))) xs) (λ pairs. Ok (filter_map element_where_true pairs))
    (each_spared (λ c. c) (λ x. and_then (holds (within s (row_of x)) c) (λ b. Ok (x, b)))
    (λ x. then_spared (λ c. c) (holds (within s (row_of x)) c) (λ b. Ok (x, b)) (holds_spared (within s (row_of x)) c) (λ b. tt)) xs) (λ pairs. tt)

insertion_spared : (w : Context) (table : ℕ) (listed : InsertColumns) (rs : List (Result Value ExprFault)) → AllSpared rs
    → SparedCause (insertion_of w table listed rs)
insertion_spared w table listed rs h =
    then_spared (λ c. c) (stored_values w table (values_by_column listed rs)) (λ pairs. Ok (insertion table (row_of_values w.schema table listed pairs)))
    (stored_values_spared w table (values_by_column listed rs) (by_column_spared listed rs h)) (λ pairs. tt)

insertions_spared : (w : Context) (s : Scope) (table : ℕ) (listed : InsertColumns) (given : InsertRows)
    → SparedCause (proposed_insertions w s table listed given)
insertions_spared w s table listed (rows.Values tuples) =
    each_spared (λ c. c) (λ tuple. insertion_of w table listed (map (value s) tuple))
    (λ tuple. insertion_spared w table listed (map (value s) tuple) (values_spared s tuple)) tuples
insertions_spared w s table listed (rows.Query l range filter) =
    then_spared (λ c. c) (where_true (λ row. row) s filter (range_rows s range)) (each (λ row. insertion_of w table listed (outputs_of s l row)))
    (where_spared (λ row. row) s filter (range_rows s range))
    (λ found. each_spared (λ c. c) (λ row. insertion_of w table listed (outputs_of s l row))
    (λ row. insertion_spared w table listed (outputs_of s l row) (outputs_spared s l row)) found)

update_spared : (w : Context) (s : Scope) (settings : List Setting) (r : StoredRow) → SparedCause (update_of w s settings r)
update_spared w s settings r =
    then_spared (λ c. c) (stored_values w r.table (map (set_by (within s r.values)) settings))
    (λ pairs. Ok (record { table = r.table; row = r.number; old = Some r.values; new = Some (with_columns r.values pairs) }))
    (stored_values_spared w r.table (map (set_by (within s r.values)) settings) (settings_spared (within s r.values) settings)) (λ pairs. tt)

changes_spared : (w : Context) (db : Database) (f : Frame) (d : DataStatement) → SparedCause (proposed_changes w db f d)
changes_spared w db f (data_statement.Insert table listed given) = insertions_spared w (scope_of f db.rows) table listed given
changes_spared w db f (data_statement.Update table settings filter) =
    then_spared (λ c. c) (matching_rows (scope_of f db.rows) filter (table_rows db.rows table)) (each (update_of w (scope_of f db.rows) settings))
    (where_spared (λ (r : StoredRow). r.values) (scope_of f db.rows) filter (table_rows db.rows table))
    (λ found. each_spared (λ c. c) (update_of w (scope_of f db.rows) settings) (update_spared w (scope_of f db.rows) settings) found)
changes_spared w db f (data_statement.Delete table filter) =
    then_spared (λ c. c) (matching_rows (scope_of f db.rows) filter (table_rows db.rows table)) (λ found. Ok (map deletion found))
    (where_spared (λ (r : StoredRow). r.values) (scope_of f db.rows) filter (table_rows db.rows table)) (λ found. tt)

pub proposed_spared : (w : Context) (db : Database) (f : Frame) (d : DataStatement) → SparedCause (proposed_wave w db f d)
proposed_spared w db f d =
    then_spared (λ c. c) (proposed_changes w db f d) (λ changes. Ok (record { changes = changes; columns = set_columns d })) (changes_spared w db f d) (λ changes. tt)

pub proposals_want_no_memory : ProposalsWantNoMemory
proposals_want_no_memory w db f d cause e = spared_refused (λ c. c) (proposed_wave w db f d) cause (proposed_spared w db f d) e
