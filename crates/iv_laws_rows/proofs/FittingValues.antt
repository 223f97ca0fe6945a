-- Values that fit their columns: one that is stored, some that are set, and the defaults of a table.
use Rattle.std.proofs.Common.{◌≡◌, ℕ, zero, suc, ◌+◌, nat_lt, nat_le, Bool, true, false, not, ◌&&◌, List, [], ◌∷◌, ◌∙◌, Option, Some, None, is_some, Result, Ok, Err, refl, sym, ap, map, length, slice_get, slice_set, arith}
use Rattle.std.proofs.lemmas.Bool.{and_from, and_parts}
use Rattle.std.specs.List.{list_all, enumerate_from}
use Rattle.std.proofs.lemmas.Bool.Decides.{nat_tests}
use Rattle.iv_laws_rows.specs.Types.{Value, Table, Cause}
use Rattle.iv_laws_rows.specs.Types.cause.{WrongShape, TextTooLong}
use Rattle.iv_value.specs.declared.value.Value.TheVariants.{Null}
use Rattle.iv_value.specs.declared.value.Fit.{Fit}
use Rattle.iv_value.specs.declared.value.Fit.TheVariants.{Yes, WrongKind, TooLong}
use Rattle.iv_value.specs.Values.{fit_of}
use Rattle.iv_expr.specs.declared.tree.ExprFault.{ExprFault}
use Rattle.iv_catalogue.specs.Catalogues.{Schema}
use Rattle.iv_catalogue.specs.declared.catalogue.Column.{Column}
use Rattle.iv_catalogue.specs.declared.limits.TheConstants.{MOST_COLUMNS}
use Rattle.iv_catalogue.specs.Names.{has_repeated}
use Rattle.iv_key.specs.Keys.{value_at}
use Rattle.iv_machine.specs.Context.{Context}
use Rattle.iv_machine.specs.Proposals.{with_cause, column_at, value_for_column, stored_value, stored_values, with_columns, defaults_of}
use Rattle.iv_store.specs.Stores.{is_fit, fits_columns, fits_table}
use Rattle.iv_laws_fitting.specs.PlanShapes.{is_there, default_suits, table_suits}
use Rattle.iv_laws_fitting.proofs.Pointwise.{all_at}
use Rattle.iv_laws_fitting.proofs.Targets.{place_is_there}
use Rattle.iv_laws_levels.proofs.Chains.{not_ok, ok_same, step_of}

-- ---- a table, where there is one

abbrev pub table_fits : Option Table → List Value → Bool
table_fits o values = elim o [ Some t ↦ fits_columns t.columns values | None ↦ false ]

abbrev pub column_in : Option Table → ℕ → Option Column
column_in o place = elim o [ Some t ↦ slice_get t.columns place | None ↦ None ]

-- a value fits a column that is there
abbrev pub column_fits : Option Column → Value → Bool
column_fits o v = elim o [ Some c ↦ is_fit (fit_of v c.kind) | None ↦ false ]

-- a value fits the column of a table that it is for
abbrev pub pair_fits : Option Table → ℕ × Value → Bool
pair_fits o p = column_fits (column_in o p.0) p.1

-- a table at a place that is there
pub there_at : {X : Type 0} (xs : List X) (place : ℕ) → nat_lt place (length xs) ≡ true → (x : X) × (slice_get xs place ≡ Some x)
there_at [] place h = let n : nat_lt place 0 ≡ false = grind (arith, nat_tests) in let e : true ≡ false = sym h ∙ n in cc
there_at (x ∷ xs) zero h = (x, refl)
there_at (x ∷ xs) (suc n) h = there_at xs n (grind (arith, nat_tests))

-- if values fit, their table is there
pub fits_there : (tables : List Table) (table : ℕ) (values : List Value) → fits_table tables table values ≡ true → is_there tables table ≡ true
fits_there tables table values h = by (slice_get tables table) refl h
  where
    by : (o : Option Table) → slice_get tables table ≡ o → table_fits o values ≡ true → is_there tables table ≡ true
    by None e g = cc
    by (Some t) e g = place_is_there tables table t e

-- ---- one value

pub value_fits : (o : Option Column) (u v : Value) → value_for_column o u ≡ Ok v → column_fits o v ≡ true
value_fits None u v h = absurd (not_ok WrongShape v h)
value_fits (Some c) u v h = by (fit_of u c.kind) refl h
  where
    by : (f : Fit) → fit_of u c.kind ≡ f
        → elim f as (λ x. Result Value Cause) [ Yes ↦ Ok u | WrongKind ↦ Err WrongShape | TooLong ↦ Err TextTooLong ] ≡ Ok v
        → is_fit (fit_of v c.kind) ≡ true
    by Yes e g = ap (λ (x : Value). is_fit (fit_of x c.kind)) (sym (ok_same {E = Cause} u v g)) ∙ ap is_fit e
    by WrongKind e g = absurd (not_ok WrongShape v g)
    by TooLong e g = absurd (not_ok TextTooLong v g)

-- what is stored in a column fits it
pub stored_fits : (context : Context) (table column : ℕ) (evaluated : Result Value ExprFault) (v : Value)
    → stored_value context table column evaluated ≡ Ok v → pair_fits (slice_get context.schema.tables table) (column, v) ≡ true
stored_fits context table column evaluated v e =
    let made = step_of (with_cause evaluated) (value_for_column (column_at context.schema table column)) v e in
    value_fits (column_at context.schema table column) made.0 v made.2

-- ---- values that are set

columns_set : (cs : List Column) (vs : List Value) (j : ℕ) (v : Value) → fits_columns cs vs ≡ true → column_fits (slice_get cs j) v ≡ true → fits_columns cs (slice_set vs j v) ≡ true
columns_set [] vs j v h g = cc
columns_set (c ∷ cs) [] j v h g = cc
columns_set (c ∷ cs) (x ∷ vs) zero v h g = and_from _ _ g (and_parts (is_fit (fit_of x c.kind)) (fits_columns cs vs) h).1
columns_set (c ∷ cs) (x ∷ vs) (suc j) v h g =
    let parts = and_parts (is_fit (fit_of x c.kind)) (fits_columns cs vs) h in and_from _ _ parts.0 (columns_set cs vs j v parts.1 g)

pub set_fits : (o : Option Table) (values : List Value) (p : ℕ × Value) → table_fits o values ≡ true → pair_fits o p ≡ true → table_fits o (slice_set values p.0 p.1) ≡ true
set_fits None values p h g = cc
set_fits (Some t) values p h g = columns_set t.columns values p.0 p.1 h g

pub with_fits : (o : Option Table) (values : List Value) (pairs : List (ℕ × Value)) → table_fits o values ≡ true → list_all (pair_fits o) pairs ≡ true → table_fits o (with_columns values pairs) ≡ true
with_fits o values [] h g = h
with_fits o values (p ∷ pairs) h g =
    let parts = and_parts (pair_fits o p) (list_all (pair_fits o) pairs) g in
    with_fits o (slice_set values p.0 p.1) pairs (set_fits o values p h parts.0) parts.1

abbrev pub store_pair : Context → ℕ → ℕ × Result Value ExprFault → Result (ℕ × Value) Cause
store_pair context table p = Rattle.iv_expr.specs.Evaluation.and_then (stored_value context table p.0 p.1) (λ v. Ok (p.0, v))

pair_stored : (context : Context) (table : ℕ) (p : ℕ × Result Value ExprFault) (q : ℕ × Value) → store_pair context table p ≡ Ok q
    → (p.0 ≡ q.0) × (pair_fits (slice_get context.schema.tables table) q ≡ true)
pair_stored context table p q e =
    let made = step_of (stored_value context table p.0 p.1) (λ v. Ok (p.0, v)) q e in
    let same = ok_same {E = Cause} (p.0, made.0) q made.2 in
    (ap (λ (x : ℕ × Value). x.0) same, ap (pair_fits (slice_get context.schema.tables table)) (sym same) ∙ stored_fits context table p.0 p.1 made.0 made.1)

pub all_stored : (context : Context) (table : ℕ) (pairs : List (ℕ × Result Value ExprFault)) (out : List (ℕ × Value)) → stored_values context table pairs ≡ Ok out
    → list_all (pair_fits (slice_get context.schema.tables table)) out ≡ true
all_stored context table [] out e = ap (list_all (pair_fits (slice_get context.schema.tables table))) (sym (ok_same {E = Cause} [] out e))
all_stored context table (p ∷ pairs) out e =
    let one = step_of (store_pair context table p) _ out e in
    let more = step_of (stored_values context table pairs) _ out one.2 in
    ap (list_all (pair_fits (slice_get context.schema.tables table))) (sym (ok_same {E = Cause} (one.0 ∷ more.0) out more.2))
    ∙ and_from _ _ (pair_stored context table p one.0 one.1).1 (all_stored context table pairs more.0 more.1)

-- values for all columns from this place on
values_in_order : (context : Context) (table n : ℕ) (values : List (Result Value ExprFault)) (out : List (ℕ × Value)) (cs : List Column)
    → stored_values context table (enumerate_from n values) ≡ Ok out
    → ((j : ℕ) (c : Column) → slice_get cs j ≡ Some c → column_at context.schema table (n + j) ≡ Some c)
    → length values ≡ length cs → fits_columns cs (map (λ p. p.1) out) ≡ true
values_in_order context table n [] out [] e at l = ap (λ (x : List (ℕ × Value)). fits_columns [] (map (λ p. p.1) x)) (sym (ok_same {E = Cause} [] out e))
values_in_order context table n [] out (c ∷ cs) e at l = cc
values_in_order context table n (r ∷ rs) out [] e at l = cc
values_in_order context table n (r ∷ rs) out (c ∷ cs) e at l =
    let one = step_of (store_pair context table (n, r)) _ out e in
    let more = step_of (stored_values context table (enumerate_from (n + 1) rs)) _ out one.2 in
    let stored = pair_stored context table (n, r) one.0 one.1 in
    let first : n + 0 ≡ one.0.0 = (let z : n + 0 ≡ n = omega arith in z ∙ stored.0) in
    let column : column_at context.schema table one.0.0 ≡ Some c = ap (column_at context.schema table) (sym first) ∙ at zero c refl in
    let shorter : length rs ≡ length cs = omega (arith, l) in
    ap (λ (x : List (ℕ × Value)). fits_columns (c ∷ cs) (map (λ p. p.1) x)) (sym (ok_same {E = Cause} (one.0 ∷ more.0) out more.2))
    ∙ and_from _ _ (ap (λ (o : Option Column). column_fits o one.0.1) (sym column) ∙ stored.1)
    (values_in_order context table (n + 1) rs more.0 cs more.1
    (λ j d h. let further : n + 1 + j ≡ n + suc j = omega arith in ap (column_at context.schema table) further ∙ at (suc j) d h) shorter)

pub all_values_fit : (context : Context) (table : ℕ) (t : Table) (values : List (Result Value ExprFault)) (out : List (ℕ × Value))
    → slice_get context.schema.tables table ≡ Some t → length values ≡ length t.columns
    → stored_values context table (enumerate_from 0 values) ≡ Ok out → fits_table context.schema.tables table (map (λ p. p.1) out) ≡ true
all_values_fit context table t values out there l e =
    ap (λ (o : Option Table). table_fits o (map (λ p. p.1) out)) there
    ∙ values_in_order context table 0 values out t.columns e
    (λ j c h.
    let none : 0 + j ≡ j = omega arith in
    ap (column_at context.schema table) none ∙ ap (λ (o : Option Table). column_in o j) there ∙ h) l

-- ---- defaults

defaults_in_order : (cs : List Column) → list_all default_suits cs ≡ true → fits_columns cs (map (λ c. c.default) cs) ≡ true
defaults_in_order [] h = refl
defaults_in_order (c ∷ cs) h = let parts = and_parts (default_suits c) (list_all default_suits cs) h in and_from _ _ parts.0 (defaults_in_order cs parts.1)

-- the defaults of a table that is there fit it
pub defaults_fit : (schema : Schema) (table : ℕ) → list_all table_suits schema.tables ≡ true → is_there schema.tables table ≡ true → fits_table schema.tables table (defaults_of schema table) ≡ true
defaults_fit schema table suit h =
    let there = there_at schema.tables table h in
    let t = there.0 in
    let parts = and_parts (nat_le (length t.columns) MOST_COLUMNS) (list_all default_suits t.columns && not (has_repeated [] (map (λ (c : Column). c.name) t.columns)))
    (all_at table_suits schema.tables suit table t there.1) in
    let defaults = (and_parts (list_all default_suits t.columns) (not (has_repeated [] (map (λ (c : Column). c.name) t.columns))) parts.1).0 in
    ap (λ (o : Option Table). table_fits o (elim o as (λ x. List Value) [ Some x ↦ map (λ c. c.default) x.columns | None ↦ [] ])) there.1
    ∙ defaults_in_order t.columns defaults

-- ---- the value of a column

columns_at : (cs : List Column) (vs : List Value) (j : ℕ) → fits_columns cs vs ≡ true → is_some (slice_get cs j) ≡ true → column_fits (slice_get cs j) (value_at vs j) ≡ true
columns_at [] vs j h g = cc
columns_at (c ∷ cs) [] j h g = cc
columns_at (c ∷ cs) (v ∷ vs) zero h g = (and_parts (is_fit (fit_of v c.kind)) (fits_columns cs vs) h).0
columns_at (c ∷ cs) (v ∷ vs) (suc j) h g = columns_at cs vs j (and_parts (is_fit (fit_of v c.kind)) (fits_columns cs vs) h).1 g

-- a value of a row that fits fits its column
pub value_at_fits : (o : Option Table) (values : List Value) (place : ℕ) → table_fits o values ≡ true → is_some (column_in o place) ≡ true → pair_fits o (place, value_at values place) ≡ true
value_at_fits None values place h g = cc
value_at_fits (Some t) values place h g = columns_at t.columns values place h g

-- NULL fits each column that is there
pub null_fits : (o : Option Table) (place : ℕ) → is_some (column_in o place) ≡ true → pair_fits o (place, Null) ≡ true
null_fits o place h = by (column_in o place) h
  where
    by : (c : Option Column) → is_some c ≡ true → column_fits c Null ≡ true
    by None g = cc
    by (Some c) g = refl
