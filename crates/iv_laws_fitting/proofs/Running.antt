-- A data statement that suits meets no value of the wrong kind while its changes are proposed.
use Rattle.std.proofs.Common.{◌≡◌, ℕ, zero, suc, ◌+◌, nat_le, Bool, true, false, ◌&&◌, if◌then◌else◌, ◌==◌, List, [], ◌∷◌, ◌∙◌, Option, Some, None, Result, Ok, Err, refl, sym, ap, map, filter_map, slice_get, option_map, subst, length, chars, arith}
use Rattle.std.proofs.lemmas.Bool.{and_parts}
use Rattle.std.proofs.lemmas.Option.{same_Some}
use Rattle.std.specs.List.{list_all}
use Rattle.iv_value.specs.declared.value.Value.{Value}
use Rattle.iv_value.specs.declared.value.Value.TheVariants.{Null, Int, Text}
use Rattle.iv_laws_fitting.specs.Types.{Kind, Expr, Range, Column, Table, Cause, InsertColumns, DataStatement, InsertRows, Outputs, Setting, Database}
use Rattle.iv_laws_fitting.specs.Types.kind
use Rattle.iv_laws_fitting.specs.Types.cause.{WrongShape, TextTooLong}
use Rattle.iv_laws_fitting.specs.Types.range
use Rattle.iv_laws_fitting.specs.Types.insert_columns as columns
use Rattle.iv_laws_fitting.specs.Types.data_statement.{Insert, Update, Delete}
use Rattle.iv_laws_fitting.specs.Types.insert_rows as rows
use Rattle.iv_laws_fitting.specs.Types.outputs
use Rattle.iv_value.specs.declared.value.Truth.{Truth}
use Rattle.iv_value.specs.Truths.{is_true}
use Rattle.iv_value.specs.declared.value.Fit.TheVariants.{Yes, WrongKind, TooLong}
use Rattle.iv_expr.specs.declared.row.StoredRow.{StoredRow}
use Rattle.iv_expr.specs.declared.tree.Cond.{Cond}
use Rattle.iv_expr.specs.declared.tree.ExprFault.{ExprFault}
use Rattle.iv_expr.specs.Evaluation.{value, truth, and_then}
use Rattle.iv_expr.specs.Scopes.{Frame, Scope, within, contents, table_rows, transition_rows, range_rows, scope_of}
use Rattle.iv_expr.specs.Suiting.{Sort, nulls, numbers, texts, of_sort, sort_of_kind, Shape, shape_within, range_kinds, sort_of, suits, row_suits, AllSuit, HasShape}
use Rattle.iv_expr.proofs.Suiting.{Sorted, Fine, value_sorted, truth_fine}
use Rattle.iv_catalogue.specs.Catalogues.{Schema}
use Rattle.std.proofs.lemmas.Bool.Decides.{nat_tests}
use Rattle.iv_machine.specs.Context.{Context, each}
use Rattle.iv_catalogue.specs.Refusals.{cause_of}
use Rattle.iv_machine.specs.Proposals.{holds, column_at, value_for_column, stored_value, stored_values, element_where_true, where_true, matching_rows, outputs_of, values_by_column, row_of_values, insertion, insertion_of, proposed_insertions, update_of, deletion, with_columns, proposed_changes}
use Rattle.iv_laws_fitting.specs.PlanShapes.{kinds_of, table_kinds, sort_suits, value_suits, values_suit, kind_suits, kinds_suit, target_kinds, outputs_suit, rows_suit, setting_suits, data_suits, is_there, is_range_there}
use Rattle.iv_laws_fitting.specs.Running.{is_of_values, ProposalsAreWellTyped}
use Rattle.iv_laws_fitting.proofs.MoreTables.{sort_suits_some}
use Rattle.iv_laws_fitting.proofs.NewConstraints.{zipped}
use Rattle.iv_laws_fitting.proofs.References.{made_by, kept_by}
use Rattle.iv_laws_fitting.proofs.Pointwise.{map_at, made_of, placed_at, all_at}

-- an answer, or a refusal for a value
abbrev pub Plain : {A : Type 0} → Result A Cause → Type 0
Plain (Ok a) = Unit {0}
Plain (Err cause) = is_of_values cause ≡ true

pub then_plain : {A B : Type 0} (r : Result A Cause) (f : A → Result B Cause) → Plain r → ((a : A) → r ≡ Ok a → Plain (f a)) → Plain (and_then r f)
then_plain (Ok a) f p q = q a refl
then_plain (Err c) f p q = p

each_plain : {A B : Type 0} (f : A → Result B Cause) (xs : List A) → ((j : ℕ) (x : A) → slice_get xs j ≡ Some x → Plain (f x)) → Plain (each f xs)
each_plain f [] h = tt
each_plain {A = A} {B = B} f (x ∷ xs) h =
    then_plain (f x) (λ y. and_then (each f xs) (λ ys. Ok (y ∷ ys))) (h zero x refl)
    (λ y e. then_plain (each f xs) (λ ys. Ok (y ∷ ys)) (each_plain f xs (λ j. h (suc j))) (λ ys g. tt))

-- ---- a value for a column

fits_or_long : (k : Kind) (s : Sort) (v : Value) (c : Column) → c.kind ≡ k → sort_suits k (Some s) ≡ true → of_sort s v ≡ true → Plain (value_for_column (Some c) v)
fits_or_long k s Null c e h g = tt
fits_or_long k nulls (Int a) c e h g = cc
fits_or_long k nulls (Text t) c e h g = cc
fits_or_long k numbers (Text t) c e h g = cc
fits_or_long k texts (Int a) c e h g = cc
fits_or_long kind.Integer numbers (Int a) c e h g = subst (λ (x : Kind). Plain (fitted_by x)) (sym e) tt
  where
    fitted_by : Kind → Result Value Cause
    fitted_by x = value_for_column (Some (record c { kind = x })) (Int a)
fits_or_long (kind.Varchar n) numbers (Int a) c e h g = cc
fits_or_long kind.Integer texts (Text t) c e h g = cc
fits_or_long (kind.Varchar n) texts (Text t) c e h g = subst (λ (x : Kind). Plain (fitted_by x)) (sym e) (by (nat_le (length (chars t)) n))
  where
    fitted_by : Kind → Result Value Cause
    fitted_by x = value_for_column (Some (record c { kind = x })) (Text t)

    by : (b : Bool) → Plain (elim (if b then Yes else TooLong) as (λ x. Result Value Cause) [ Yes ↦ Ok (Text t) | WrongKind ↦ Err WrongShape | TooLong ↦ Err TextTooLong ])
    by true = tt
    by false = refl

-- the column of a kind that is there
column_of_kinds : (schema : Schema) (table c : ℕ) (k : Kind) → slice_get (table_kinds schema.tables table) c ≡ Some k
    → (column : Column) × (column_at schema table c ≡ Some column) × (column.kind ≡ k)
column_of_kinds schema table c k h = by (slice_get schema.tables table) refl
  where
    kinds : Option Table → List Kind
    kinds o = elim o [ Some t ↦ kinds_of t | None ↦ [] ]

    columns : Option Table → Option Column
    columns o = elim o [ Some t ↦ slice_get t.columns c | None ↦ None ]

    by : (o : Option Table) → slice_get schema.tables table ≡ o → (column : Column) × (column_at schema table c ≡ Some column) × (column.kind ≡ k)
    by None e = let x = sym (ap (λ (o : Option Table). slice_get (kinds o) c) e) ∙ h in cc
    by (Some t) e =
        let made = made_of (λ (x : Column). x.kind) t.columns c k (sym (ap (λ (o : Option Table). slice_get (kinds o) c) e) ∙ h) in
        (made.0, ap columns e ∙ made.1, sym made.2)

-- what was evaluated to a sort that suits the column, or is out of range
pub stored_plain : (context : Context) (table c : ℕ) (k : Kind) (s : Sort) (evaluated : Result Value ExprFault)
    → slice_get (table_kinds context.schema.tables table) c ≡ Some k → sort_suits k (Some s) ≡ true → Sorted (Some s) evaluated
    → Plain (stored_value context table c evaluated)
stored_plain context table c k s (Ok v) h g o =
    let column = column_of_kinds context.schema table c k h in
    subst (λ (x : Option Column). Plain (value_for_column x v)) (sym column.1) (fits_or_long k s v column.0 column.2 g o)
stored_plain context table c k s (Err f) h g o = ap (λ (x : ExprFault). is_of_values (cause_of x)) o

pub expression_plain : (context : Context) (table c : ℕ) (o : Option Kind) (shape : Shape) (s : Scope) (e : Expr) → HasShape s shape
    → slice_get (table_kinds context.schema.tables table) c ≡ o → value_suits shape o e ≡ true → Plain (stored_value context table c (value s e))
expression_plain context table c None shape s e h there g = cc
expression_plain context table c (Some k) shape s e h there g = by (sort_of shape e) refl
  where
    by : (o : Option Sort) → sort_of shape e ≡ o → Plain (stored_value context table c (value s e))
    by None q = let x = sort_suits_some k None (ap (sort_suits k) (sym q) ∙ g) in cc
    by (Some sort) q =
        stored_plain context table c k sort (value s e) there (ap (sort_suits k) (sym q) ∙ g) (subst (λ (x : Option Sort). Sorted x (value s e)) q (value_sorted shape s e h))

-- values for columns, each suits its own
pub values_plain : (context : Context) (table : ℕ) (pairs : List (ℕ × Result Value ExprFault))
    → ((j : ℕ) (p : ℕ × Result Value ExprFault) → slice_get pairs j ≡ Some p → Plain (stored_value context table p.0 p.1)) → Plain (stored_values context table pairs)
values_plain context table pairs h =
    each_plain (λ p. and_then (stored_value context table p.0 p.1) (λ v. Ok (p.0, v))) pairs
    (λ j p g. then_plain (stored_value context table p.0 p.1) (λ v. Ok (p.0, v)) (h j p g) (λ v e. tt))

-- ---- conditions

-- whether a condition that suits takes effect
pub holds_plain : (shape : Shape) (s : Scope) (c : Cond) → HasShape s shape → suits shape c ≡ true → Plain (holds s c)
holds_plain shape s c h g = by (truth s c) (truth_fine shape s c h g)
  where
    by : (r : Result Truth ExprFault) → Fine r → Plain (elim r as (λ x. Result Bool Cause) [ Ok t ↦ Ok (is_true t) | Err fault ↦ Err (cause_of fault) ])
    by (Ok t) f = tt
    by (Err e) f = ap (λ (x : ExprFault). is_of_values (cause_of x)) f

pub within_shape : (s : Scope) (shape : Shape) (kinds : List Kind) (row : List Value) → HasShape s shape → row_suits kinds row ≡ true → HasShape (within s row) (shape_within shape kinds)
within_shape s shape kinds row h p = record { ranges = (p, h.ranges); old = h.old; new = h.new; transition = h.transition; tables = h.tables }

pub where_plain : {A : Type 0} (row_of : A → List Value) (s : Scope) (shape : Shape) (kinds : List Kind) (c : Cond) (xs : List A) → HasShape s shape
    → ((j : ℕ) (x : A) → slice_get xs j ≡ Some x → row_suits kinds (row_of x) ≡ true) → suits (shape_within shape kinds) c ≡ true
    → Plain (where_true row_of s c xs)
where_plain {A = A} row_of s shape kinds c xs h each_row g =
    then_plain (each (λ x. and_then (holds (within s (row_of x)) c) (λ b. Ok (x, b))) xs) (λ pairs. Ok (filter_map element_where_true pairs))
    (each_plain (λ x. and_then (holds (within s (row_of x)) c) (λ b. Ok (x, b))) xs
    (λ j x q.
    then_plain (holds (within s (row_of x)) c) (λ b. Ok (x, b))
    (holds_plain (shape_within shape kinds) (within s (row_of x)) c (within_shape s shape kinds (row_of x) h (each_row j x q)) g) (λ b e. tt)))
    (λ pairs e. tt)

-- ---- what each gives

-- an element of what each gives is made of one of the list
each_made : {A B : Type 0} (f : A → Result B Cause) (xs : List A) (ys : List B) → each f xs ≡ Ok ys → (j : ℕ) (y : B) → slice_get ys j ≡ Some y
    → (i : ℕ) × (x : A) × (slice_get xs i ≡ Some x) × (f x ≡ Ok y)
each_made f [] ys h j y g = let e : ys ≡ [] = cc in let n = sym (ap (λ l. slice_get l j) e) ∙ g in cc
each_made {A = A} {B = B} f (x ∷ xs) ys h j y g = by (f x) refl (each f xs) refl j g (λ bs e k q. each_made f xs bs e k y q)
  where
    both_of : Result B Cause → Result (List B) Cause → Result (List B) Cause
    both_of r s = and_then r (λ b. and_then s (λ bs. Ok (b ∷ bs)))

    by : (r : Result B Cause) → f x ≡ r → (s : Result (List B) Cause) → each f xs ≡ s → (k : ℕ) → slice_get ys k ≡ Some y
        → ((bs : List B) → each f xs ≡ Ok bs → (m : ℕ) → slice_get bs m ≡ Some y → (i : ℕ) × (z : A) × (slice_get xs i ≡ Some z) × (f z ≡ Ok y))
        → (i : ℕ) × (z : A) × (slice_get (x ∷ xs) i ≡ Some z) × (f z ≡ Ok y)
    by (Err c) e s q k t later = let n = sym (ap (λ r. both_of r (each f xs)) e) ∙ h in cc
    by (Ok b) e (Err c) q k t later = let n = sym (ap (λ r. both_of r (each f xs)) e ∙ ap (both_of (Ok b)) q) ∙ h in cc
    by (Ok b) e (Ok bs) q zero t later =
        let all : b ∷ bs ≡ ys = (let n = sym (ap (λ r. both_of r (each f xs)) e ∙ ap (both_of (Ok b)) q) ∙ h in cc) in
        let same : b ≡ y = same_Some b y (ap (λ (l : List B). slice_get l zero) all ∙ t) in
        (zero, x, refl, e ∙ ap (λ (z : B). Ok z) same)
    by (Ok b) e (Ok bs) q (suc k) t later =
        let all : b ∷ bs ≡ ys = (let n = sym (ap (λ r. both_of r (each f xs)) e ∙ ap (both_of (Ok b)) q) ∙ h in cc) in
        let r = later bs q k (ap (λ (l : List B). slice_get l (suc k)) all ∙ t) in
        (suc r.0, r.1, r.2, r.3)

chosen : {A : Type 0} (p : A × Bool) (y : A) → element_where_true p ≡ Some y → p.0 ≡ y
chosen p y h = by p.1 refl
  where
    by : (b : Bool) → p.1 ≡ b → p.0 ≡ y
    by true e = same_Some p.0 y (sym (ap (λ b. if b then Some p.0 else None) e) ∙ h)
    by false e = let n = sym (ap (λ b. if b then Some p.0 else None) e) ∙ h in cc

paired : {A : Type 0} (x : A) (r : Result Bool Cause) (p : A × Bool) → and_then r (λ b. Ok (x, b)) ≡ Ok p → x ≡ p.0
paired x (Ok b) p h = cc
paired x (Err c) p h = cc

-- what a condition is true of is of the list
pub where_kept : {A : Type 0} (row_of : A → List Value) (s : Scope) (c : Cond) (xs ys : List A) → where_true row_of s c xs ≡ Ok ys → (j : ℕ) (y : A) → slice_get ys j ≡ Some y
    → (i : ℕ) × (slice_get xs i ≡ Some y)
where_kept {A = A} row_of s c xs ys h j y g = by (each tell xs) refl
  where
    tell : A → Result (A × Bool) Cause
    tell x = and_then (holds (within s (row_of x)) c) (λ b. Ok (x, b))

    by : (r : Result (List (A × Bool)) Cause) → each tell xs ≡ r → (i : ℕ) × (slice_get xs i ≡ Some y)
    by (Err k) e = let n = sym (ap (λ r. and_then r (λ pairs. Ok (filter_map element_where_true pairs))) e) ∙ h in cc
    by (Ok pairs) e =
        let is : filter_map element_where_true pairs ≡ ys = (let n = sym (ap (λ r. and_then r (λ ps. Ok (filter_map element_where_true ps))) e) ∙ h in cc) in
        let from = made_by element_where_true pairs j y (ap (λ (l : List A). slice_get l j) is ∙ g) in
        let made = each_made tell xs pairs e from.0 from.1 from.2 in
        let same = paired made.1 (holds (within s (row_of made.1)) c) from.1 made.3 ∙ chosen from.1 y from.3 in
        (made.0, made.2 ∙ ap (λ (z : A). Some z) same)

abbrev well : Value → Result Value ExprFault
well v = Ok v

-- ---- INSERT

-- a result that suits the column at its place
pub record SuitsAt (kinds : List (Option Kind)) (j : ℕ) (r : Result Value ExprFault) : Type 0 where
  pub kind : Kind
  pub sort : Sort
  pub there : slice_get kinds j ≡ Some (Some kind)
  pub suits : sort_suits kind (Some sort) ≡ true
  pub sorted : Sorted (Some sort) r

insertion_plain : (context : Context) (table : ℕ) (listed : InsertColumns) (values : List (Result Value ExprFault))
    → ((j : ℕ) (r : Result Value ExprFault) → slice_get values j ≡ Some r → SuitsAt (target_kinds (table_kinds context.schema.tables table) listed) j r)
    → Plain (insertion_of context table listed values)
insertion_plain context table listed values h =
    then_plain (stored_values context table (values_by_column listed values)) (λ pairs. Ok (insertion table (row_of_values context.schema table listed pairs)))
    (values_plain context table (values_by_column listed values) (by listed h)) (λ pairs e. tt)
  where
    kinds : List Kind
    kinds = table_kinds context.schema.tables table

    by : (l : InsertColumns) → ((j : ℕ) (r : Result Value ExprFault) → slice_get values j ≡ Some r → SuitsAt (target_kinds (table_kinds context.schema.tables table) l) j r)
        → (j : ℕ) (p : ℕ × Result Value ExprFault) → slice_get (values_by_column l values) j ≡ Some p → Plain (stored_value context table p.0 p.1)
    by columns.All q j p g =
        let placed = placed_at 0 values j p g in
        let at = q j p.1 placed.0 in
        let made = made_of (λ (k : Kind). Some k) (table_kinds context.schema.tables table) j (Some at.kind) at.there in
        let same : made.0 ≡ at.kind = cc in
        let first : j ≡ 0 + j = omega arith in
        let place : j ≡ p.0 = first ∙ sym placed.1 in
        stored_plain context table p.0 at.kind at.sort p.1 (ap (slice_get (table_kinds context.schema.tables table)) (sym place) ∙ made.1 ∙ ap (λ (k : Kind). Some k) same) at.suits at.sorted
    by (columns.Listed places) q j p g =
        let apart = zipped places values j p g in
        let at = q j p.1 apart.1 in
        let made = made_of (slice_get (table_kinds context.schema.tables table)) places j (Some at.kind) at.there in
        let same : made.0 ≡ p.0 = same_Some made.0 p.0 (sym made.1 ∙ apart.0) in
        stored_plain context table p.0 at.kind at.sort p.1 (ap (slice_get (table_kinds context.schema.tables table)) (sym same) ∙ sym made.2) at.suits at.sorted

-- an expression that suits its column, evaluated
evaluated_suits : (shape : Shape) (s : Scope) → HasShape s shape → (os : List (Option Kind)) (es : List Expr) → values_suit shape os es ≡ true
    → (j : ℕ) (r : Result Value ExprFault) → slice_get (map (value s) es) j ≡ Some r → SuitsAt os j r
evaluated_suits shape s h [] [] v j r g = cc
evaluated_suits shape s h [] (e ∷ es) v j r g = cc
evaluated_suits shape s h (o ∷ os) [] v j r g = cc
evaluated_suits shape s h (o ∷ os) (e ∷ es) v (suc j) r g =
    let rest = evaluated_suits shape s h os es (and_parts (value_suits shape o e) (values_suit shape os es) v).1 j r g in
    record { kind = rest.kind; sort = rest.sort; there = rest.there; suits = rest.suits; sorted = rest.sorted }
evaluated_suits shape s h (o ∷ os) (e ∷ es) v zero r g =
    by o (sort_of shape e) refl (value_sorted shape s e h) (and_parts (value_suits shape o e) (values_suit shape os es) v).0
  where
    by : (x : Option Kind) (q : Option Sort) → sort_of shape e ≡ q → Sorted (sort_of shape e) (value s e) → value_suits shape x e ≡ true → SuitsAt (x ∷ os) zero r
    by None q t d w = cc
    by (Some k) None t d w = let x = sort_suits_some k None (ap (sort_suits k) (sym t) ∙ w) in cc
    by (Some k) (Some sort) t d w = record {
      kind = k;
      sort = sort;
      there = refl;
      suits = ap (sort_suits k) (sym t) ∙ w;
      sorted = subst (Sorted (Some sort)) (same_Some (value s e) r g) (subst (λ (x : Option Sort). Sorted x (value s e)) t d);
    }

one_kind : (k q : Kind) → kind_suits (Some k) q ≡ true → sort_suits k (Some (sort_of_kind q)) ≡ true
one_kind kind.Integer kind.Integer h = refl
one_kind (kind.Varchar m) (kind.Varchar n) h = refl
one_kind kind.Integer (kind.Varchar n) h = cc
one_kind (kind.Varchar m) kind.Integer h = cc

-- a value of a row for a column of its kind
row_suits_at : (os : List (Option Kind)) (own : List Kind) (row : List Value) → kinds_suit os own ≡ true → row_suits own row ≡ true
    → (j : ℕ) (r : Result Value ExprFault) → slice_get (map (λ (v : Value). well v) row) j ≡ Some r → SuitsAt os j r
row_suits_at [] [] [] h g j r t = cc
row_suits_at [] [] (v ∷ vs) h g j r t = cc
row_suits_at [] (k ∷ ks) row h g j r t = cc
row_suits_at (o ∷ os) [] row h g j r t = cc
row_suits_at (o ∷ os) (k ∷ ks) [] h g j r t = cc
row_suits_at (o ∷ os) (k ∷ ks) (v ∷ vs) h g (suc j) r t =
    let rest = row_suits_at os ks vs (and_parts (kind_suits o k) (kinds_suit os ks) h).1 (and_parts (of_sort (sort_of_kind k) v) (row_suits ks vs) g).1 j r t in
    record { kind = rest.kind; sort = rest.sort; there = rest.there; suits = rest.suits; sorted = rest.sorted }
row_suits_at (o ∷ os) (k ∷ ks) (v ∷ vs) h g zero r t = by o (and_parts (kind_suits o k) (kinds_suit os ks) h).0
  where
    by : (x : Option Kind) → kind_suits x k ≡ true → SuitsAt (x ∷ os) zero r
    by None w = cc
    by (Some q) w = record {
      kind = q;
      sort = sort_of_kind k;
      there = refl;
      suits = one_kind q k w;
      sorted = subst (Sorted (Some (sort_of_kind k))) (same_Some (well v) r t) (and_parts (of_sort (sort_of_kind k) v) (row_suits ks vs) g).0;
    }

-- ---- rows of ranges

all_suit_at : (kinds : List Kind) (rows : List (List Value)) → AllSuit kinds rows → (j : ℕ) (row : List Value) → slice_get rows j ≡ Some row → row_suits kinds row ≡ true
all_suit_at kinds [] h j row g = cc
all_suit_at kinds (r ∷ rs) h zero row g = ap (row_suits kinds) (sym (same_Some r row g)) ∙ h.0
all_suit_at kinds (r ∷ rs) h (suc j) row g = all_suit_at kinds rs h.1 j row g

pub range_suits_at : (s : Scope) (shape : Shape) → HasShape s shape → (r : Range) (j : ℕ) (row : List Value) → slice_get (range_rows s r) j ≡ Some row → row_suits (range_kinds shape r) row ≡ true
range_suits_at s shape h (range.Table t) j row g = all_suit_at (shape.tables t) (contents (table_rows s.rows t)) (h.tables t) j row g
range_suits_at s shape h (range.Transition side) j row g = all_suit_at shape.transition (transition_rows side s.frame.transition) (h.transition side) j row g

-- ---- the statement

outputs_plain : (context : Context) (table : ℕ) (listed : InsertColumns) (shape : Shape) (s : Scope) → HasShape s shape → (own : List Kind) (l : Outputs)
    → outputs_suit (shape_within shape own) own (target_kinds (table_kinds context.schema.tables table) listed) l ≡ true
    → (row : List Value) → row_suits own row ≡ true → Plain (insertion_of context table listed (outputs_of s l row))
outputs_plain context table listed shape s h own outputs.Star w row g =
    insertion_plain context table listed (map (λ (v : Value). well v) row) (λ j r t. row_suits_at (target_kinds (table_kinds context.schema.tables table) listed) own row w g j r t)
outputs_plain context table listed shape s h own (outputs.Values es) w row g =
    insertion_plain context table listed (map (value (within s row)) es)
    (λ j r t. evaluated_suits (shape_within shape own) (within s row) (within_shape s shape own row h g) (target_kinds (table_kinds context.schema.tables table) listed) es w j r t)

insertions_plain : (context : Context) (table : ℕ) (listed : InsertColumns) (shape : Shape) (s : Scope) → HasShape s shape → (given : InsertRows)
    → rows_suit context.schema.tables shape (target_kinds (table_kinds context.schema.tables table) listed) given ≡ true
    → Plain (proposed_insertions context s table listed given)
insertions_plain context table listed shape s h (rows.Values tuples) w =
    each_plain (λ tuple. insertion_of context table listed (map (value s) tuple)) tuples
    (λ j tuple g.
    insertion_plain context table listed (map (value s) tuple)
    (λ k r t. evaluated_suits shape s h (target_kinds (table_kinds context.schema.tables table) listed) tuple
    (all_at (values_suit shape (target_kinds (table_kinds context.schema.tables table) listed)) tuples w j tuple g) k r t))
insertions_plain context table listed shape s h (rows.Query l source filter) w =
    let own = range_kinds shape source in
    let p = and_parts (is_range_there context.schema.tables source)
    (outputs_suit (shape_within shape own) own (target_kinds (table_kinds context.schema.tables table) listed) l && suits (shape_within shape own) filter) w in
    let q = and_parts (outputs_suit (shape_within shape own) own (target_kinds (table_kinds context.schema.tables table) listed) l) (suits (shape_within shape own) filter) p.1 in
    then_plain (where_true (λ row. row) s filter (range_rows s source)) (each (λ row. insertion_of context table listed (outputs_of s l row)))
    (where_plain (λ row. row) s shape own filter (range_rows s source) h (λ j row g. range_suits_at s shape h source j row g) q.1)
    (λ found e.
    each_plain (λ row. insertion_of context table listed (outputs_of s l row)) found
    (λ j row g.
    let kept = where_kept (λ x. x) s filter (range_rows s source) found e j row g in
    outputs_plain context table listed shape s h own l q.0 row (range_suits_at s shape h source kept.0 row kept.1)))

-- the rows of a table, each with its table
of_table : (rs : List StoredRow) (t : ℕ) (j : ℕ) (r : StoredRow) → slice_get (table_rows rs t) j ≡ Some r → r.table ≡ t
of_table rs t j r h = let kept = kept_by (λ (x : StoredRow). x.table == t) rs j r h in let e = kept.2 in grind (arith, nat_tests)

table_suits_at : (s : Scope) (shape : Shape) → HasShape s shape → (t j : ℕ) (r : StoredRow) → slice_get (table_rows s.rows t) j ≡ Some r → row_suits (shape.tables t) r.values ≡ true
table_suits_at s shape h t j r g =
    all_suit_at (shape.tables t) (contents (table_rows s.rows t)) (h.tables t) j r.values
    (map_at (λ (x : StoredRow). x.values) (table_rows s.rows t) j ∙ ap (option_map (λ (x : StoredRow). x.values)) g)

update_plain : (context : Context) (shape : Shape) (s : Scope) → HasShape s shape → (t : ℕ) → (kinds : List Kind) → kinds ≡ table_kinds context.schema.tables t
    → (settings : List Setting) → list_all (setting_suits (shape_within shape kinds) kinds) settings ≡ true
    → (r : StoredRow) → r.table ≡ t → row_suits kinds r.values ≡ true → Plain (update_of context s settings r)
update_plain context shape s h t kinds k settings w r e g =
    let setting_of : Setting → ℕ × Result Value ExprFault = λ x. (x.column, value (within s r.values) x.value) in
    then_plain (stored_values context r.table (map setting_of settings)) (λ pairs. Ok (record { table = r.table; row = r.number; old = Some r.values; new = Some (with_columns r.values pairs) }))
    (values_plain context r.table (map setting_of settings)
    (λ j p q.
    let made = made_of setting_of settings j p q in
    let suited = all_at (setting_suits (shape_within shape kinds) kinds) settings w j made.0 made.1 in
    subst (λ (x : ℕ × Result Value ExprFault). Plain (stored_value context r.table x.0 x.1)) (sym made.2)
    (expression_plain context r.table made.0.column (slice_get kinds made.0.column) (shape_within shape kinds) (within s r.values) made.0.value
    (within_shape s shape kinds r.values h g) (ap (λ n. slice_get (table_kinds context.schema.tables n) made.0.column) e ∙ ap (λ (l : List Kind). slice_get l made.0.column) (sym k)) suited)))
    (λ pairs q. tt)

matching_plain : (s : Scope) (shape : Shape) → HasShape s shape → (t : ℕ) (filter : Cond) → suits (shape_within shape (shape.tables t)) filter ≡ true
    → Plain (matching_rows s filter (table_rows s.rows t))
matching_plain s shape h t filter w =
    where_plain (λ (r : StoredRow). r.values) s shape (shape.tables t) filter (table_rows s.rows t) h (λ j r g. table_suits_at s shape h t j r g) w

proposals_plain : (context : Context) (db : Database) (frame : Frame) (shape : Shape) (d : DataStatement) → HasShape (scope_of frame db.rows) shape
    → ((t : ℕ) → shape.tables t ≡ table_kinds context.schema.tables t) → data_suits context.schema.tables shape d ≡ true → Plain (proposed_changes context db frame d)
proposals_plain context db frame shape (Insert t listed given) h k w =
    let p = and_parts (is_there context.schema.tables t) (rows_suit context.schema.tables shape (target_kinds (table_kinds context.schema.tables t) listed) given) w in
    insertions_plain context t listed shape (scope_of frame db.rows) h given p.1
proposals_plain context db frame shape (Update t settings filter) h k w =
    let s = scope_of frame db.rows in
    let kinds = table_kinds context.schema.tables t in
    let p = and_parts (is_there context.schema.tables t) (list_all (setting_suits (shape_within shape kinds) kinds) settings && suits (shape_within shape kinds) filter) w in
    let q = and_parts (list_all (setting_suits (shape_within shape kinds) kinds) settings) (suits (shape_within shape kinds) filter) p.1 in
    let suited = ap (λ (l : List Kind). suits (shape_within shape l) filter) (k t) ∙ q.1 in
    then_plain (matching_rows s filter (table_rows db.rows t)) (each (update_of context s settings)) (matching_plain s shape h t filter suited)
    (λ found e.
    each_plain (update_of context s settings) found
    (λ j r g.
    let kept = where_kept (λ (x : StoredRow). x.values) s filter (table_rows db.rows t) found e j r g in
    update_plain context shape s h t kinds refl settings q.0 r (of_table db.rows t kept.0 r kept.1)
    (ap (λ (l : List Kind). row_suits l r.values) (sym (k t)) ∙ table_suits_at s shape h t kept.0 r kept.1)))
proposals_plain context db frame shape (Delete t filter) h k w =
    let s = scope_of frame db.rows in
    let kinds = table_kinds context.schema.tables t in
    let p = and_parts (is_there context.schema.tables t) (suits (shape_within shape kinds) filter) w in
    let suited = ap (λ (l : List Kind). suits (shape_within shape l) filter) (k t) ∙ p.1 in
    then_plain (matching_rows s filter (table_rows db.rows t)) (λ found. Ok (map deletion found)) (matching_plain s shape h t filter suited) (λ found e. tt)

pub proposals_are_well_typed : ProposalsAreWellTyped
proposals_are_well_typed context db frame shape d cause h k w e = subst (λ r. Plain r) e (proposals_plain context db frame shape d h k w)
