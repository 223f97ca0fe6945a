-- The first that comes of rows, of changes and of a list, found by one look after another.
use Rattle.std.proofs.Common.{◌≡◌, refl, ◌∙◌, ℕ, ◌+◌, Bool, true, false, if◌then◌else◌, Option, Some, None, option_map, List, [], ◌∷◌, ap, sym, subst, arith}
use Rattle.std.specs.Prelude.{filter_map, nat_lt}
use Rattle.std.specs.List.{enumerate_from}
use Rattle.iv_value.specs.declared.value.Value.{Value}
use Rattle.iv_expr.specs.declared.row.StoredRow.{StoredRow}
use Rattle.iv_expr.specs.Scopes.{Rises, row_above, numbered, contents, table_rows}
use Rattle.iv_expr.proofs.Scan.{above_all, rows_above, scan_next, scan_none, table_rises}
use Rattle.iv_account.specs.Disagreements.{first_of}
use Rattle.iv_account.proofs.Equals.{AllOn, searched_on}
use Rattle.iv_exec_context.specs.Sides.{of_some}

-- ---- one of a list

-- something comes of the first
pub comes : {A B : Type 0} (f : A → Option B) (x : A) (xs : List A) (b : B) → f x ≡ Some b → first_of f (x ∷ xs) ≡ Some b
comes f x xs b e = rw e refl

-- nothing does
pub passes : {A B : Type 0} (f : A → Option B) (x : A) (xs : List A) → f x ≡ None → first_of f (x ∷ xs) ≡ first_of f xs
passes f x xs e = rw e refl

-- the next of what is left of a list
module _ {A B : Type 0} (f : A → Option B) (left rest : List A) (x : A) (said : Option B) (next : left ≡ x ∷ rest) (all : first_of f left ≡ said) where
  pub list_comes : (b : B) → f x ≡ Some b → Some b ≡ said
  list_comes b e = sym (ap (first_of f) next ∙ comes f x rest b e) ∙ all

  pub list_passes : f x ≡ None → first_of f rest ≡ said
  list_passes e = sym (ap (first_of f) next ∙ passes f x rest e) ∙ all

pub list_ends : {A B : Type 0} (f : A → Option B) (left : List A) (said : Option B) → left ≡ [] → first_of f left ≡ said → None ≡ said
list_ends f left said is all = sym (ap (first_of f) is) ∙ all

-- ---- rows of a table

on_above : (t n : ℕ) (rows : List StoredRow) → AllOn t rows → AllOn t (rows_above n rows)
on_above t n [] on = tt
on_above t n (r ∷ rows) on = by (nat_lt n r.number) (on_above t n rows on.1)
  where
    by : (b : Bool) → AllOn t (rows_above n rows) → AllOn t (if b then r ∷ rows else rows_above n rows)
    by true rest = on
    by false rest = rest

-- what a scan found, as a row of the table
pub scanned : (t n : ℕ) (rows : List StoredRow) (p : ℕ × List Value) → AllOn t rows → Rises 0 rows → Some p ≡ option_map numbered (row_above n rows)
    → rows_above n rows ≡ record { table = t; number = p.0; values = p.1 } ∷ rows_above p.0 rows
scanned t n rows p on up h =
    let f = scan_next n rows p up h in
    let here : AllOn t (f.0 ∷ rows_above p.0 rows) = subst (AllOn t) f.1 (on_above t n rows on) in
    let same : f.0 ≡ record { table = t; number = p.0; values = p.1 } = λ i. record { table = here.0 i; number = f.2 i; values = f.3 i } in
    f.1 ∙ ap (λ (r : StoredRow). r ∷ rows_above p.0 rows) same

-- the values of the rows
pub values_scanned : (n : ℕ) (rows : List StoredRow) (p : ℕ × List Value) → Rises 0 rows → Some p ≡ option_map numbered (row_above n rows)
    → contents (rows_above n rows) ≡ p.1 ∷ contents (rows_above p.0 rows)
values_scanned n rows p up h =
    let f = scan_next n rows p up h in
    ap contents f.1 ∙ ap (λ (row : List Value). row ∷ contents (rows_above p.0 rows)) f.3

-- the rows of a table before any look
pub scan_begins : {B : Type 0} (f : StoredRow → Option B) (t : ℕ) (all : List StoredRow) → Rises 0 all
    → first_of f (rows_above 0 (table_rows all t)) ≡ first_of f (table_rows all t)
scan_begins f t all up = ap (first_of f) (above_all 0 0 (table_rows all t) (table_rises 0 t all up) (omega arith))

-- one look further
module _ {B : Type 0} (f : StoredRow → Option B) (t n : ℕ) (all : List StoredRow) (p : ℕ × List Value) (up : Rises 0 all)
    (found : Some p ≡ option_map numbered (row_above n (table_rows all t))) (said : Option B) (so_far : first_of f (rows_above n (table_rows all t)) ≡ said) where
  next : rows_above n (table_rows all t) ≡ record { table = t; number = p.0; values = p.1 } ∷ rows_above p.0 (table_rows all t)
  next = scanned t n (table_rows all t) p (searched_on None t all) (table_rises 0 t all up) found

  pub scan_comes : (b : B) → f (record { table = t; number = p.0; values = p.1 }) ≡ Some b → Some b ≡ said
  scan_comes b e =
      list_comes f (rows_above n (table_rows all t)) (rows_above p.0 (table_rows all t)) (record { table = t; number = p.0; values = p.1 }) said next so_far b e

  pub scan_passes : f (record { table = t; number = p.0; values = p.1 }) ≡ None → first_of f (rows_above p.0 (table_rows all t)) ≡ said
  scan_passes e =
      list_passes f (rows_above n (table_rows all t)) (rows_above p.0 (table_rows all t)) (record { table = t; number = p.0; values = p.1 }) said next so_far e

-- no row is left
pub scan_ends : {B : Type 0} (f : StoredRow → Option B) (n : ℕ) (rows : List StoredRow) (said : Option B) → None ≡ option_map numbered (row_above n rows)
    → first_of f (rows_above n rows) ≡ said → None ≡ said
scan_ends f n rows said h so_far = list_ends f (rows_above n rows) said (scan_none n rows h) so_far

-- ---- one side of changes

module _ {A B C : Type 0} (f : B → Option C) (g : A → Option B) (left rest : List A) (x : A) (said : Option C) (next : left ≡ x ∷ rest)
    (all : first_of f (filter_map g left) ≡ said) where
  side_comes : (o : Option B) (c : C) → g x ≡ o → of_some f o ≡ Some c → first_of f (filter_map g (x ∷ rest)) ≡ Some c
  side_comes None c is e = cc
  side_comes (Some b) c is e = rw is (comes f b (filter_map g rest) c e)

  side_passes : (o : Option B) → g x ≡ o → of_some f o ≡ None → first_of f (filter_map g (x ∷ rest)) ≡ first_of f (filter_map g rest)
  side_passes None is e = rw is refl
  side_passes (Some b) is e = rw is (passes f b (filter_map g rest) e)

  pub sides_come : (c : C) → of_some f (g x) ≡ Some c → Some c ≡ said
  sides_come c e = sym (ap (λ (l : List A). first_of f (filter_map g l)) next ∙ side_comes (g x) c refl e) ∙ all

  pub sides_pass : of_some f (g x) ≡ None → first_of f (filter_map g rest) ≡ said
  sides_pass e = sym (ap (λ (l : List A). first_of f (filter_map g l)) next ∙ side_passes (g x) refl e) ∙ all

pub sides_end : {A B C : Type 0} (f : B → Option C) (g : A → Option B) (left : List A) (said : Option C) → left ≡ []
    → first_of f (filter_map g left) ≡ said → None ≡ said
sides_end {A = A} f g left said is all = sym (ap (λ (l : List A). first_of f (filter_map g l)) is) ∙ all

-- ---- a list with its places

module _ {A B : Type 0} (f : ℕ × A → Option B) (n : ℕ) (left rest : List A) (x : A) (said : Option B) (next : left ≡ x ∷ rest)
    (all : first_of f (enumerate_from n left) ≡ said) where
  pub placed_comes : (b : B) → f (n, x) ≡ Some b → Some b ≡ said
  placed_comes b e = list_comes f (enumerate_from n left) (enumerate_from (n + 1) rest) (n, x) said (ap (enumerate_from n) next) all b e

  pub placed_passes : f (n, x) ≡ None → first_of f (enumerate_from (n + 1) rest) ≡ said
  placed_passes e = list_passes f (enumerate_from n left) (enumerate_from (n + 1) rest) (n, x) said (ap (enumerate_from n) next) all e
