-- What is asked for to find the rows with a key, and that each such row has it.
use Rattle.std.proofs.Common.{◌≡◌, refl, ℕ, zero, suc, ◌<◌, Bool, true, false, ◌&&◌, ◌||◌, List, [], ◌∷◌, length, get_or, Result, Ok, slice_set, not, ap, sym, subst, ◌∙◌, arith}
use Rattle.std.specs.Bool.{◌==◌}
use Rattle.std.specs.declared.alloc.AllocError.{AllocError}
use Rattle.std.proofs.lemmas.Bool.Decides.{Decides-int_eq}
use Rattle.std.proofs.lemmas.Slice.Eq.{bytes_eq-Decides}
use Rattle.iv_value.specs.declared.value.Value.{Value}
use Rattle.iv_value.specs.declared.value.Value.TheVariants.{Null, Int, Text}
use Rattle.iv_value.specs.References.{Copied}
use Rattle.iv_value.specs.Values.{is_null, is_same, all_same}
use Rattle.iv_key.specs.Keys.{key_of, none_null, value_at}
use Rattle.iv_expr.specs.declared.row.StoredRow.{StoredRow}
use Rattle.iv_expr.specs.Searches.{has_all}
use Rattle.iv_expr.proofs.Outside.{both_of}
use Rattle.iv_machine.specs.Types.{NullTreatment}
use Rattle.iv_machine.specs.Types.nulls.{Distinct, NotDistinct}
use Rattle.iv_machine.specs.Databases.{holds_key_with, shares_key}

-- ---- one column more

same_itself : (v : Value) → is_same v v ≡ true
same_itself Null = refl
same_itself (Int a) = (Decides-int_eq a a).1 refl
same_itself (Text a) = (bytes_eq-Decides a a).1 refl

-- a row that has what was asked for has its own value asked for too
own_value : (asked row : List Value) (c : ℕ) → has_all asked row ≡ true → has_all (slice_set asked c (value_at row c)) row ≡ true
own_value [] row c h = h
own_value (a ∷ asked) [] zero h = (both_of (is_null a) (has_all asked []) h).1
own_value (a ∷ asked) [] (suc c) h =
    let p = both_of (is_null a) (has_all asked []) h in
    ap (λ b. b && has_all (slice_set asked c Null) []) p.0 ∙ own_value asked [] c p.1
own_value (a ∷ asked) (w ∷ row) zero h =
    ap (λ b. (is_null w || b) && has_all asked row) (same_itself w)
    ∙ or_true (is_null w) (has_all asked row) (both_of (is_null a || is_same a w) (has_all asked row) h).1
  where
    or_true : (a b : Bool) → b ≡ true → ((a || true) && b) ≡ true
    or_true true b e = e
    or_true false b e = e
own_value (a ∷ asked) (w ∷ row) (suc c) h =
    let p = both_of (is_null a || is_same a w) (has_all asked row) h in
    ap (λ b. b && has_all (slice_set asked c (value_at row c)) row) p.0 ∙ own_value asked row c p.1

pub asks_value : (asked row : List Value) (c : ℕ) (v : Value) → value_at row c ≡ v → has_all asked row ≡ true → has_all (slice_set asked c v) row ≡ true
asks_value asked row c v e h = subst (λ (x : Value). has_all (slice_set asked c x) row ≡ true) e (own_value asked row c h)

pub copied_is : (v w : Value) → Copied v (Ok w) → w ≡ v
copied_is Null w h = ok_is w Null h
  where
    ok_is : (a b : Value) → ◌≡◌ {A = Result Value AllocError} (Ok a) (Ok b) → a ≡ b
    ok_is a b e = cc
copied_is (Int a) w h = ok_is w (Int a) h
  where
    ok_is : (a b : Value) → ◌≡◌ {A = Result Value AllocError} (Ok a) (Ok b) → a ≡ b
    ok_is a b e = cc
copied_is (Text t) w h = h

-- rows with one key have one value in each of its columns
pub column_same : (columns : List ℕ) (i : ℕ) (other row : List Value) → i < length columns → key_of columns other ≡ key_of columns row
    → value_at other (get_or columns i 0) ≡ value_at row (get_or columns i 0)
column_same [] i other row l e = absurd (omega (arith, l))
column_same (c ∷ columns) zero other row l e = first (value_at other c) (value_at row c) (key_of columns other) (key_of columns row) e
  where
    first : (v w : Value) (vs ws : List Value) → ◌≡◌ {A = List Value} (v ∷ vs) (w ∷ ws) → v ≡ w
    first v w vs ws x = cc
column_same (c ∷ columns) (suc i) other row l e =
    column_same columns i other row (omega (arith, l)) (rest (value_at other c) (value_at row c) (key_of columns other) (key_of columns row) e)
  where
    rest : (v w : Value) (vs ws : List Value) → ◌≡◌ {A = List Value} (v ∷ vs) (w ∷ ws) → vs ≡ ws
    rest v w vs ws x = cc

-- ---- rows with one key

same_is : (v u : Value) → is_same v u ≡ true → v ≡ u
same_is Null Null e = refl
same_is Null (Int b) e = cc
same_is Null (Text b) e = cc
same_is (Int a) Null e = cc
same_is (Int a) (Int b) e = ap Int ((Decides-int_eq a b).0 e)
same_is (Int a) (Text b) e = cc
same_is (Text a) Null e = cc
same_is (Text a) (Int b) e = cc
same_is (Text a) (Text b) e = ap Text ((bytes_eq-Decides a b).0 e)

all_same_is : (xs ys : List Value) → all_same xs ys ≡ true → xs ≡ ys
all_same_is [] [] e = refl
all_same_is [] (y ∷ ys) e = cc
all_same_is (x ∷ xs) [] e = cc
all_same_is (x ∷ xs) (y ∷ ys) e =
    let p = both_of (is_same x y) (all_same xs ys) e in
    ap (λ (v : Value). v ∷ xs) (same_is x y p.0) ∙ ap (λ (l : List Value). y ∷ l) (all_same_is xs ys p.1)

holds_same : (nulls : NullTreatment) (columns : List ℕ) (key other : List Value) → holds_key_with nulls columns key other ≡ true → key_of columns other ≡ key
holds_same Distinct columns key other e = all_same_is (key_of columns other) key (both_of (none_null (key_of columns other)) (all_same (key_of columns other) key) e).1
holds_same NotDistinct columns key other e = all_same_is (key_of columns other) key e

pub shares_same : (nulls : NullTreatment) (columns : List ℕ) (row other : StoredRow) → shares_key nulls columns row other ≡ true
    → key_of columns other.values ≡ key_of columns row.values
shares_same nulls columns row other e =
    holds_same nulls columns (key_of columns row.values) other.values
    (both_of (not (other.number == row.number)) (holds_key_with nulls columns (key_of columns row.values) other.values) e).1

-- a row whose key has a null shares it with none, if nulls are distinct
pub distinct_shares : (columns : List ℕ) (row : StoredRow) → not (none_null (key_of columns row.values)) ≡ true → (other : StoredRow) → shares_key Distinct columns row other ≡ false
distinct_shares columns row h other = by (shares_key Distinct columns row other) refl
  where
    not_both : (b : Bool) → b ≡ true → not b ≡ true → ⊥
    not_both true x y = cc
    not_both false x y = cc

    by : (b : Bool) → shares_key Distinct columns row other ≡ b → b ≡ false
    by false e = refl
    by true e =
        let held = (both_of (not (other.number == row.number)) (holds_key_with Distinct columns (key_of columns row.values) other.values) e).1 in
        let own = (both_of (none_null (key_of columns other.values)) (all_same (key_of columns other.values) (key_of columns row.values)) held).0 in
        absurd (not_both (none_null (key_of columns row.values)) (ap none_null (sym (shares_same Distinct columns row other e)) ∙ own) h)
