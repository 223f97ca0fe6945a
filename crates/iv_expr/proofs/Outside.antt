-- What reads nothing of the innermost ranges has one value at all their rows; and no rows of the right kinds refuse a condition whose
-- operands have comparable sorts.
use Rattle.std.proofs.Common.{◌≡◌, refl, ℕ, zero, suc, ◌+ℤ◌, ◌-ℤ◌, ◌*ℤ◌, Bool, true, false, ◌&&◌, ◌||◌, if◌then◌else◌, is_none, is_some, List, [], ◌∷◌, drop, map, Option, Some, None, option_map, Result, Ok, Err, slice_get, subst, ap, sym, ◌∙◌}
use Rattle.iv_value.specs.Truths.{is_true}
use Rattle.iv_expr.specs.Types.{Value, Truth, Kind, Expr, Comparison, Cond, ExprFault, StoredRow}
use Rattle.iv_expr.specs.Types.value.{Null, Int, Text}
use Rattle.iv_expr.specs.Types.truth.{Unknown}
use Rattle.iv_expr.specs.Types.side.{Old, New}
use Rattle.iv_expr.specs.Types.expr.{Literal, Column, Variable}
use Rattle.iv_expr.specs.Trees.{plus, minus, times}
use Rattle.iv_expr.specs.Scopes.{Frame, Scope, contents, table_rows, within}
use Rattle.iv_expr.specs.Evaluation.{value, truth, both, and_then, any_true, arithmetic, comparison_of, column_of}
use Rattle.iv_expr.specs.Suiting.{Sort, RangesSuit, VariableSuits, nulls, numbers, texts, of_sort, sort_of_kind, sort_of_value, comparable, row_suits}
use Rattle.iv_expr.specs.Searches.{AllFit}
use Rattle.iv_expr.specs.declared.sorts.Sort.{Sort as Told}
use Rattle.iv_expr.specs.Asking.{HasTruth, IsNeverRefused, SameOutside, at_other, meant, own_column, is_fixed, is_outside, sort_of_result, sort_of_column, sort_in}
use Rattle.iv_expr.proofs.Anys.{any_from, any_is}
use Rattle.iv_expr.proofs.Suiting.{range_suits}

pub both_of : (a b : Bool) → (a && b) ≡ true → (a ≡ true) × (b ≡ true)
both_of true b h = (refl, h)
both_of false b h = cc

-- ---- other rows

none_is : {A : Type 0} (o : Option A) → is_none o ≡ true → o ≡ None
none_is None h = refl
none_is (Some a) h = cc

pub fixed_value : (kindss : List (List Kind)) (s o : Scope) (e : Expr) → SameOutside kindss s o → is_fixed kindss e ≡ true → value o e ≡ value s e
fixed_value kindss s o (Literal v) h g = refl
fixed_value kindss s o (Column range c) h g = sym (ap (λ (row : Option (List Value)). column_of row c) (h.ranges range (none_is (slice_get kindss range) g)))
fixed_value kindss s o (Variable Old c) h g = sym (ap (λ (f : Frame). column_of f.old c) h.frame)
fixed_value kindss s o (Variable New c) h g = sym (ap (λ (f : Frame). column_of f.new c) h.frame)
fixed_value kindss s o (plus a b) h g =
    let p = both_of (is_fixed kindss a) (is_fixed kindss b) g in
    ap (λ (r : Result Value ExprFault). both (arithmetic ◌+ℤ◌) r (value o b)) (fixed_value kindss s o a h p.0)
    ∙ ap (both (arithmetic ◌+ℤ◌) (value s a)) (fixed_value kindss s o b h p.1)
fixed_value kindss s o (minus a b) h g =
    let p = both_of (is_fixed kindss a) (is_fixed kindss b) g in
    ap (λ (r : Result Value ExprFault). both (arithmetic ◌-ℤ◌) r (value o b)) (fixed_value kindss s o a h p.0)
    ∙ ap (both (arithmetic ◌-ℤ◌) (value s a)) (fixed_value kindss s o b h p.1)
fixed_value kindss s o (times a b) h g =
    let p = both_of (is_fixed kindss a) (is_fixed kindss b) g in
    ap (λ (r : Result Value ExprFault). both (arithmetic ◌*ℤ◌) r (value o b)) (fixed_value kindss s o a h p.0)
    ∙ ap (both (arithmetic ◌*ℤ◌) (value s a)) (fixed_value kindss s o b h p.1)

-- ---- another row in the innermost range

other_ranges : (kinds : List Kind) (ranges : List (List Value)) (row : List Value) (r : ℕ) → slice_get {X = List Kind} (kinds ∷ []) r ≡ None → slice_get ranges r ≡ slice_get (row ∷ drop 1 ranges) r
other_ranges kinds ranges row zero h = cc
other_ranges kinds [] row (suc r) h = refl
other_ranges kinds (x ∷ ranges) row (suc r) h = refl

pub same_at_other : (kinds : List Kind) (s : Scope) (row : List Value) → SameOutside (kinds ∷ []) s (at_other s row)
same_at_other kinds s row = record { frame = refl; rows = refl; ranges = other_ranges kinds s.ranges row }

pub value_other : (s : Scope) (row : List Value) (e : Expr) → is_outside e ≡ true → value (at_other s row) e ≡ value s e
value_other s row e h = fixed_value ([] ∷ []) s (at_other s row) e (same_at_other [] s row) h

some_number : (a b : ℕ) → ◌≡◌ {A = Option ℕ} (Some a) (Some b) → a ≡ b
some_number a b e = cc

-- a column of the innermost range is that of its row
pub own_value : (s : Scope) (row : List Value) (e : Expr) (c : ℕ) → own_column e ≡ Some c → value (at_other s row) e ≡ column_of (Some row) c
own_value s row (Column zero d) c h = ap (λ n. column_of (Some row) n) (some_number d c h)
own_value s row (Column (suc r) d) c h = cc
own_value s row (Literal v) c h = cc
own_value s row (Variable side d) c h = cc
own_value s row (plus a b) c h = cc
own_value s row (minus a b) c h = cc
own_value s row (times a b) c h = cc

-- one more range inside, at any row
deeper_ranges : (kinds : List Kind) (kindss : List (List Kind)) (xs ys : List (List Value)) (row : List Value) → ((r : ℕ) → slice_get kindss r ≡ None → slice_get xs r ≡ slice_get ys r)
    → (r : ℕ) → slice_get (kinds ∷ kindss) r ≡ None → slice_get ([] ∷ xs) r ≡ slice_get (row ∷ ys) r
deeper_ranges kinds kindss xs ys row h zero g = cc
deeper_ranges kinds kindss xs ys row h (suc r) g = h r g

deeper : (kinds : List Kind) (kindss : List (List Kind)) (s o : Scope) (row : List Value) → SameOutside kindss s o → SameOutside (kinds ∷ kindss) (within s []) (within o row)
deeper kinds kindss s o row h = record { frame = h.frame; rows = h.rows; ranges = deeper_ranges kinds kindss s.ranges o.ranges row h.ranges }

-- ---- sorts

-- a value of this sort
abbrev pub HasValue : Sort → Result Value ExprFault → Type 0
HasValue sort r = (v : Value) × (r ≡ Ok v) × (of_sort sort v ≡ true)

some_sort : (a b : Sort) → ◌≡◌ {A = Option Sort} (Some a) (Some b) → a ≡ b
some_sort a b e = cc

column_has : (kinds : List Kind) (row : List Value) (c : ℕ) (sort : Sort) → row_suits kinds row ≡ true → option_map sort_of_kind (slice_get kinds c) ≡ Some sort
    → HasValue sort (column_of (Some row) c)
column_has [] row c sort h e = cc
column_has (k ∷ kinds) [] c sort h e = cc
column_has (k ∷ kinds) (v ∷ row) zero sort h e =
    (v, refl, ap (λ (x : Sort). of_sort x v) (sym (some_sort (sort_of_kind k) sort e)) ∙ (both_of (of_sort (sort_of_kind k) v) (row_suits kinds row) h).0)
column_has (k ∷ kinds) (v ∷ row) (suc c) sort h e = column_has kinds row c sort (both_of (of_sort (sort_of_kind k) v) (row_suits kinds row) h).1 e

own_sort : (v : Value) → of_sort (sort_of_value v) v ≡ true
own_sort Null = refl
own_sort (Int a) = refl
own_sort (Text t) = refl

result_has : (r : Result Value ExprFault) (sort : Sort) → sort_of_result r ≡ Some sort → HasValue sort r
result_has (Ok v) sort e = (v, refl, ap (λ (x : Sort). of_sort x v) (sym (some_sort (sort_of_value v) sort e)) ∙ own_sort v)
result_has (Err x) sort e = cc

range_has : (kinds : Option (List Kind)) (row : Option (List Value)) (c : ℕ) (sort : Sort) → VariableSuits kinds row
    → elim kinds [ Some k ↦ option_map sort_of_kind (slice_get k c) | None ↦ None ] ≡ Some sort → HasValue sort (column_of row c)
range_has None row c sort h e = cc
range_has (Some kinds) None c sort h e = absurd h
range_has (Some kinds) (Some row) c sort h e = column_has kinds row c sort h e

column_sort_has : (kindss : List (List Kind)) (o : Scope) (e : Expr) (sort : Sort) → RangesSuit kindss o.ranges → sort_of_column kindss e ≡ Some sort → HasValue sort (value o e)
column_sort_has kindss o (Column range c) sort h e = range_has (slice_get kindss range) (slice_get o.ranges range) c sort (range_suits kindss o.ranges range h) e
column_sort_has kindss o (Literal v) sort h e = cc
column_sort_has kindss o (Variable side c) sort h e = cc
column_sort_has kindss o (plus a b) sort h e = cc
column_sort_has kindss o (minus a b) sort h e = cc
column_sort_has kindss o (times a b) sort h e = cc

moved : (sort : Sort) (a b : Result Value ExprFault) → a ≡ b → HasValue sort b → HasValue sort a
moved sort a b e h = (h.0, e ∙ h.1, h.2)

pub sort_has : (kindss : List (List Kind)) (s o : Scope) (e : Expr) (sort : Sort) → SameOutside kindss s o → RangesSuit kindss o.ranges → sort_in s kindss e ≡ Some sort → HasValue sort (value o e)
sort_has kindss s o e sort same suits is = by (is_fixed kindss e) refl is
  where
    by : (b : Bool) → is_fixed kindss e ≡ b → (if b then sort_of_result (value s e) else sort_of_column kindss e) ≡ Some sort → HasValue sort (value o e)
    by true q g = moved sort _ _ (fixed_value kindss s o e same q) (result_has (value s e) sort g)
    by false q g = column_sort_has kindss o e sort suits g

-- ---- truths

compared : (op : Comparison) (j k : Sort) (a b : Value) → of_sort j a ≡ true → of_sort k b ≡ true → comparable (Some j) (Some k) ≡ true → HasTruth (comparison_of op a b)
compared op j k Null b p q h = (Unknown, refl)
compared op j k (Int a) Null p q h = (Unknown, refl)
compared op j k (Text a) Null p q h = (Unknown, refl)
compared op j k (Int a) (Int b) p q h = (_, refl)
compared op j k (Text a) (Text b) p q h = (_, refl)
compared op nulls k (Int a) (Text b) p q h = cc
compared op texts k (Int a) (Text b) p q h = cc
compared op numbers nulls (Int a) (Text b) p q h = cc
compared op numbers numbers (Int a) (Text b) p q h = cc
compared op numbers texts (Int a) (Text b) p q h = cc
compared op nulls k (Text a) (Int b) p q h = cc
compared op numbers k (Text a) (Int b) p q h = cc
compared op texts nulls (Text a) (Int b) p q h = cc
compared op texts texts (Text a) (Int b) p q h = cc
compared op texts numbers (Text a) (Int b) p q h = cc

compared_both : (op : Comparison) (j k : Option Sort) (a b : Result Value ExprFault) → ((x : Sort) → j ≡ Some x → HasValue x a) → ((x : Sort) → k ≡ Some x → HasValue x b)
    → comparable j k ≡ true → HasTruth (both (comparison_of op) a b)
compared_both op None k a b p q h = cc
compared_both op (Some nulls) None a b p q h = cc
compared_both op (Some numbers) None a b p q h = cc
compared_both op (Some texts) None a b p q h = cc
compared_both op (Some j) (Some k) a b p q h =
    let v = p j refl in
    let w = q k refl in
    let t = compared op j k v.0 w.0 v.2 w.2 h in
    (t.0, ap (λ (r : Result Value ExprFault). both (comparison_of op) r b) v.1 ∙ ap (both (comparison_of op) (Ok v.0)) w.1 ∙ t.1)

then_has : {A : Type 0} (r : Result A ExprFault) (f : A → Truth) (a : A) → r ≡ Ok a → HasTruth (and_then r (λ x. Ok (f x)))
then_has r f a e = (f a, ap (λ x. and_then x (λ y. Ok (f y))) e)

null_has : (j : Option Sort) (a : Result Value ExprFault) (f : Value → Truth) → ((x : Sort) → j ≡ Some x → HasValue x a) → is_some j ≡ true → HasTruth (and_then a (λ v. Ok (f v)))
null_has None a f p h = cc
null_has (Some j) a f p h = (let v = p j refl in then_has a f v.0 v.1)

two_have : (a b : Result Truth ExprFault) (f : Truth → Truth → Truth) → HasTruth a → HasTruth b → HasTruth (both (λ x y. Ok (f x y)) a b)
two_have a b f p q =
    (f p.0 q.0, ap (λ (r : Result Truth ExprFault). both (λ x y. Ok (f x y)) r b) p.1 ∙ ap (both (λ x y. Ok (f x y)) (Ok p.0)) q.1)

pub some_told : (r : Option Told) (q : Option Sort) → option_map meant r ≡ q → is_some r ≡ true → is_some q ≡ true
some_told None q e h = cc
some_told (Some x) q e h = ap is_some (sym e)

-- ---- conditions

as_truth : (r q : Result Truth ExprFault) → r ≡ q → HasTruth q → HasTruth r
as_truth r q e h = (h.0, e ∙ h.1)

pub never_compare : (kindss : List (List Kind)) (s : Scope) (c : Cond) (op : Comparison) (a b : Expr) → ((o : Scope) → truth o c ≡ both (comparison_of op) (value o a) (value o b))
    → comparable (sort_in s kindss a) (sort_in s kindss b) ≡ true → IsNeverRefused s kindss c
never_compare kindss s c op a b is h o same suits =
    as_truth _ _ (is o) (compared_both op (sort_in s kindss a) (sort_in s kindss b) (value o a) (value o b) (λ x e. sort_has kindss s o a x same suits e) (λ x e. sort_has kindss s o b x same suits e) h)

pub never_null : (kindss : List (List Kind)) (s : Scope) (c : Cond) (a : Expr) (f : Value → Truth) → ((o : Scope) → truth o c ≡ and_then (value o a) (λ v. Ok (f v)))
    → is_some (sort_in s kindss a) ≡ true → IsNeverRefused s kindss c
never_null kindss s c a f is h o same suits = as_truth _ _ (is o) (null_has (sort_in s kindss a) (value o a) f (λ x e. sort_has kindss s o a x same suits e) h)

pub never_not : (kindss : List (List Kind)) (s : Scope) (c a x : Cond) (f : Truth → Truth) → ((o : Scope) → truth o c ≡ and_then (truth o a) (λ t. Ok (f t))) → x ≡ a
    → IsNeverRefused s kindss x → IsNeverRefused s kindss c
never_not kindss s c a x f is e h o same suits = (let t = h o same suits in as_truth _ _ (is o) (then_has (truth o a) f t.0 (ap (truth o) (sym e) ∙ t.1)))

pub never_both : (kindss : List (List Kind)) (s : Scope) (c a b x y : Cond) (f : Truth → Truth → Truth) → ((o : Scope) → truth o c ≡ both (λ p q. Ok (f p q)) (truth o a) (truth o b)) → x ≡ a → y ≡ b
    → IsNeverRefused s kindss x → IsNeverRefused s kindss y → IsNeverRefused s kindss c
never_both kindss s c a b x y f is e g h k o same suits =
    as_truth _ _ (is o) (two_have (truth o a) (truth o b) f (as_truth _ _ (ap (truth o) (sym e)) (h o same suits)) (as_truth _ _ (ap (truth o) (sym g)) (k o same suits)))

any_have : (f : List Value → Result Truth ExprFault) (kinds : List Kind) (rows : List StoredRow) → AllFit kinds rows → ((row : List Value) → row_suits kinds row ≡ true → HasTruth (f row)) → (found : Bool)
    → HasTruth (any_from found (map f (contents rows)))
any_have f kinds [] fit has found = (_, refl)
any_have f kinds (r ∷ rows) fit has found =
    let t = has r.values fit.0.0 in
    as_truth _ _ (ap (λ (x : Result Truth ExprFault). any_from found (x ∷ map f (contents rows))) t.1) (any_have f kinds rows fit.1 has (found || is_true t.0))

pub never_exists : (kindss : List (List Kind)) (s : Scope) (c a x : Cond) (table : ℕ) (kinds : List Kind)
    → ((o : Scope) → truth o c ≡ any_true (map (λ row. truth (within o row) a) (contents (table_rows o.rows table)))) → x ≡ a
    → AllFit kinds (table_rows s.rows table) → IsNeverRefused (within s []) (kinds ∷ kindss) x → IsNeverRefused s kindss c
never_exists kindss s c a x table kinds is e fit h o same suits =
    as_truth _ _ (is o)
    (as_truth _ _ (sym (any_is (map (λ row. truth (within o row) a) (contents (table_rows o.rows table)))))
    (any_have (λ row. truth (within o row) a) kinds (table_rows o.rows table) (subst (λ (l : List StoredRow). AllFit kinds (table_rows l table)) same.rows fit)
    (λ row k. as_truth _ _ (ap (truth (within o row)) (sym e)) (h (within o row) (deeper kinds kindss s o row same) (k, suits))) false))
