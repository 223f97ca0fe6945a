-- A row that makes a condition true has the values that its equalities ask for.
use Rattle.std.proofs.Common.{◌≡◌, refl, ℕ, zero, suc, Bool, true, false, ◌&&◌, ◌||◌, if◌then◌else◌, List, [], ◌∷◌, ◌++◌, chars, Option, Some, None, Result, Ok, Err, IfOk, ℤ, slice_set, subst, ap, sym, ◌∙◌}
use Rattle.std.specs.Str.{IsUtf8}
use Rattle.std.proofs.lemmas.Str.{encodes-chars}
use Rattle.std.proofs.Math.Utf8.{encodes}
use Rattle.std.specs.Ordering.{nat_cmp, int_cmp, is_eq}
use Rattle.std.specs.Cmp.Lexicographic.{slice_cmp}
use Rattle.std.specs.FinMap.{nat_cmp-IsAntisymmetric, int_cmp-IsAntisymmetric, slice_cmp-IsAntisymmetric}
use Rattle.std.specs.declared.cmp.Ordering.{Ordering}
use Rattle.std.specs.declared.cmp.Ordering.TheVariants.{Less, Equal, Greater}
use Rattle.std.proofs.lemmas.Bool.Decides.{Decides-int_eq}
use Rattle.std.proofs.lemmas.Slice.Eq.{bytes_eq-Decides}
use Rattle.iv_expr.specs.Types.{Value, Truth, Expr, Comparison, Cond, ExprFault}
use Rattle.iv_expr.specs.Types.cond.{And}
use Rattle.iv_expr.specs.Types.value.{Null, Int, Text}
use Rattle.iv_expr.specs.Types.truth.{False, Unknown, True}
use Rattle.iv_expr.specs.Types.comparison as by
use Rattle.iv_expr.specs.Types.expr_fault.{IllTyped}
use Rattle.iv_value.specs.Truths.{truth_and, truth_of}
use Rattle.iv_value.specs.Values.{order, is_null, is_same}
use Rattle.iv_expr.specs.Scopes.{Scope}
use Rattle.iv_expr.specs.Evaluation.{both, comparison_of, column_of, truth, value}
use Rattle.iv_expr.proofs.Steps.{truth_and_at}
use Rattle.iv_expr.specs.Searches.{IsText, AreTexts, has_all}
use Rattle.iv_expr.specs.Asking.{IsEqualAt, AsksMore, IsNeverTrue, at_other, is_outside, own_column}
use Rattle.iv_expr.proofs.Outside.{both_of, own_value, value_other}

-- ---- values that compare as equal

same_bytes : (a b : List ℕ) → IsUtf8 a → IsUtf8 b → chars a ≡ chars b → a ≡ b
same_bytes a b p q e = sym (encodes-chars a p) ∙ ap encodes e ∙ encodes-chars b q

inner : (o p : Ordering) → ◌≡◌ {A = Option Ordering} (Some o) (Some p) → o ≡ p
inner o p e = cc

equal_is : (w v : Value) → IsText w → IsText v → order w v ≡ Some Equal → w ≡ v
equal_is (Int a) (Int b) p q e = ap Int (int_cmp-IsAntisymmetric a b (inner _ _ e))
equal_is (Text a) (Text b) p q e = ap Text (same_bytes a b p q (slice_cmp-IsAntisymmetric nat_cmp-IsAntisymmetric (chars a) (chars b) (inner _ _ e)))
equal_is (Int a) (Text b) p q e = cc
equal_is (Int a) Null p q e = cc
equal_is (Text a) (Int b) p q e = cc
equal_is (Text a) Null p q e = cc
equal_is Null v p q e = cc

same_itself : (v : Value) → is_same v v ≡ true
same_itself Null = refl
same_itself (Int a) = (Decides-int_eq a a).1 refl
same_itself (Text a) = (bytes_eq-Decides a a).1 refl

turned_order : (w v : Value) → order v w ≡ Some Equal → order w v ≡ Some Equal
turned_order (Int a) (Int b) e =
    let same : b ≡ a = int_cmp-IsAntisymmetric b a (inner _ _ e) in
    ap (λ (x : ℤ). Some (int_cmp x b)) (sym same) ∙ ap (λ (x : ℤ). Some (int_cmp b x)) same ∙ e
turned_order (Text a) (Text b) e =
    let same : chars b ≡ chars a = slice_cmp-IsAntisymmetric nat_cmp-IsAntisymmetric (chars b) (chars a) (inner _ _ e) in
    ap (λ (x : List ℕ). Some (slice_cmp nat_cmp x (chars b))) (sym same) ∙ ap (λ (x : List ℕ). Some (slice_cmp nat_cmp (chars b) x)) same ∙ e
turned_order (Int a) (Text b) e = cc
turned_order (Int a) Null e = cc
turned_order (Text a) (Int b) e = cc
turned_order (Text a) Null e = cc
turned_order Null (Int b) e = cc
turned_order Null (Text b) e = cc
turned_order Null Null e = cc

-- ---- one value more

text_at : (row : List Value) (c : ℕ) (w : Value) → AreTexts row → column_of (Some row) c ≡ Ok w → IsText w
text_at [] c w h e = cc
text_at (v ∷ row) zero w h e = (let same : v ≡ w = cc in subst IsText same h.0)
text_at (v ∷ row) (suc c) w h e = text_at row c w h.1 e

with_one : (asked row : List Value) (c : ℕ) (v : Value) → column_of (Some row) c ≡ Ok v → has_all asked row ≡ true → has_all (slice_set asked c v) row ≡ true
with_one [] row c v e h = h
with_one (a ∷ asked) [] c v e h = cc
with_one (a ∷ asked) (w ∷ row) zero v e h =
    let same : w ≡ v = cc in
    ap (λ (x : Value). (is_null v || is_same v x) && has_all asked row) same
    ∙ ap (λ b. (is_null v || b) && has_all asked row) (same_itself v)
    ∙ or_true (is_null v) (has_all asked row) (both_of (is_null a || is_same a w) (has_all asked row) h).1
  where
    or_true : (a b : Bool) → b ≡ true → ((a || true) && b) ≡ true
    or_true true b e = e
    or_true false b e = e
with_one (a ∷ asked) (w ∷ row) (suc c) v e h =
    let p = both_of (is_null a || is_same a w) (has_all asked row) h in
    ap (λ b. b && has_all (slice_set asked c v) row) p.0 ∙ with_one asked row c v e p.1

pub asks_one : (asked row : List Value) (c : ℕ) (v : Value) → AreTexts row → IsText v → IsEqualAt row c v → has_all asked row ≡ true → has_all (slice_set asked c v) row ≡ true
asks_one asked row c v texts text is h =
    let same : is.0 ≡ v = equal_is is.0 v (text_at row c is.0 texts is.1) text is.2 in
    with_one asked row c v (is.1 ∙ ap (λ x. Ok x) same) h

-- ---- equalities

not_true : (b : Bool) → ◌≡◌ {A = Result Truth ExprFault} (if b then Ok Unknown else Err IllTyped) (Ok True) → ⊥
not_true true h = cc
not_true false h = cc

ordered_true : (o : Option Ordering) (b : Bool)
    → elim o as (λ x. Result Truth ExprFault) [ Some r ↦ Ok (truth_of (is_eq r)) | None ↦ if b then Ok Unknown else Err IllTyped ] ≡ Ok True → o ≡ Some Equal
ordered_true None b h = absurd (not_true b h)
ordered_true (Some Less) b h = cc
ordered_true (Some Equal) b h = refl
ordered_true (Some Greater) b h = cc

-- both operands have values, which compare as equal
abbrev pub Equals : Result Value ExprFault → Result Value ExprFault → Type 0
Equals x y = (a : Value) × (b : Value) × (x ≡ Ok a) × (y ≡ Ok b) × (order a b ≡ Some Equal)

pub equals : (x y : Result Value ExprFault) → both (comparison_of by.Equal) x y ≡ Ok True → Equals x y
equals (Ok a) (Ok b) h = (a, b, refl, refl, ordered_true (order a b) (is_null a || is_null b) h)
equals (Ok a) (Err e) h = cc
equals (Err e) y h = cc

-- the column on the left, and on the right
pub equal_left : (x y : Result Value ExprFault) (row : List Value) (c : ℕ) (v : Value) → Equals x y → x ≡ column_of (Some row) c → y ≡ Ok v → IsEqualAt row c v
equal_left x y row c v e p q =
    let same : e.1 ≡ v = ok_is e.1 v (sym e.3 ∙ q) in
    (e.0, sym p ∙ e.2, ap (order e.0) (sym same) ∙ e.4)
  where
    ok_is : (a b : Value) → ◌≡◌ {A = Result Value ExprFault} (Ok a) (Ok b) → a ≡ b
    ok_is a b e = cc

pub turned : (x y : Result Value ExprFault) → Equals x y → Equals y x
turned x y e = (e.1, e.0, e.3, e.2, turned_order e.1 e.0 e.4)

pub null_never : (x y : Result Value ExprFault) → Equals x y → y ≡ Ok Null → ⊥
null_never x y e q = (let same : e.1 ≡ Null = ok_is e.1 Null (sym e.3 ∙ q) in no (e.0) (ap (order e.0) (sym same) ∙ e.4))
  where
    ok_is : (a b : Value) → ◌≡◌ {A = Result Value ExprFault} (Ok a) (Ok b) → a ≡ b
    ok_is a b e = cc

    no : (w : Value) → order w Null ≡ Some Equal → ⊥
    no Null h = cc
    no (Int a) h = cc
    no (Text a) h = cc

-- both sides of an AND that is true are true
pub both_true : (x y : Result Truth ExprFault) → both (λ a b. Ok (truth_and a b)) x y ≡ Ok True → (x ≡ Ok True) × (y ≡ Ok True)
both_true (Ok True) (Ok True) h = (refl, refl)
both_true (Ok True) (Ok Unknown) h = cc
both_true (Ok True) (Ok False) h = cc
both_true (Ok Unknown) (Ok True) h = cc
both_true (Ok Unknown) (Ok Unknown) h = cc
both_true (Ok Unknown) (Ok False) h = cc
both_true (Ok False) (Ok b) h = cc
both_true (Ok a) (Err e) h = cc
both_true (Err e) y h = cc

-- ---- nothing is asked for

abbrev pub AreNulls : List Value → Type 0
AreNulls [] = Unit {0}
AreNulls (v ∷ row) = (is_null v ≡ true) × AreNulls row

pub ask_nothing : (asked row : List Value) → AreNulls asked → has_all asked row ≡ true
ask_nothing [] row h = refl
ask_nothing (a ∷ asked) [] h = ap (λ b. b && has_all asked []) h.0 ∙ ask_nothing asked [] h.1
ask_nothing (a ∷ asked) (v ∷ row) h = ap (λ b. (b || is_same a v) && has_all asked row) h.0 ∙ ask_nothing asked row h.1

pub one_null_more : (asked : List Value) → AreNulls asked → AreNulls (asked ++ Null ∷ [])
one_null_more [] h = (refl, tt)
one_null_more (a ∷ asked) h = (h.0, one_null_more asked h.1)

-- ---- AND

pub and_left : (s : Scope) (c a b x : Cond) → c ≡ And a b → x ≡ a → truth s c ≡ Ok True → truth s x ≡ Ok True
and_left s c a b x e same is = ap (truth s) same ∙ (both_true (truth s a) (truth s b) (sym (truth_and_at s c a b e) ∙ is)).0

pub and_right : (s : Scope) (c a b x : Cond) → c ≡ And a b → x ≡ b → truth s c ≡ Ok True → truth s x ≡ Ok True
and_right s c a b x e same is = ap (truth s) same ∙ (both_true (truth s a) (truth s b) (sym (truth_and_at s c a b e) ∙ is)).1

pub and_asks : {E : Type 0} (r : Result Bool E) (f g h : List Value → Result Truth ExprFault) (old mid new : List Value)
    → ((row : List Value) → h row ≡ Ok True → f row ≡ Ok True) → ((row : List Value) → h row ≡ Ok True → g row ≡ Ok True)
    → AsksMore f old mid → IfOk r (λ may. may ≡ true → AsksMore g mid new) → IfOk r (λ may. may ≡ true → AsksMore h old new)
and_asks (Ok may) f g h old mid new left right first next = λ yes row texts is has. next yes row texts (right row is) (first row texts (left row is) has)
and_asks (Err e) f g h old mid new left right first next = tt

pub and_never : {E : Type 0} (r : Result Bool E) (g h : List Value → Result Truth ExprFault) → ((row : List Value) → h row ≡ Ok True → g row ≡ Ok True)
    → IfOk r (λ may. may ≡ false → IsNeverTrue g) → IfOk r (λ may. may ≡ false → IsNeverTrue h)
and_never (Ok may) g h right never = λ no row is. never no row (right row is)
and_never (Err e) g h right never = tt

-- ---- an equality asks for a value

-- what a call that asks for the value of an expression in a column answers
abbrev pub AsksValue : Scope → Expr → ℕ → List Value → List Value → Type 0
AsksValue s e column old new =
    (v : Value) → value s e ≡ Ok v → (row : List Value) → AreTexts row → IsEqualAt row column v → has_all old row ≡ true → has_all new row ≡ true

abbrev pub compared_at : Scope → Comparison → Expr → Expr → List Value → Result Truth ExprFault
compared_at s op a b row = both (comparison_of op) (value (at_other s row) a) (value (at_other s row) b)

equals_at : (s : Scope) (op : Comparison) (a b : Expr) (row : List Value) → op ≡ by.Equal → compared_at s op a b row ≡ Ok True
    → Equals (value (at_other s row) a) (value (at_other s row) b)
equals_at s op a b row e is = equals _ _ (ap (λ o. compared_at s o a b row) (sym e) ∙ is)

asks_at : (s : Scope) (a b : Expr) (column : ℕ) (old new row : List Value) → own_column a ≡ Some column → is_outside b ≡ true → AsksValue s b column old new → AreTexts row
    → Equals (value (at_other s row) a) (value (at_other s row) b) → has_all old row ≡ true → has_all new row ≡ true
asks_at s a b column old new row own out asks texts e has =
    asks e.1 (sym (value_other s row b out) ∙ e.3) row texts (equal_left _ _ row column e.1 e (own_value s row a column own) e.3) has

pub left_asks : {E : Type 0} (r : Result Bool E) (s : Scope) (op : Comparison) (a b : Expr) (column : ℕ) (old new : List Value) → op ≡ by.Equal → own_column a ≡ Some column → is_outside b ≡ true
    → IfOk r (λ may. AsksValue s b column old new) → IfOk r (λ may. may ≡ true → AsksMore (compared_at s op a b) old new)
left_asks (Ok may) s op a b column old new e own out asks = λ yes row texts is has. asks_at s a b column old new row own out asks texts (equals_at s op a b row e is) has
left_asks (Err x) s op a b column old new e own out asks = tt

pub right_asks : {E : Type 0} (r : Result Bool E) (s : Scope) (op : Comparison) (a b : Expr) (column : ℕ) (old new : List Value) → op ≡ by.Equal → own_column b ≡ Some column → is_outside a ≡ true
    → IfOk r (λ may. AsksValue s a column old new) → IfOk r (λ may. may ≡ true → AsksMore (compared_at s op a b) old new)
right_asks (Ok may) s op a b column old new e own out asks =
    λ yes row texts is has. asks_at s b a column old new row own out asks texts (turned _ _ (equals_at s op a b row e is)) has
right_asks (Err x) s op a b column old new e own out asks = tt

pub left_never : {E : Type 0} (r : Result Bool E) (s : Scope) (op : Comparison) (a b : Expr) → op ≡ by.Equal → is_outside b ≡ true → IfOk r (λ may. may ≡ false → value s b ≡ Ok Null)
    → IfOk r (λ may. may ≡ false → IsNeverTrue (compared_at s op a b))
left_never (Ok may) s op a b e out never = λ no row is. null_never _ _ (equals_at s op a b row e is) (value_other s row b out ∙ never no)
left_never (Err x) s op a b e out never = tt

pub right_never : {E : Type 0} (r : Result Bool E) (s : Scope) (op : Comparison) (a b : Expr) → op ≡ by.Equal → is_outside a ≡ true → IfOk r (λ may. may ≡ false → value s a ≡ Ok Null)
    → IfOk r (λ may. may ≡ false → IsNeverTrue (compared_at s op a b))
right_never (Ok may) s op a b e out never = λ no row is. null_never _ _ (turned _ _ (equals_at s op a b row e is)) (value_other s row a out ∙ never no)
right_never (Err x) s op a b e out never = tt
