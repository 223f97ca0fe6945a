-- A tree that suits its scope has no fault but OutOfRange.
use Rattle.std.proofs.Common.{◌≡◌, refl, ℕ, zero, suc, ℤ, ◌+ℤ◌, ◌-ℤ◌, ◌*ℤ◌, Bool, true, false, ◌&&◌, ◌||◌, ◌≢◌, List, [], ◌∷◌, map, Option, Some, None, is_some, Result, Ok, Err, slice_get, subst}
use Rattle.iv_expr.specs.Types.{Value, Truth, Kind, Range, Expr, Comparison, Cond, ExprFault}
use Rattle.iv_expr.specs.Types.value.{Null, Int, Text}
use Rattle.iv_expr.specs.Types.side.{Old, New}
use Rattle.iv_expr.specs.Types.range.{Table, Transition}
use Rattle.iv_expr.specs.Types.expr.{Literal, Column, Variable}
use Rattle.iv_expr.specs.Types.cond.{Always, Compare, IsNull}
use Rattle.iv_expr.specs.Types.expr_fault.{OutOfRange, IllTyped}
use Rattle.iv_value.specs.Truths.{is_true}
use Rattle.iv_expr.specs.Trees.{plus, minus, times, not_c, and_c, or_c, exists_c}
use Rattle.iv_expr.specs.Scopes.{Scope, within, range_rows}
use Rattle.iv_expr.specs.Evaluation.{value, truth, both, and_then, arithmetic, comparison_of, number_of, column_of}
use Rattle.iv_expr.specs.Suiting.{Sort, nulls, numbers, texts, of_sort, sort_of_kind, Shape, shape_within, range_kinds, column_sort, arithmetic_sort, sort_of, comparable, suits, row_suits, AllSuit, VariableSuits, RangesSuit, HasShape, Suits, SuitsExpr}
use Rattle.iv_expr.proofs.Anys.{any_from, any_is}

-- A value of the sort, or the fault OutOfRange.
abbrev pub Sorted : Option Sort → Result Value ExprFault → Type 0
Sorted None r = Unit {0}
Sorted (Some sort) (Ok v) = of_sort sort v ≡ true
Sorted (Some sort) (Err e) = e ≡ OutOfRange

-- No fault, or OutOfRange.
abbrev pub Fine : {A : Type 0} → Result A ExprFault → Type 0
Fine (Ok t) = Unit {0}
Fine (Err e) = e ≡ OutOfRange

left_of : (a b : Bool) → a && b ≡ true → a ≡ true
left_of true b h = refl
left_of false b h = h

right_of : (a b : Bool) → a && b ≡ true → b ≡ true
right_of true b h = h
right_of false b h = cc

column_sorted : (kinds : List Kind) (row : List Value) (c : ℕ) → row_suits kinds row ≡ true → Sorted (column_sort (Some kinds) c) (column_of (Some row) c)
column_sorted [] row c h = tt
column_sorted (k ∷ ks) [] c h = absurd cc
column_sorted (k ∷ ks) (v ∷ vs) zero h = left_of (of_sort (sort_of_kind k) v) (row_suits ks vs) h
column_sorted (k ∷ ks) (v ∷ vs) (suc c) h = column_sorted ks vs c (right_of (of_sort (sort_of_kind k) v) (row_suits ks vs) h)

variable_sorted : (kinds : Option (List Kind)) (row : Option (List Value)) (c : ℕ) → VariableSuits kinds row → Sorted (column_sort kinds c) (column_of row c)
variable_sorted None row c h = tt
variable_sorted (Some kinds) None c h = absurd h
variable_sorted (Some kinds) (Some row) c h = column_sorted kinds row c h

pub range_suits : (kinds : List (List Kind)) (rows : List (List Value)) (n : ℕ) → RangesSuit kinds rows → VariableSuits (slice_get kinds n) (slice_get rows n)
range_suits [] rows n h = tt
range_suits (k ∷ ks) [] n h = absurd h
range_suits (k ∷ ks) (r ∷ rs) zero h = h.0
range_suits (k ∷ ks) (r ∷ rs) (suc n) h = range_suits ks rs n h.1

number_sorted : (z : Option ℤ) → Sorted (Some numbers) (number_of z)
number_sorted None = refl
number_sorted (Some z) = refl

numbers_sorted : (f : ℤ → ℤ → ℤ) (a b : Result Value ExprFault) → Sorted (Some numbers) a → Sorted (Some numbers) b → Sorted (Some numbers) (both (arithmetic f) a b)
numbers_sorted f (Err e) b p q = p
numbers_sorted f (Ok a) (Err e) p q = q
numbers_sorted f (Ok (Int a)) (Ok (Int b)) p q = number_sorted _
numbers_sorted f (Ok (Int a)) (Ok Null) p q = refl
numbers_sorted f (Ok Null) (Ok (Int b)) p q = refl
numbers_sorted f (Ok Null) (Ok Null) p q = refl
numbers_sorted f (Ok (Text a)) (Ok b) p q = absurd cc
numbers_sorted f (Ok (Int a)) (Ok (Text b)) p q = absurd cc
numbers_sorted f (Ok Null) (Ok (Text b)) p q = absurd cc

as_numbers : (r : Result Value ExprFault) → Sorted (Some nulls) r → Sorted (Some numbers) r
as_numbers (Err e) h = h
as_numbers (Ok Null) h = refl
as_numbers (Ok (Int a)) h = refl
as_numbers (Ok (Text t)) h = absurd cc

arithmetic_sorted : (f : ℤ → ℤ → ℤ) (j k : Option Sort) (a b : Result Value ExprFault) → Sorted j a → Sorted k b → Sorted (arithmetic_sort j k) (both (arithmetic f) a b)
arithmetic_sorted f None k a b p q = tt
arithmetic_sorted f (Some texts) k a b p q = tt
arithmetic_sorted f (Some numbers) None a b p q = tt
arithmetic_sorted f (Some nulls) None a b p q = tt
arithmetic_sorted f (Some numbers) (Some texts) a b p q = tt
arithmetic_sorted f (Some nulls) (Some texts) a b p q = tt
arithmetic_sorted f (Some numbers) (Some numbers) a b p q = numbers_sorted f a b p q
arithmetic_sorted f (Some numbers) (Some nulls) a b p q = numbers_sorted f a b p (as_numbers b q)
arithmetic_sorted f (Some nulls) (Some numbers) a b p q = numbers_sorted f a b (as_numbers a p) q
arithmetic_sorted f (Some nulls) (Some nulls) a b p q = numbers_sorted f a b (as_numbers a p) (as_numbers b q)

-- The value of an expression is of its sort, or it is out of range.
pub value_sorted : (shape : Shape) (s : Scope) (e : Expr) → HasShape s shape → Sorted (sort_of shape e) (value s e)
value_sorted shape s (Literal Null) h = refl
value_sorted shape s (Literal (Int a)) h = refl
value_sorted shape s (Literal (Text t)) h = refl
value_sorted shape s (Column range c) h = variable_sorted (slice_get shape.ranges range) (slice_get s.ranges range) c (range_suits shape.ranges s.ranges range h.ranges)
value_sorted shape s (Variable Old c) h = variable_sorted shape.old s.frame.old c h.old
value_sorted shape s (Variable New c) h = variable_sorted shape.new s.frame.new c h.new
value_sorted shape s (plus a b) h = arithmetic_sorted ◌+ℤ◌ (sort_of shape a) (sort_of shape b) (value s a) (value s b) (value_sorted shape s a h) (value_sorted shape s b h)
value_sorted shape s (minus a b) h = arithmetic_sorted ◌-ℤ◌ (sort_of shape a) (sort_of shape b) (value s a) (value s b) (value_sorted shape s a h) (value_sorted shape s b h)
value_sorted shape s (times a b) h = arithmetic_sorted ◌*ℤ◌ (sort_of shape a) (sort_of shape b) (value s a) (value s b) (value_sorted shape s a h) (value_sorted shape s b h)

comparison_fine : (op : Comparison) (j k : Sort) (a b : Result Value ExprFault) → Sorted (Some j) a → Sorted (Some k) b → comparable (Some j) (Some k) ≡ true → Fine (both (comparison_of op) a b)
comparison_fine op j k (Err e) b p q h = p
comparison_fine op j k (Ok a) (Err e) p q h = q
comparison_fine op j k (Ok (Int a)) (Ok (Int b)) p q h = tt
comparison_fine op j k (Ok (Text a)) (Ok (Text b)) p q h = tt
comparison_fine op j k (Ok Null) (Ok b) p q h = tt
comparison_fine op j k (Ok (Int a)) (Ok Null) p q h = tt
comparison_fine op j k (Ok (Text a)) (Ok Null) p q h = tt
comparison_fine op nulls k (Ok (Int a)) (Ok (Text b)) p q h = absurd cc
comparison_fine op texts k (Ok (Int a)) (Ok (Text b)) p q h = absurd cc
comparison_fine op numbers nulls (Ok (Int a)) (Ok (Text b)) p q h = absurd cc
comparison_fine op numbers numbers (Ok (Int a)) (Ok (Text b)) p q h = absurd cc
comparison_fine op numbers texts (Ok (Int a)) (Ok (Text b)) p q h = absurd cc
comparison_fine op nulls k (Ok (Text a)) (Ok (Int b)) p q h = absurd cc
comparison_fine op numbers k (Ok (Text a)) (Ok (Int b)) p q h = absurd cc
comparison_fine op texts nulls (Ok (Text a)) (Ok (Int b)) p q h = absurd cc
comparison_fine op texts texts (Ok (Text a)) (Ok (Int b)) p q h = absurd cc
comparison_fine op texts numbers (Ok (Text a)) (Ok (Int b)) p q h = absurd cc

compared_fine : (op : Comparison) (j k : Option Sort) (a b : Result Value ExprFault) → Sorted j a → Sorted k b → comparable j k ≡ true → Fine (both (comparison_of op) a b)
compared_fine op None k a b p q h = absurd cc
compared_fine op (Some nulls) None a b p q h = absurd cc
compared_fine op (Some numbers) None a b p q h = absurd cc
compared_fine op (Some texts) None a b p q h = absurd cc
compared_fine op (Some j) (Some k) a b p q h = comparison_fine op j k a b p q h

sorted_fine : {A : Type 0} (k : Option Sort) (r : Result Value ExprFault) (f : Value → A) → Sorted k r → is_some k ≡ true → Fine (and_then r (λ v. Ok (f v)))
sorted_fine None r f p h = absurd cc
sorted_fine (Some k) (Ok v) f p h = tt
sorted_fine (Some k) (Err e) f p h = p

then_fine : {A B : Type 0} (r : Result A ExprFault) (f : A → B) → Fine r → Fine (and_then r (λ t. Ok (f t)))
then_fine (Ok t) f p = tt
then_fine (Err e) f p = p

both_fine : {A B C : Type 0} (a : Result A ExprFault) (b : Result B ExprFault) (f : A → B → C) → Fine a → Fine b → Fine (both (λ x y. Ok (f x y)) a b)
both_fine (Ok x) (Ok y) f p q = tt
both_fine (Ok x) (Err e) f p q = q
both_fine (Err e) b f p q = p

any_step_fine : (found : Bool) (r : Result Truth ExprFault) (more : List (Result Truth ExprFault)) → Fine r → ((b : Bool) → Fine (any_from b more)) → Fine (any_from found (r ∷ more))
any_step_fine found (Ok t) more p q = q (found || is_true t)
any_step_fine found (Err e) more p q = p

any_fine : (f : List Value → Result Truth ExprFault) (kinds : List Kind) (rows : List (List Value)) → ((row : List Value) → row_suits kinds row ≡ true → Fine (f row)) → AllSuit kinds rows → (found : Bool) → Fine (any_from found (map f rows))
any_fine f kinds [] at h found = tt
any_fine f kinds (row ∷ rows) at h found = any_step_fine found (f row) (map f rows) (at row h.0) (any_fine f kinds rows at h.1)

shape_of_within : (s : Scope) (shape : Shape) (kinds : List Kind) (row : List Value) → HasShape s shape → row_suits kinds row ≡ true → HasShape (within s row) (shape_within shape kinds)
shape_of_within s shape kinds row h p = record { ranges = (p, h.ranges); old = h.old; new = h.new; transition = h.transition; tables = h.tables }

range_all_suit : (s : Scope) (shape : Shape) (range : Range) → HasShape s shape → AllSuit (range_kinds shape range) (range_rows s range)
range_all_suit s shape (Table t) h = h.tables t
range_all_suit s shape (Transition side) h = h.transition side

-- A condition that suits its scope has a truth, or it is out of range.
pub truth_fine : (shape : Shape) (s : Scope) (c : Cond) → HasShape s shape → suits shape c ≡ true → Fine (truth s c)
truth_fine shape s Always h p = tt
truth_fine shape s (Compare op a b) h p = compared_fine op (sort_of shape a) (sort_of shape b) (value s a) (value s b) (value_sorted shape s a h) (value_sorted shape s b h) p
truth_fine shape s (IsNull a) h p = sorted_fine (sort_of shape a) (value s a) _ (value_sorted shape s a h) p
truth_fine shape s (not_c a) h p = then_fine (truth s a) _ (truth_fine shape s a h p)
truth_fine shape s (and_c a b) h p = both_fine (truth s a) (truth s b) _ (truth_fine shape s a h (left_of _ _ p)) (truth_fine shape s b h (right_of _ _ p))
truth_fine shape s (or_c a b) h p = both_fine (truth s a) (truth s b) _ (truth_fine shape s a h (left_of _ _ p)) (truth_fine shape s b h (right_of _ _ p))
truth_fine shape s (exists_c range a) h p =
    subst Fine (any_is (map (λ row. truth (within s row) a) (range_rows s range)))
    (any_fine (λ row. truth (within s row) a) (range_kinds shape range) (range_rows s range)
    (λ row q. truth_fine (shape_within shape (range_kinds shape range)) (within s row) a (shape_of_within s shape (range_kinds shape range) row h q) p)
    (range_all_suit s shape range h) false)

fine_fits : {A : Type 0} (r : Result A ExprFault) → Fine r → r ≢ Err IllTyped
fine_fits (Ok t) p h = cc
fine_fits (Err e) p h = cc

value_fine : (k : Option Sort) (r : Result Value ExprFault) → Sorted k r → is_some k ≡ true → Fine r
value_fine None r p h = absurd cc
value_fine (Some k) (Ok v) p h = tt
value_fine (Some k) (Err e) p h = p

-- No Misfit for a tree that suits its scope.
pub truth_fits : (s : Scope) (c : Cond) → Suits s c → truth s c ≢ Err IllTyped
truth_fits s c h = fine_fits (truth s c) (truth_fine h.0 s c h.1 h.2)

pub value_fits : (s : Scope) (e : Expr) → SuitsExpr s e → value s e ≢ Err IllTyped
value_fits s e h = fine_fits (value s e) (value_fine (sort_of h.0 e) (value s e) (value_sorted h.0 s e h.1) h.2)
