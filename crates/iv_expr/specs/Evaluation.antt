-- This file defines the value of an expression and the truth of a condition in a scope, by cases on the tree.
use Rattle.std.specs.List.{list_any}
use Rattle.std.specs.Prelude.{ℕ, Bool, ◌||◌, if◌then◌else◌, List, [], ◌∷◌, map, ℤ, ◌+ℤ◌, ◌-ℤ◌, ◌*ℤ◌, Option, Some, None, Result, Ok, Err, slice_get}
use Rattle.std.specs.declared.cmp.Ordering.{Ordering}
use Rattle.std.specs.Ordering.{is_eq, is_ne, is_lt, is_gt, is_le, is_ge}
use Rattle.iv_expr.specs.Types.{Value, Truth, Expr, Comparison, Cond, ExprFault}
use Rattle.iv_expr.specs.Types.value.{Null, Int}
use Rattle.iv_expr.specs.Types.truth.{False, Unknown, True}
use Rattle.iv_expr.specs.Types.expr.{Literal, Column, Variable}
use Rattle.iv_expr.specs.Types.comparison as by
use Rattle.iv_expr.specs.Types.cond.{Always, Compare, IsNull}
use Rattle.iv_expr.specs.Types.expr_fault.{OutOfRange, IllTyped}
use Rattle.iv_value.specs.Truths.{truth_not, truth_and, truth_or, truth_of, is_true}
use Rattle.iv_value.specs.Values.{is_null, order, checked}
use Rattle.iv_expr.specs.Trees.{plus, minus, times, not_c, and_c, or_c, exists_c}
use Rattle.iv_expr.specs.Scopes.{Scope, within, alone, range_rows, variable_of}

-- Both parts are evaluated; the fault of the left one comes first.
abbrev pub both : {A B C E : Type 0} → (A → B → Result C E) → Result A E → Result B E → Result C E
both f (Ok a) (Ok b) = f a b
both f (Ok a) (Err e) = Err e
both f (Err e) r = Err e

-- What is made of the one part, or its fault.
abbrev pub and_then : {A B E : Type 0} → Result A E → (A → Result B E) → Result B E
and_then (Ok a) f = f a
and_then (Err e) f = Err e

-- The column of a row by its place; a tree that names another doesn't suit the scope.
abbrev pub column_of : Option (List Value) → ℕ → Result Value ExprFault
column_of None c = Err IllTyped
column_of (Some row) c = elim (slice_get row c) [ Some v ↦ Ok v | None ↦ Err IllTyped ]

-- A result that has a place in 64 bits, or the fault OutOfRange.
abbrev pub number_of : Option ℤ → Result Value ExprFault
number_of (Some z) = Ok (Int z)
number_of None = Err OutOfRange

-- An operation on two operands ("Numeric value expression"): one that is null makes the result null; a text suits none.
abbrev pub arithmetic : (ℤ → ℤ → ℤ) → Value → Value → Result Value ExprFault
arithmetic f (Int a) (Int b) = number_of (checked (f a b))
arithmetic f Null (Int b) = Ok Null
arithmetic f (Int a) Null = Ok Null
arithmetic f Null Null = Ok Null
arithmetic f _ _ = Err IllTyped

-- The value of an expression ("Value expression").
abbrev pub value : Scope → Expr → Result Value ExprFault
value s (Literal v) = Ok v
value s (Column range c) = column_of (slice_get s.ranges range) c
value s (Variable side c) = column_of (variable_of s side) c
value s (plus a b) = both (arithmetic ◌+ℤ◌) (value s a) (value s b)
value s (minus a b) = both (arithmetic ◌-ℤ◌) (value s a) (value s b)
value s (times a b) = both (arithmetic ◌*ℤ◌) (value s a) (value s b)

-- Which orders a comparison operator accepts.
abbrev pub accepts : Comparison → Ordering → Bool
accepts by.Equal = is_eq
accepts by.NotEqual = is_ne
accepts by.Less = is_lt
accepts by.LessEqual = is_le
accepts by.Greater = is_gt
accepts by.GreaterEqual = is_ge

-- A comparison ("Comparison predicate"): unknown if an operand is null; two kinds suit none.
abbrev pub comparison_of : Comparison → Value → Value → Result Truth ExprFault
comparison_of op a b = elim (order a b) [ Some o ↦ Ok (truth_of (accepts op o)) | None ↦ if is_null a || is_null b then Ok Unknown else Err IllTyped ]

-- the results, or the first fault
abbrev pub all_results : {A : Type 0} → List (Result A ExprFault) → Result (List A) ExprFault
all_results [] = Ok []
all_results (result ∷ results) = and_then result (λ x. and_then (all_results results) (λ xs. Ok (x ∷ xs)))

-- Whether one of the truths is true; the first fault is the fault of the whole.
abbrev pub any_true : List (Result Truth ExprFault) → Result Truth ExprFault
any_true results = and_then (all_results results) (λ truths. Ok (truth_of (list_any is_true truths)))

-- The truth of a condition ("Search condition"). IS NULL is never unknown ("Null predicate"). EXISTS is true if some row of its range makes
-- its condition true ("Exists predicate").
abbrev pub truth : Scope → Cond → Result Truth ExprFault
truth s Always = Ok True
truth s (Compare op a b) = both (comparison_of op) (value s a) (value s b)
truth s (IsNull a) = and_then (value s a) (λ v. Ok (truth_of (is_null v)))
truth s (not_c a) = and_then (truth s a) (λ t. Ok (truth_not t))
truth s (and_c a b) = both (λ x y. Ok (truth_and x y)) (truth s a) (truth s b)
truth s (or_c a b) = both (λ x y. Ok (truth_or x y)) (truth s a) (truth s b)
truth s (exists_c range a) = any_true (map (λ row. truth (within s row) a) (range_rows s range))

-- A truth, if a fault counts as false.
abbrev pub fault_is_false : Result Truth ExprFault → Truth
fault_is_false (Ok t) = t
fault_is_false (Err e) = False

-- The truth of a CHECK's condition at a row.
abbrev pub check_truth : Cond → List Value → Truth
check_truth c row = fault_is_false (truth (alone row) c)
