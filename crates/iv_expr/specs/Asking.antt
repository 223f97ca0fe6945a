-- What a condition asks of a row of the innermost range, and when no row there can refuse it.
use Rattle.std.specs.Prelude.{◌≡◌, ℕ, zero, Bool, true, ◌&&◌, if◌then◌else◌, is_none, List, [], ◌∷◌, drop, slice_get, Option, Some, None, option_map, Result, Ok, Err}
use Rattle.std.specs.declared.cmp.Ordering.TheVariants as cmp
use Rattle.iv_expr.specs.Types.{Value, Truth, Kind, Expr, Cond, ExprFault}
use Rattle.iv_expr.specs.Types.truth.{True}
use Rattle.iv_expr.specs.Types.expr.{Literal, Column, Variable}
use Rattle.iv_expr.specs.Trees.{plus, minus, times}
use Rattle.iv_value.specs.Values.{order}
use Rattle.iv_expr.specs.Scopes.{Scope}
use Rattle.iv_expr.specs.Evaluation.{value, truth, column_of}
use Rattle.iv_expr.specs.Suiting.{Sort, RangesSuit, nulls, numbers, texts, sort_of_kind, sort_of_value}
use Rattle.iv_expr.specs.Searches.{AreTexts, has_all}
use Rattle.iv_expr.specs.declared.sorts.Sort.{Sort as Told}
use Rattle.iv_expr.specs.declared.sorts.Sort.TheVariants as told

-- The scope with another row in its innermost range.
abbrev pub at_other : Scope → List Value → Scope
at_other s row = record { ranges = row ∷ drop 1 s.ranges; frame = s.frame; rows = s.rows }

-- ---- expressions

-- the column of the innermost range that an expression is
abbrev pub own_column : Expr → Option ℕ
own_column (Column zero c) = Some c
own_column _ = None

-- an expression reads nothing of the ranges that have these kinds, the innermost ones
abbrev pub is_fixed : List (List Kind) → Expr → Bool
is_fixed kindss (Literal v) = true
is_fixed kindss (Column range c) = is_none (slice_get kindss range)
is_fixed kindss (Variable side c) = true
is_fixed kindss (plus a b) = is_fixed kindss a && is_fixed kindss b
is_fixed kindss (minus a b) = is_fixed kindss a && is_fixed kindss b
is_fixed kindss (times a b) = is_fixed kindss a && is_fixed kindss b

-- it reads nothing of the innermost range
abbrev pub is_outside : Expr → Bool
is_outside e = is_fixed ([] ∷ []) e

-- the sort that code tells
abbrev pub meant : Told → Sort
meant told.Nulls = nulls
meant told.Numbers = numbers
meant told.Texts = texts

abbrev pub sort_of_result : Result Value ExprFault → Option Sort
sort_of_result (Ok v) = Some (sort_of_value v)
sort_of_result (Err e) = None

-- the sort of a column of these ranges
abbrev pub sort_of_column : List (List Kind) → Expr → Option Sort
sort_of_column kindss (Column range c) = elim (slice_get kindss range) [ Some kinds ↦ option_map sort_of_kind (slice_get kinds c) | None ↦ None ]
sort_of_column kindss _ = None

-- The sort of an expression's values at all rows of these kinds in the innermost ranges: of what reads nothing of them by its value, of a
-- column of theirs by its kind; nothing if a row might refuse it.
abbrev pub sort_in : Scope → List (List Kind) → Expr → Option Sort
sort_in s kindss e = if is_fixed kindss e then sort_of_result (value s e) else sort_of_column kindss e

-- ---- no row refuses

-- Two scopes differ at most in the rows of the ranges that have these kinds.
pub record SameOutside (kindss : List (List Kind)) (s o : Scope) : Type 0 where
  pub frame : s.frame ≡ o.frame
  pub rows : s.rows ≡ o.rows
  pub ranges : (r : ℕ) → slice_get kindss r ≡ None → slice_get s.ranges r ≡ slice_get o.ranges r

-- a truth, and no fault
abbrev pub HasTruth : Result Truth ExprFault → Type 0
HasTruth r = (t : Truth) × (r ≡ Ok t)

-- Whatever rows of these kinds are in the innermost ranges, none refuses the condition.
abbrev pub IsNeverRefused : Scope → List (List Kind) → Cond → Type 0
IsNeverRefused s kindss c = (o : Scope) → SameOutside kindss s o → RangesSuit kindss o.ranges → HasTruth (truth o c)

-- ---- what is asked

-- a column's value compares as equal to this one
abbrev pub IsEqualAt : List Value → ℕ → Value → Type 0
IsEqualAt row column v = (w : Value) × (column_of (Some row) column ≡ Ok w) × (order w v ≡ Some cmp.Equal)

-- A row that makes the condition true and has what was asked for has what is asked for now.
abbrev pub AsksMore : (List Value → Result Truth ExprFault) → List Value → List Value → Type 0
AsksMore f asked more = (row : List Value) → AreTexts row → f row ≡ Ok True → has_all asked row ≡ true → has_all more row ≡ true

-- No row makes the condition true.
abbrev pub IsNeverTrue : (List Value → Result Truth ExprFault) → Type 0
IsNeverTrue f = (row : List Value) → f row ≡ Ok True → ⊥
