-- This file defines when a tree suits a scope: only by the kinds of the columns, as they are known before any row is.
use Rattle.std.specs.Prelude.{◌≡◌, ℕ, Bool, true, false, ◌&&◌, List, [], ◌∷◌, Option, Some, None, is_some, option_map, slice_get}
use Rattle.iv_expr.specs.Types.{Value, Kind, Side, Range, Expr, Cond}
use Rattle.iv_expr.specs.Types.value.{Null, Int, Text}
use Rattle.iv_expr.specs.Types.kind.{Integer, Varchar}
use Rattle.iv_expr.specs.Types.side.{Old, New}
use Rattle.iv_expr.specs.Types.range.{Table, Transition}
use Rattle.iv_expr.specs.Types.expr.{Literal, Column, Variable}
use Rattle.iv_expr.specs.Types.cond.{Always, Compare, IsNull}
use Rattle.iv_expr.specs.Trees.{plus, minus, times, not_c, and_c, or_c, exists_c}
use Rattle.iv_expr.specs.Scopes.{Scope, contents, table_rows, transition_rows}

-- What values an expression can have: only null, numbers and null, or texts and null.
pub data Sort : Type 0 where
  nulls : Sort
  numbers : Sort
  texts : Sort

-- A value is of a sort if it is null or of the one kind that the sort has.
abbrev pub of_sort : Sort → Value → Bool
of_sort sort Null = true
of_sort numbers (Int a) = true
of_sort texts (Text t) = true
of_sort _ _ = false

-- The sort of a column's values, and of a value's own.
abbrev pub sort_of_kind : Kind → Sort
sort_of_kind Integer = numbers
sort_of_kind (Varchar n) = texts

abbrev pub sort_of_value : Value → Sort
sort_of_value Null = nulls
sort_of_value (Int a) = numbers
sort_of_value (Text t) = texts

-- The kinds of all columns in reach: of the ranges, the innermost first; of the row variables, if they are there; of the transition tables;
-- and of each table.
pub record Shape : Type 0 where
  pub ranges : List (List Kind)
  pub old : Option (List Kind)
  pub new : Option (List Kind)
  pub transition : List Kind
  pub tables : ℕ → List Kind

-- The shape with one more range inside.
abbrev pub shape_within : Shape → List Kind → Shape
shape_within shape kinds = record { ranges = kinds ∷ shape.ranges; old = shape.old; new = shape.new; transition = shape.transition; tables = shape.tables }

-- The kinds of a range's columns.
abbrev pub range_kinds : Shape → Range → List Kind
range_kinds shape (Table t) = shape.tables t
range_kinds shape (Transition side) = shape.transition

-- The kinds of a row variable's columns.
abbrev pub variable_kinds : Shape → Side → Option (List Kind)
variable_kinds shape Old = shape.old
variable_kinds shape New = shape.new

-- The sort of a column by its place; nothing if there is none.
abbrev pub column_sort : Option (List Kind) → ℕ → Option Sort
column_sort None c = None
column_sort (Some kinds) c = option_map sort_of_kind (slice_get kinds c)

-- Arithmetic is of numbers and nulls, and has the sort of numbers.
abbrev pub arithmetic_sort : Option Sort → Option Sort → Option Sort
arithmetic_sort (Some numbers) (Some numbers) = Some numbers
arithmetic_sort (Some numbers) (Some nulls) = Some numbers
arithmetic_sort (Some nulls) (Some numbers) = Some numbers
arithmetic_sort (Some nulls) (Some nulls) = Some numbers
arithmetic_sort _ _ = None

-- The sort of an expression's values; nothing if it doesn't suit the shape.
abbrev pub sort_of : Shape → Expr → Option Sort
sort_of shape (Literal v) = Some (sort_of_value v)
sort_of shape (Column range c) = column_sort (slice_get shape.ranges range) c
sort_of shape (Variable side c) = column_sort (variable_kinds shape side) c
sort_of shape (plus a b) = arithmetic_sort (sort_of shape a) (sort_of shape b)
sort_of shape (minus a b) = arithmetic_sort (sort_of shape a) (sort_of shape b)
sort_of shape (times a b) = arithmetic_sort (sort_of shape a) (sort_of shape b)

-- Numbers are compared with numbers and texts with texts; nulls with all.
abbrev pub comparable : Option Sort → Option Sort → Bool
comparable (Some numbers) (Some numbers) = true
comparable (Some numbers) (Some nulls) = true
comparable (Some texts) (Some texts) = true
comparable (Some texts) (Some nulls) = true
comparable (Some nulls) (Some sort) = true
comparable _ _ = false

-- Whether a condition suits a shape.
abbrev pub suits : Shape → Cond → Bool
suits shape Always = true
suits shape (Compare op a b) = comparable (sort_of shape a) (sort_of shape b)
suits shape (IsNull a) = is_some (sort_of shape a)
suits shape (not_c a) = suits shape a
suits shape (and_c a b) = suits shape a && suits shape b
suits shape (or_c a b) = suits shape a && suits shape b
suits shape (exists_c range a) = suits (shape_within shape (range_kinds shape range)) a

-- A row is of these kinds if it has as many values, each of its column's sort.
abbrev pub row_suits : List Kind → List Value → Bool
row_suits [] [] = true
row_suits (kind ∷ kinds) (v ∷ vs) = of_sort (sort_of_kind kind) v && row_suits kinds vs
row_suits _ _ = false

-- Each of the rows is of these kinds.
abbrev pub AllSuit : List Kind → List (List Value) → Type 0
AllSuit kinds [] = Unit {0}
AllSuit kinds (row ∷ rows) = (row_suits kinds row ≡ true) × AllSuit kinds rows

-- A row is there and of these kinds, if a shape has one.
abbrev pub VariableSuits : Option (List Kind) → Option (List Value) → Type 0
VariableSuits None row = Unit {0}
VariableSuits (Some kinds) None = ⊥
VariableSuits (Some kinds) (Some row) = row_suits kinds row ≡ true

-- The ranges that a shape has are there, each at a row of its kinds.
abbrev pub RangesSuit : List (List Kind) → List (List Value) → Type 0
RangesSuit [] rows = Unit {0}
RangesSuit (kinds ∷ more) [] = ⊥
RangesSuit (kinds ∷ more) (row ∷ rows) = (row_suits kinds row ≡ true) × RangesSuit more rows

-- All that a scope holds is of the kinds of a shape.
pub record HasShape (s : Scope) (shape : Shape) : Type 0 where
  pub ranges : RangesSuit shape.ranges s.ranges
  pub old : VariableSuits shape.old s.frame.old
  pub new : VariableSuits shape.new s.frame.new
  pub transition : (side : Side) → AllSuit shape.transition (transition_rows side s.frame.transition)
  pub tables : (t : ℕ) → AllSuit (shape.tables t) (contents (table_rows s.rows t))

-- An expression suits a scope if it suits a shape that the scope has.
abbrev pub SuitsExpr : Scope → Expr → Type 0
SuitsExpr s e = (shape : Shape) × HasShape s shape × (is_some (sort_of shape e) ≡ true)

-- A condition suits a scope if it suits a shape that the scope has.
abbrev pub Suits : Scope → Cond → Type 0
Suits s c = (shape : Shape) × HasShape s shape × (suits shape c ≡ true)
