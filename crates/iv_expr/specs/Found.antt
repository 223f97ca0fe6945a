-- The rows that a search goes through: all of a table, or those of some numbers.
use Rattle.std.specs.Prelude.{◌≡◌, ℕ, List, Option, Some, None, Result}
use Rattle.iv_expr.specs.Types.{Value, Truth, StoredRow, ExprFault}
use Rattle.iv_expr.specs.Searches.{LeavesOut, numbers_of, rows_among}

-- the rows of these numbers, or all
abbrev pub searched : Option (List ℕ) → List StoredRow → List StoredRow
searched None rows = rows
searched (Some numbers) rows = rows_among numbers rows

-- each number is that of one of the rows, in their order
abbrev pub AreThere : Option (List ℕ) → List StoredRow → Type 0
AreThere None rows = Unit {0}
AreThere (Some numbers) rows = numbers ≡ numbers_of (rows_among numbers rows)

-- Among the rows of these numbers are all that a search may find.
abbrev pub LeadsTo : (List Value → Result Truth ExprFault) → List StoredRow → List ℕ → Type 0
LeadsTo f rows numbers = (numbers ≡ numbers_of (rows_among numbers rows)) × LeavesOut f rows (rows_among numbers rows)

abbrev pub LeadsToSome : (List Value → Result Truth ExprFault) → List StoredRow → Option (List ℕ) → Type 0
LeadsToSome f rows None = Unit {0}
LeadsToSome f rows (Some numbers) = LeadsTo f rows numbers
