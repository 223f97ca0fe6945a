-- This file defines scopes: what the columns, row variables and tables of an expression mean where it is evaluated.
use Rattle.std.specs.Prelude.{ℕ, ◌^◌, ◌<◌, List, [], ◌∷◌, map, filter, filter_map, ◌==◌, Option, Some, None, if◌then◌else◌, nat_lt}
use Rattle.iv_expr.specs.Types.{Value, Change, StoredRow, Side, Range}
use Rattle.iv_expr.specs.Types.side.{Old, New}
use Rattle.iv_expr.specs.Types.range.{Table, Transition}

-- The row numbers rise, from above `low`, and are less than 2 ^ 63.
abbrev pub Rises : ℕ → List StoredRow → Type 0
Rises low [] = Unit {0}
Rises low (r ∷ rs) = (low < r.number) × (r.number < 2 ^ 63) × Rises r.number rs

-- The rows of a table.
abbrev pub table_rows : List StoredRow → ℕ → List StoredRow
table_rows rows t = filter (λ r. r.table == t) rows

-- Of rows by rising number, the first one above a number.
abbrev pub row_above : ℕ → List StoredRow → Option StoredRow
row_above n [] = None
row_above n (r ∷ rs) = if nat_lt n r.number then Some r else row_above n rs

-- A row's number and its values.
abbrev pub numbered : StoredRow → ℕ × List Value
numbered r = (r.number, r.values)

-- The values of each row.
abbrev pub contents : List StoredRow → List (List Value)
contents rows = map (λ r. r.values) rows

-- What the body of a trigger sees: the row variables OLD and NEW, if they are there, and the changes of its transition tables (ISO/IEC
-- 9075-2:1999, "Execution of triggers").
pub record Frame : Type 0 where
  pub old : Option (List Value)
  pub new : Option (List Value)
  pub transition : List Change

-- Outside triggers there is none of these.
abbrev pub no_frame : Frame
no_frame = record { old = None; new = None; transition = [] }

-- What names mean: the current rows of the ranges, the innermost first; what a trigger's body sees; and the rows of all
-- tables, by rising number.
pub record Scope : Type 0 where
  pub ranges : List (List Value)
  pub frame : Frame
  pub rows : List StoredRow

-- The scope of a statement, outside of all ranges.
abbrev pub scope_of : Frame → List StoredRow → Scope
scope_of frame rows = record { ranges = []; frame = frame; rows = rows }

-- A row by itself, as a CHECK sees it.
abbrev pub alone : List Value → Scope
alone row = record { ranges = row ∷ []; frame = no_frame; rows = [] }

-- The scope with one more range inside, at its current row.
abbrev pub within : Scope → List Value → Scope
within s row = record { ranges = row ∷ s.ranges; frame = s.frame; rows = s.rows }

-- One side of a change.
abbrev pub side_of : Side → Change → Option (List Value)
side_of Old change = change.old
side_of New change = change.new

-- A transition table: one side of the changes that have it, in their order.
abbrev pub transition_rows : Side → List Change → List (List Value)
transition_rows side changes = filter_map (side_of side) changes

-- The rows of a range: those of a table by rising number, or of a transition table.
abbrev pub range_rows : Scope → Range → List (List Value)
range_rows s (Table t) = contents (table_rows s.rows t)
range_rows s (Transition side) = transition_rows side s.frame.transition

-- The row variable of a side.
abbrev pub variable_of : Scope → Side → Option (List Value)
variable_of s Old = s.frame.old
variable_of s New = s.frame.new
