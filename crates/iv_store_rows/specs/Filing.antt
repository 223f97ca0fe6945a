-- The numbers under which the rows of each table are looked for. There may be more of them than rows.
use Rattle.std.specs.Prelude.{◌≡◌, ℕ, ◌≤◌, Bool, true, ◌||◌, if◌then◌else◌, ◌==◌, nat_lt, List, slice_get, Option, Some, None}
use Rattle.iv_value.specs.declared.value.Value.{Value}
use Rattle.iv_numbers.specs.Rows.{Rows, has_row, no_rows, put, removed, roomy}
use Rattle.iv_expr.specs.declared.row.StoredRow.{StoredRow}
use Rattle.iv_machine.specs.Databases.{row_at}
use Rattle.iv_store_rows.specs.declared.slot.Slot.{Slot}
use Rattle.iv_store_rows.specs.InSlots.{SlotsRise, live_rows}

-- ---- the numbers of one table, with their room

-- with room for this number, if it isn't among them
abbrev pub ready : ℕ → Rows → Rows
ready n held = if has_row n held.rows then held else roomy held

-- without this number, if it is among them: its place is room
abbrev pub dropped : ℕ → Rows → Rows
dropped n held = if has_row n held.rows then removed n held else held

-- after the row of this number is set to these values, or taken out
abbrev pub held_after : ℕ → Option (List Value) → Rows → Rows
held_after n (Some values) held = put n held
held_after n None held = dropped n held

-- this number can be put among them without an allocation
abbrev pub can_put : ℕ → Rows → Bool
can_put n held = has_row n held.rows || nat_lt 0 held.room

-- the same, if there are values of the row to put in
abbrev pub can_put_for : Option (List Value) → ℕ → Rows → Bool
can_put_for (Some values) n held = can_put n held
can_put_for None n held = true

-- ---- the numbers of all tables

-- those of a table
abbrev pub held_for : List Rows → ℕ → Rows
held_for numbers t = elim (slice_get numbers t) [ Some held ↦ held | None ↦ no_rows ]

-- a row of this table is looked for under this number
abbrev pub is_filed : List Rows → ℕ → ℕ → Bool
is_filed numbers t n = has_row n (held_for numbers t).rows

-- Those of one table became these, and the others stay.
pub record OneChanged (old new : List Rows) (t : ℕ) (held : Rows) : Type 0 where
  pub own : held_for new t ≡ held
  pub others : (u : ℕ) → (u ≡ t → ⊥) → held_for new u ≡ held_for old u

-- no table has less room
abbrev pub RoomStays : List Rows → List Rows → Type 0
RoomStays old new = (t : ℕ) → (held_for old t).room ≤ (held_for new t).room

-- each row is filed under its table and its number
abbrev pub Covers : List StoredRow → List Rows → Type 0
Covers rows numbers = (n : ℕ) (r : StoredRow) → row_at rows n ≡ Some r → is_filed numbers r.table n ≡ true

-- What holds of slots and the numbers that their rows are filed under.
pub record Files (slots : List Slot) (numbers : List Rows) : Type 0 where
  pub rises : SlotsRise 0 slots
  pub covers : Covers (live_rows slots) numbers

-- the slots, and for each table the numbers under which its rows are looked for
pub record Filed : Type 0 where
  pub slots : List Slot
  pub numbers : List Rows

-- ---- a look for a row under a number

-- a row, if it is one of the table
abbrev pub row_of : ℕ → Option StoredRow → Option StoredRow
row_of t None = None
row_of t (Some r) = if r.table == t then Some r else None
