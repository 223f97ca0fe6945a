-- Rows in slots: the slot of a row that was taken out stays, with its number and its values.
use Rattle.std.specs.Prelude.{ℕ, Bool, true, false, if◌then◌else◌, ◌==◌, List, [], ◌∷◌, map, filter, Option, Some, None}
use Rattle.iv_value.specs.declared.value.Value.{Value}
use Rattle.iv_expr.specs.declared.row.StoredRow.{StoredRow}
use Rattle.iv_store_rows.specs.declared.slot.Slot.{Slot}
use Rattle.iv_store_rows.specs.ByNumber.{RiseBy, with_item, has_number}

-- the number of a slot is that of its row
abbrev pub slot_number : Slot → ℕ
slot_number s = s.row.number

-- the numbers of the slots rise, from above this one
abbrev pub SlotsRise : ℕ → List Slot → Type 0
SlotsRise low slots = RiseBy slot_number low slots

-- the rows that are there
abbrev pub live_rows : List Slot → List StoredRow
live_rows [] = []
live_rows (s ∷ slots) = if s.is_live then s.row ∷ live_rows slots else live_rows slots

-- the slots with this row in that of its number, or in a new one
abbrev pub slots_with : StoredRow → List Slot → List Slot
slots_with row slots = with_item slot_number (record { row = row; is_live = true }) slots

-- a slot whose row is taken out if it has this number
abbrev pub emptied : ℕ → Slot → Slot
emptied n s = if s.row.number == n then record { row = s.row; is_live = false } else s

-- the slots, of which that of this number holds no row that is there
abbrev pub slots_without : ℕ → List Slot → List Slot
slots_without n slots = map (emptied n) slots

-- the slots with these values for the row of this number, or without it
abbrev pub slots_after : ℕ → ℕ → Option (List Value) → List Slot → List Slot
slots_after table number (Some values) slots = slots_with (record { table = table; number = number; values = values }) slots
slots_after table number None slots = slots_without number slots

-- the slots whose rows are there
abbrev pub swept : List Slot → List Slot
swept slots = filter (λ s. s.is_live) slots

-- a number has a slot
abbrev pub has_slot : List Slot → ℕ → Bool
has_slot slots n = has_number slot_number slots n

-- a number has a slot, if there are values to put into it
abbrev pub has_slot_for : Option (List Value) → List Slot → ℕ → Bool
has_slot_for (Some values) slots n = has_slot slots n
has_slot_for None slots n = true
