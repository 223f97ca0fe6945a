-- Rows as cells, and which rows are copied to buffers of cells and of bytes.
use Rattle.std.specs.Prelude.{◌≡◌, ℕ, suc, ◌-◌, List, [], ◌∷◌, length, map, nat_le, if◌then◌else◌, Option, Some, None, pos, set, take}
use Rattle.std.specs.List.{flat_map}
use Rattle.iv_value.specs.declared.value.Value.{Value}
use Rattle.iv_value.specs.declared.value.Value.TheVariants.{Null, Int, Text}
use Rattle.iv_shown.specs.declared.cell.Cell.{Cell}
use Rattle.iv_shown.specs.declared.row_buffers.TakenRows.{TakenRows}

-- ---- values

-- a value in numbers
abbrev pub cell_of : Value → Cell
cell_of Null = record { kind = 0; integer = pos 0; length = 0 }
cell_of (Int z) = record { kind = 1; integer = z; length = 0 }
cell_of (Text t) = record { kind = 2; integer = pos 0; length = length t }

-- the bytes of a text, none of any other value
abbrev pub text_of : Value → List ℕ
text_of Null = []
text_of (Int z) = []
text_of (Text t) = t

-- ---- rows

abbrev pub row_cells : List Value → List Cell
row_cells row = map cell_of row

-- the bytes of a row's texts, one after the other
abbrev pub row_text : List Value → List ℕ
row_text row = flat_map text_of row

-- how much room for bytes is left after these values, where it is enough
abbrev pub room_after : ℕ → List Value → Option ℕ
room_after room [] = Some room
room_after room (v ∷ vs) = if nat_le (length (text_of v)) room then room_after (room - length (text_of v)) vs else None

-- How many of the rows at the front have room, in so many cells and so many bytes.
abbrev pub fitting : ℕ → ℕ → List (List Value) → ℕ
fitting cells bytes [] = 0
fitting cells bytes (row ∷ rows) =
    if nat_le (length row) cells
    then elim (room_after bytes row) [ Some left ↦ suc (fitting (cells - length row) left rows) | None ↦ 0 ]
    else 0

-- ---- buffers

-- a list with these items from a place on
abbrev pub placed : {A : Type 0} → List A → ℕ → List A → List A
placed old at [] = old
placed old at (x ∷ xs) = placed (set old at x) (suc at) xs

-- As many of the rows as have room were copied, their cells and the bytes of their texts to the beginning of the buffers; what is behind
-- them there stays.
pub record AreCopied (rows : List (List Value)) (old_cells new_cells : List Cell) (old_texts new_texts : List ℕ) (taken : TakenRows) : Type 0 where
  pub rows_are : taken.rows ≡ fitting (length old_cells) (length old_texts) rows
  pub cells_are : new_cells ≡ placed old_cells 0 (flat_map row_cells (take taken.rows rows))
  pub texts_are : new_texts ≡ placed old_texts 0 (flat_map row_text (take taken.rows rows))
  pub bytes_are : taken.bytes ≡ length (flat_map row_text (take taken.rows rows))
