-- Rising lists of row numbers.
use Rattle.std.specs.Prelude.{◌≡◌, ℕ, ◌<◌, ◌≤◌, ◌==◌, ◌+◌, ◌-◌, nat_lt, List, [], ◌∷◌, length, slice_index, insert, remove, Bool, true, false, ◌||◌, if◌then◌else◌, Option, Some, None, Result, MatchResult}

-- Each number is below those after it.
abbrev pub IsRising : List ℕ → Type 0
IsRising rows = (i j : ℕ) → i < j → j < length rows → slice_index rows i < slice_index rows j

-- Whether a number is among these.
abbrev pub has_row : ℕ → List ℕ → Bool
has_row row [] = false
has_row row (r ∷ rows) = (r == row) || has_row row rows

-- The first of these numbers that is above another.
abbrev pub number_above : ℕ → List ℕ → Option ℕ
number_above after [] = None
number_above after (r ∷ rows) = if nat_lt after r then Some r else number_above after rows

-- Rising numbers with one more in its place.
abbrev pub with_row : ℕ → List ℕ → List ℕ
with_row row [] = row ∷ []
with_row row (r ∷ rows) = if nat_lt row r then row ∷ r ∷ rows else r ∷ with_row row rows

-- Rising numbers without one of them.
abbrev pub without_row : ℕ → List ℕ → List ℕ
without_row row [] = []
without_row row (r ∷ rows) = if r == row then rows else r ∷ without_row row rows

-- The rows of a key, in rising order, and its room: how many more it takes without an allocation.
pub record Rows : Type 0 where
  pub rows : List ℕ
  pub room : ℕ

-- No rows, and no room.
abbrev pub no_rows : Rows
no_rows = record { rows = []; room = 0 }

-- With one row more, which takes one of the room if there is some.
abbrev pub added : ℕ → Rows → Rows
added row held = record { rows = with_row row held.rows; room = held.room - 1 }

-- With one row less, whose place is kept as room.
abbrev pub removed : ℕ → Rows → Rows
removed row held = record { rows = without_row row held.rows; room = held.room + 1 }

-- With this row, if it isn't among them yet.
abbrev pub put : ℕ → Rows → Rows
put row held = if has_row row held.rows then held else added row held

-- With room for one row at least.
abbrev pub roomy : Rows → Rows
roomy held = if held.room == 0 then record { rows = held.rows; room = 1 } else held

-- What a search for a number among rising ones tells: its place, or the place where it would be inserted.
abbrev pub Found : List ℕ → ℕ → Result ℕ ℕ → Type 0
Found rows row said = MatchResult said
    (λ at. (has_row row rows ≡ true) × (at < length rows) × (remove rows at ≡ without_row row rows))
    (λ at. (has_row row rows ≡ false) × (at ≤ length rows) × (insert rows at row ≡ with_row row rows))
