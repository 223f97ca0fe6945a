-- Searches: which rows of a table a search may leave out, and what a store tells for it.
use Rattle.std.specs.Prelude.{◌≡◌, ℕ, Bool, true, false, ◌&&◌, ◌||◌, ◌==◌, List, [], ◌∷◌, map, filter, Result, Ok}
use Rattle.std.specs.List.{list_any}
use Rattle.std.specs.Str.{IsUtf8}
use Rattle.iv_value.specs.Truths.{is_true}
use Rattle.iv_value.specs.Values.{is_null, is_same}
use Rattle.iv_key.specs.Keys.{key_of}
use Rattle.iv_expr.specs.Types.{Value, Truth, Kind, StoredRow, ExprFault}
use Rattle.iv_expr.specs.Types.value.{Text}
use Rattle.iv_expr.specs.Suiting.{row_suits}

-- ---- what a store knows of its rows

-- the bytes of a text are in UTF-8
abbrev pub IsText : Value → Type 0
IsText (Text t) = IsUtf8 t
IsText v = Unit {0}

abbrev pub AreTexts : List Value → Type 0
AreTexts [] = Unit {0}
AreTexts (v ∷ row) = IsText v × AreTexts row

-- A row of these kinds, whose texts are in UTF-8.
abbrev pub Fits : List Kind → List Value → Type 0
Fits kinds row = (row_suits kinds row ≡ true) × AreTexts row

-- Each of these rows is of the kinds, and its texts are in UTF-8.
abbrev pub AllFit : List Kind → List StoredRow → Type 0
AllFit kinds [] = Unit {0}
AllFit kinds (r ∷ rows) = Fits kinds r.values × AllFit kinds rows

-- ---- rows that are asked for

-- A row has these values, column by column; if null is asked for, it may have any.
abbrev pub has_all : List Value → List Value → Bool
has_all [] row = true
has_all (a ∷ asked) [] = is_null a && has_all asked []
has_all (a ∷ asked) (v ∷ row) = (is_null a || is_same a v) && has_all asked row

abbrev pub numbers_of : List StoredRow → List ℕ
numbers_of rows = map (λ r. r.number) rows

-- Numbers of rows among which are all rows that have something: the numbers of those that pass some test, which each row that has it
-- passes.
abbrev pub AreAmong : (List Value → Type 0) → List StoredRow → List ℕ → Type 0
AreAmong Has rows numbers =
    (p : List Value → Bool) × (numbers ≡ numbers_of (filter (λ r. p r.values) rows)) × ((row : List Value) → Has row → p row ≡ true)

-- The rows have the values that are asked for.
abbrev pub AreHolders : List Value → List StoredRow → List ℕ → Type 0
AreHolders asked rows numbers = AreAmong (λ row. has_all asked row ≡ true) rows numbers

-- The rows have a row's values in these columns, if a null is a value like any other.
abbrev pub AreSharing : List ℕ → List Value → List StoredRow → List ℕ → Type 0
AreSharing columns row rows numbers = AreAmong (λ other. key_of columns other ≡ key_of columns row) rows numbers

-- ---- rows that are left out

-- A truth that isn't true.
abbrev pub IsNotTrue : Result Truth ExprFault → Type 0
IsNotTrue r = (t : Truth) × (r ≡ Ok t) × (is_true t ≡ false)

-- At each of the rows that fail the test, the condition has a truth that isn't true.
abbrev pub NotTrueWhere : (List Value → Result Truth ExprFault) → (StoredRow → Bool) → List StoredRow → Type 0
NotTrueWhere f p [] = Unit {0}
NotTrueWhere f p (r ∷ rows) = (p r ≡ false → IsNotTrue (f r.values)) × NotTrueWhere f p rows

-- Rows with some left out, at each of which the condition has a truth that isn't true: none is refused, and none is found.
abbrev pub LeavesOut : (List Value → Result Truth ExprFault) → List StoredRow → List StoredRow → Type 0
LeavesOut f rows found = (p : StoredRow → Bool) × (found ≡ filter p rows) × NotTrueWhere f p rows

-- Whether a number is one of these.
abbrev pub is_among : List ℕ → ℕ → Bool
is_among numbers n = list_any (λ m. m == n) numbers

-- Of some rows, those with these numbers.
abbrev pub rows_among : List ℕ → List StoredRow → List StoredRow
rows_among numbers rows = filter (λ r. is_among numbers r.number) rows
