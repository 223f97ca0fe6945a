-- Waves of row changes, and when changes are by rising row number.
use Rattle.std.specs.Prelude.{ℕ, ◌<◌, Bool, ◌&&◌, ◌==◌, List, [], ◌∷◌}
use Rattle.std.specs.List.{list_any}
use Rattle.iv_expr.specs.Types.{Change, TableColumn}

-- A wave: row changes that are made together, and the columns named by whatever caused it: the SET list of an UPDATE, and in a later wave
-- the referencing columns of the foreign keys whose actions set values.
pub record Wave : Type 0 where
  pub changes : List Change
  pub columns : List TableColumn

-- the wave of these changes, which names no column
abbrev pub wave_of : List Change → Wave
wave_of changes = record { changes = changes; columns = [] }

-- the column of a table is among these
abbrev pub names_column : List TableColumn → ℕ → ℕ → Bool
names_column columns table column = list_any (λ c. (c.table == table) && (c.column == column)) columns

-- The row numbers rise, from above `low`.
abbrev pub RisingChangesFrom : ℕ → List Change → Type 0
RisingChangesFrom low [] = Unit {0}
RisingChangesFrom low (change ∷ changes) = (low < change.row) × RisingChangesFrom change.row changes

-- The changes are of different rows, by rising number from 1.
abbrev pub RisingChanges : List Change → Type 0
RisingChanges changes = RisingChangesFrom 0 changes

-- The row number of the last change, or `low` if there is none.
abbrev pub last_above : ℕ → List Change → ℕ
last_above low [] = low
last_above low (change ∷ changes) = last_above change.row changes

-- The row number of the last change, or 0 if there is none.
abbrev pub last_row : List Change → ℕ
last_row changes = last_above 0 changes
