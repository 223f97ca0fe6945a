-- A database within its bounds, and its rows after one of them is set.
use Rattle.std.specs.Prelude.{◌≡◌, ℕ, ◌+◌, ◌≤◌, ◌==◌, not, List, [], ◌∷◌, filter, max, Option, Some, None}
use Rattle.iv_value.specs.declared.value.Value.{Value}
use Rattle.iv_expr.specs.declared.row.StoredRow.{StoredRow}
use Rattle.iv_expr.specs.declared.row.Change.{Change}
use Rattle.iv_expr.specs.Changes.{wave_of}
use Rattle.iv_machine.specs.declared.database.Database.{Database}
use Rattle.iv_machine.specs.Bounds.{last_row_number, most_changes_in_a_transaction}
use Rattle.iv_machine.specs.Databases.{rows_with, database_after}
use Rattle.iv_machine.specs.Invariants.{Rising}

-- The numbers of the rows rise from 1 and stay below the next one, which is above the last number that a row may have at most by
-- one; and no more changes are counted than a transaction may have.
pub record InBounds (db : Database) : Type 0 where
  pub rising : Rising 0 db.rows db.next
  pub next : db.next ≤ last_row_number + 1
  pub count : db.count ≤ most_changes_in_a_transaction

-- the rows without that of this number
abbrev pub without_row : ℕ → List StoredRow → List StoredRow
without_row number rows = filter (λ r. not (number == r.number)) rows

-- the rows with these values for that of this number, or without it
abbrev pub set_row : ℕ → ℕ → Option (List Value) → List StoredRow → List StoredRow
set_row table number (Some values) rows = rows_with (record { table = table; number = number; values = values }) rows
set_row table number None rows = without_row number rows

-- A change of one row leaves the rows with that row set: the next number is above the change's, and one more change is counted.
abbrev pub OneChangeSetsARow : Type 0
OneChangeSetsARow =
    (db : Database) (c : Change) → InBounds db
    → record { rows = set_row c.table c.row c.new db.rows; next = max (c.row + 1) db.next; count = db.count + 1 } ≡ database_after db (wave_of (c ∷ []))
