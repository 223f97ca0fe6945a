-- What one wave does to rows, and how waves are settled one after another.
use Rattle.std.specs.Prelude.{◌≡◌, ℕ, ◌==◌, List, find, Option, Some, None}
use Rattle.iv_laws_levels.specs.Types.{StoredRow, Database}
use Rattle.iv_expr.specs.Changes.{Wave}
use Rattle.iv_machine.specs.Databases.{row_at, new_row, database_after}
use Rattle.iv_machine.specs.Context.{Context}
use Rattle.iv_machine.specs.Waves.{settled_by, settled_waves}
use Rattle.iv_laws_levels.specs.RisingRows.{InOrder}
use Rattle.iv_laws_levels.specs.Reorderings.{Distinct}

-- The row of a number after a wave: what its change leaves, or if it has none the row that there was before the wave.
abbrev pub row_after : Wave → List StoredRow → ℕ → Option StoredRow
row_after wave rows number = elim (find (λ c. c.row == number) wave.changes) [ Some c ↦ new_row c | None ↦ row_at rows number ]

abbrev pub RowsAfterAWave : Type 0
RowsAfterAWave =
    (db : Database) (wave : Wave) (number : ℕ)
    → Distinct wave.changes
    → row_at (database_after db wave).rows number ≡ row_after wave db.rows number

-- After a wave rows are in rising number.
abbrev pub RowsAfterAreInOrder : Type 0
RowsAfterAreInOrder = (db : Database) (wave : Wave) → InOrder (database_after db wave).rows

-- The waves of a data statement, without a bound on their number: an empty wave ends; another is applied, and the rest is settled
-- with what it leaves of the budget.
abbrev pub WavesAreSettledOneByOne : Type 0
WavesAreSettledOneByOne =
    (context : Context) (db : Database) (budget : ℕ) (wave : Wave)
    → settled_waves context db budget wave ≡ settled_by (settled_waves context) context db budget wave
