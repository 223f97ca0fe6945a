-- Waves that fit the databases that they are applied to: what a law of one wave asks, levels keep.
use Rattle.std.specs.Prelude.{◌≡◌, ℕ, ◌≤◌, List, [], ◌∷◌, Option, Some, None, Ok}
use Rattle.iv_laws_levels.specs.Types.{StoredRow, Change, DataStatement, Database}
use Rattle.iv_expr.specs.Changes.{Wave, RisingChanges}
use Rattle.iv_expr.specs.Scopes.{Frame}
use Rattle.iv_machine.specs.Databases.{no_rows, row_at, database_after}
use Rattle.iv_machine.specs.Context.{Context}
use Rattle.iv_machine.specs.Invariants.{Rising}
use Rattle.iv_machine.specs.Proposals.{proposed_wave}
use Rattle.iv_machine.specs.Waves.{SettledWaves, settled_waves}
use Rattle.iv_machine.specs.Levels.{Finished, nested_level, level}

-- the row that a change takes away, if it is no insertion
abbrev pub old_row : Change → Option StoredRow
old_row c = elim c.old [ Some values ↦ Some (record { table = c.table; number = c.row; values = values }) | None ↦ None ]

-- the old values of each change are what its row holds; of an insertion, there is no such row
abbrev pub Current : List StoredRow → List Change → Type 0
Current rows [] = Unit {0}
Current rows (c ∷ changes) = (row_at rows c.row ≡ old_row c) × Current rows changes

-- the rows that the changes add have numbers from this one on
abbrev pub NumbersFrom : ℕ → List Change → Type 0
NumbersFrom next [] = Unit {0}
NumbersFrom next (c ∷ changes) = (c.old ≡ None → next ≤ c.row) × NumbersFrom next changes

-- the numbers of the rows rise, from above 0, and stay below the next one
abbrev pub Numbered : Database → Type 0
Numbered db = Rising 0 db.rows db.next

-- A wave that fits a database: it is by rising row number, its old values are what the rows hold, and its new rows have numbers
-- that no row had before.
pub record FitsDatabase (db : Database) (wave : Wave) : Type 0 where
  pub rising : RisingChanges wave.changes
  pub current : Current db.rows wave.changes
  pub new : NumbersFrom db.next wave.changes

-- Waves that are a chain from a database to a last one: each is applied to a numbered database, which it fits.
abbrev pub Chain : Database → List Wave → Database → Type 0
Chain db [] last = Numbered db × (db ≡ last)
Chain db (wave ∷ waves) last = Numbered db × FitsDatabase db wave × Chain (database_after db wave) waves last

-- The waves of a data statement, as they are applied after the numbering of new rows and after the BEFORE row triggers, are a
-- chain from its database to the last one.
abbrev pub WavesAreAChain : Type 0
WavesAreAChain =
    (context : Context) (statement : DataStatement) (frame : Frame) (db : Database) (budget : ℕ) (wave : Wave) (s : SettledWaves)
    → Numbered db → proposed_wave context db frame statement ≡ Ok wave → settled_waves context db budget wave ≡ Ok s
    → Chain db s.waves s.last

-- A data statement of a script leaves a numbered database.
abbrev pub LevelsKeepNumbers : Type 0
LevelsKeepNumbers =
    (deeper : ℕ) (context : Context) (statement : DataStatement) (frame : Frame) (db : Database) (budget : ℕ) (done : Finished)
    → Numbered db → level deeper context statement frame db budget ≡ Ok done
    → Numbered done.database

-- A data statement of a trigger's body leaves a numbered database.
abbrev pub NestedLevelsKeepNumbers : Type 0
NestedLevelsKeepNumbers =
    (depth : ℕ) (context : Context) (trigger : ℕ) (statement : DataStatement) (frame : Frame) (db : Database) (budget : ℕ)
    (done : Finished)
    → Numbered db → nested_level depth context trigger statement frame db budget ≡ Ok done
    → Numbered done.database

-- The database of no row is numbered.
abbrev pub NoRowsAreNumbered : Type 0
NoRowsAreNumbered = Numbered no_rows
