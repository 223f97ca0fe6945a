-- The net changes of a chain of waves follow from only the waves.
use Rattle.std.specs.Prelude.{◌≡◌, ℕ, ◌==◌, List, [], ◌∷◌, find, Option, Some, None}
use Rattle.iv_laws_levels.specs.Types.{StoredRow, Database}
use Rattle.iv_expr.specs.Changes.{Wave}
use Rattle.iv_machine.specs.Databases.{row_at, new_row}
use Rattle.iv_machine.specs.Waves.{net_wave}
use Rattle.iv_laws_levels.specs.FittingWaves.{old_row, Chain}

-- The row of a number before waves: what the first change of it took away, or if they have none the row that is there after them.
abbrev pub row_before_waves : List Wave → List StoredRow → ℕ → Option StoredRow
row_before_waves [] later number = row_at later number
row_before_waves (wave ∷ waves) later number =
    elim (find (λ c. c.row == number) wave.changes) [ Some c ↦ old_row c | None ↦ row_before_waves waves later number ]

abbrev pub RowsBeforeWaves : Type 0
RowsBeforeWaves =
    (db last : Database) (waves : List Wave) (number : ℕ)
    → Chain db waves last
    → row_at db.rows number ≡ row_before_waves waves last.rows number

-- The row of a number after waves: what the last change of it left, or if they have none the row that was there before them.
abbrev pub row_after_waves : List Wave → ℕ → Option StoredRow → Option StoredRow
row_after_waves [] number before = before
row_after_waves (wave ∷ waves) number before =
    row_after_waves waves number (elim (find (λ c. c.row == number) wave.changes) [ Some c ↦ new_row c | None ↦ before ])

abbrev pub RowsAfterWaves : Type 0
RowsAfterWaves =
    (db last : Database) (waves : List Wave) (number : ℕ)
    → Chain db waves last
    → row_at last.rows number ≡ row_after_waves waves number (row_at db.rows number)

-- The net changes are a function of the waves: if the same waves lead from one database to a last one, and from another to another, the net
-- changes are the same.
abbrev pub NetChangesFollowFromTheWaves : Type 0
NetChangesFollowFromTheWaves =
    (db last other ending : Database) (waves : List Wave)
    → Chain db waves last → Chain other waves ending
    → net_wave db.rows last.rows waves ≡ net_wave other.rows ending.rows waves
