-- Which rows a DELETE takes away, if foreign keys delete, restrict or do nothing on delete.
use Rattle.std.specs.Prelude.{◌≡◌, ℕ, Bool, true, false, ◌&&◌, not, ◌==◌, List, Some, None, Ok}
use Rattle.std.specs.List.{list_any, list_all}
use Rattle.iv_laws_levels.specs.Types.{StoredRow, Cond, ReferentialAction, Constraint, ForeignKey, Database}
use Rattle.iv_laws_levels.specs.Types.referential_action as action
use Rattle.iv_laws_levels.specs.Types.data_statement.{Delete}
use Rattle.iv_expr.specs.Changes.{Wave}
use Rattle.iv_expr.specs.Scopes.{Frame}
use Rattle.iv_key.specs.Keys.{key_of, holds_key}
use Rattle.iv_machine.specs.Databases.{row_at, has_change}
use Rattle.iv_machine.specs.Context.{Context}
use Rattle.iv_machine.specs.Proposals.{proposed_wave}
use Rattle.iv_machine.specs.ReferentialActions.{references}
use Rattle.iv_machine.specs.Waves.{SettledWaves, settled_waves}
use Rattle.iv_laws_levels.specs.FittingWaves.{Numbered}

-- ---- the actions

abbrev pub is_cascade : ReferentialAction → Bool
is_cascade action.Cascade = true
is_cascade _ = false

-- SET NULL or SET DEFAULT
abbrev pub sets_columns : ReferentialAction → Bool
sets_columns action.SetNull = true
sets_columns action.SetDefault = true
sets_columns _ = false

-- no foreign key has SET NULL or SET DEFAULT on delete
abbrev pub no_column_is_set : List Constraint → Bool
no_column_is_set constraints = list_all (λ k. not (sets_columns k.key.on_delete)) (references constraints)

-- ---- the set

-- a row holds the key of another by this foreign key, which has ON DELETE CASCADE
abbrev pub cascades_by : ForeignKey → StoredRow → StoredRow → Bool
cascades_by fk row other = is_cascade fk.on_delete && ((other.table == fk.referenced) && holds_key fk.columns (key_of fk.key other.values) row.values)

-- a row holds the key of another by some such foreign key of its table
abbrev pub follows : List Constraint → StoredRow → StoredRow → Bool
follows constraints row other = list_any (λ k. (k.table == row.table) && cascades_by k.key row other) (references constraints)

-- The least set of these rows that has those of a wave, and each row that by a foreign key with ON DELETE CASCADE holds the key
-- of a row of the set.
pub data Taken (constraints : List Constraint) (rows : List StoredRow) (wave : Wave) : StoredRow → Type 0 where
  candidate : (row : StoredRow) → row_at rows row.number ≡ Some row → has_change wave.changes row.number ≡ true → Taken constraints rows wave row
  referring : (row other : StoredRow) → row_at rows row.number ≡ Some row → follows constraints row other ≡ true
      → Taken constraints rows wave other → Taken constraints rows wave row

-- ---- what a DELETE takes away

-- the waves of a DELETE, with what it proposes, are accepted and lead to a last database
abbrev pub Deletes : Context → ℕ → Cond → Frame → Database → ℕ → Wave → SettledWaves → Type 0
Deletes context table filter frame db budget wave settled =
    Numbered db
    × (no_column_is_set context.schema.constraints ≡ true)
    × (proposed_wave context db frame (Delete table filter) ≡ Ok wave)
    × (settled_waves context db budget wave ≡ Ok settled)

-- Each row of the set is gone.
abbrev pub TakenRowsAreGone : Type 0
TakenRowsAreGone =
    (context : Context) (table : ℕ) (filter : Cond) (frame : Frame) (db : Database) (budget : ℕ) (wave : Wave) (settled : SettledWaves)
    → Deletes context table filter frame db budget wave settled
    → (row : StoredRow) → Taken context.schema.constraints db.rows wave row → row_at settled.last.rows row.number ≡ None

-- No row that is gone is outside the set.
abbrev pub GoneRowsAreTaken : Type 0
GoneRowsAreTaken =
    (context : Context) (table : ℕ) (filter : Cond) (frame : Frame) (db : Database) (budget : ℕ) (wave : Wave) (settled : SettledWaves)
    → Deletes context table filter frame db budget wave settled
    → (row : StoredRow) → row_at db.rows row.number ≡ Some row → row_at settled.last.rows row.number ≡ None → Taken context.schema.constraints db.rows wave row

-- Each row that is there was there, with the same values.
abbrev pub OtherRowsStay : Type 0
OtherRowsStay =
    (context : Context) (table : ℕ) (filter : Cond) (frame : Frame) (db : Database) (budget : ℕ) (wave : Wave) (settled : SettledWaves)
    → Deletes context table filter frame db budget wave settled
    → (row : StoredRow) → row_at settled.last.rows row.number ≡ Some row → row_at db.rows row.number ≡ Some row
