-- The rows that hold a key before a wave, from those that hold it after the wave and from the wave; and what follows from it for
-- lost keys, RESTRICT and the next wave.
use Rattle.std.specs.Prelude.{◌≡◌, ℕ, Bool, true, false, ◌&&◌, not, ◌==◌, List, ◌++◌, map, filter, filter_map, flat_map, find, Option, Some, None, is_some, Result, Ok}
use Rattle.std.specs.List.{list_any}
use Rattle.std.specs.Option.{option_map}
use Rattle.iv_laws_levels.specs.Types.{Value, StoredRow, Change, TableColumn, Fault, Constraint, ForeignKey, Database, Effect}
use Rattle.iv_laws_levels.specs.Types.cause.{Restrict, ActionConflict}
use Rattle.iv_value.specs.Values.{all_same}
use Rattle.iv_expr.specs.Changes.{Wave, RisingChanges}
use Rattle.iv_expr.specs.Scopes.{table_rows}
use Rattle.iv_catalogue.specs.Catalogues.{Schema}
use Rattle.iv_key.specs.Keys.{key_of, holds_key}
use Rattle.iv_machine.specs.Databases.{row_at, has_change, in_order, fault_at, database_after}
use Rattle.iv_machine.specs.Context.{Context, Failure, unless_first}
use Rattle.iv_machine.specs.ReferentialActions.{Reference, references, Loss, deleted, updated, LostKeys, lost_keys, lost_reference, is_restricted, restricted_rows, effects_on, change_by, sets_values, referencing_columns, next_wave, has_conflict, conflicts, following_wave}
use Rattle.iv_laws_levels.specs.RisingRows.{InOrder}
use Rattle.iv_laws_levels.specs.Reorderings.{Distinct}
use Rattle.iv_laws_levels.specs.FittingWaves.{old_row, Current}

-- ---- rows before a wave

-- the rows of a table that hold a key in some columns, in their order
abbrev pub holders : List StoredRow → ℕ → List ℕ → List Value → List StoredRow
holders rows table columns key = filter (λ r. holds_key columns key r.values) (table_rows rows table)

-- the rows that these changes update or delete, as they were
abbrev pub old_rows : List Change → List StoredRow
old_rows changes = filter_map old_row changes

-- none of these changes is of this row
abbrev pub is_outside : List Change → StoredRow → Bool
is_outside changes r = not (has_change changes r.number)

-- The rows that hold a key before a wave are those that hold it after the wave and that the wave doesn't change, and those of the
-- wave that held it.
abbrev pub HoldersBeforeAWave : Type 0
HoldersBeforeAWave =
    (db : Database) (wave : Wave) (table : ℕ) (columns : List ℕ) (key : List Value)
    → InOrder db.rows → Distinct wave.changes → Current db.rows wave.changes
    → holders db.rows table columns key
    ≡ in_order
    (filter (is_outside wave.changes) (holders (database_after db wave).rows table columns key)
    ++ holders (old_rows wave.changes) table columns key)

-- The row of a number before a wave: what its change took away, or if it has none the row that there is after the wave.
abbrev pub row_before : Wave → List StoredRow → ℕ → Option StoredRow
row_before wave later number = elim (find (λ c. c.row == number) wave.changes) [ Some c ↦ old_row c | None ↦ row_at later number ]

abbrev pub RowsBeforeAWave : Type 0
RowsBeforeAWave =
    (db : Database) (wave : Wave) (number : ℕ)
    → Current db.rows wave.changes
    → row_at db.rows number ≡ row_before wave (database_after db wave).rows number

-- ---- lost keys

-- the row is deleted, or has another key now
abbrev pub leaves_key : ForeignKey → List Value → Option (List Value) → Bool
leaves_key fk old None = true
leaves_key fk old (Some new) = not (all_same (key_of fk.key new) (key_of fk.key old))

abbrev pub loses_key_from : ForeignKey → List Value → Option (List Value) → Option (List Value) → Bool
loses_key_from fk key None new = false
loses_key_from fk key (Some old) new = holds_key fk.key key old && leaves_key fk old new

-- a change takes this referenced key away: its row held it, and is deleted or has another key now
abbrev pub loses_key : ForeignKey → List Value → Change → Bool
loses_key fk key c = (c.table == fk.referenced) && loses_key_from fk key c.old c.new

-- how a change takes a key away
abbrev pub loss_of_new : ForeignKey → Option (List Value) → Loss
loss_of_new fk None = deleted
loss_of_new fk (Some new) = updated (key_of fk.key new)

-- The keys that a wave took away: a key by the first change that did.
abbrev pub keys_lost_by : Wave → LostKeys
keys_lost_by wave fk key = option_map (λ c. loss_of_new fk c.new) (find (loses_key fk key) wave.changes)

-- Only the wave tells which keys were lost, and how.
abbrev pub KeysAreLostByTheWave : Type 0
KeysAreLostByTheWave =
    (db : Database) (wave : Wave) (fk : ForeignKey) (key : List Value)
    → InOrder db.rows → RisingChanges wave.changes → Current db.rows wave.changes
    → lost_keys db.rows (database_after db wave).rows fk key ≡ keys_lost_by wave fk key

-- ---- what follows

-- the rows that refer to a key which the wave took away under RESTRICT: those outside the wave, and those of the wave as they were
abbrev pub restricted_before : Wave → List StoredRow → Reference → List StoredRow
restricted_before wave later k =
    in_order
    (filter (is_outside wave.changes) (filter (is_restricted (keys_lost_by wave) k.key) (table_rows later k.table))
    ++ filter (is_restricted (keys_lost_by wave) k.key) (table_rows (old_rows wave.changes) k.table))

abbrev pub restricted_by : Wave → List Constraint → List StoredRow → List Fault
restricted_by wave constraints later = flat_map (λ k. map (fault_at k.id) (restricted_before wave later k)) (references constraints)

-- by a foreign key of its table, a row refers to one of these lost keys
abbrev pub refers_to_lost : List Constraint → LostKeys → StoredRow → Bool
refers_to_lost constraints lost r = list_any (λ k. (k.table == r.table) && is_some (lost_reference lost k.key r)) (references constraints)

-- the rows that refer, after the wave, to a key which the wave took away
abbrev pub lost_holders : Wave → Schema → List StoredRow → List StoredRow
lost_holders wave schema later = filter (refers_to_lost schema.constraints (keys_lost_by wave)) later

-- what foreign keys do to a row, as the wave and the row after it tell
abbrev pub effects_by : Wave → Schema → List StoredRow → StoredRow → List (ℕ × Effect)
effects_by wave schema later after = effects_on schema (keys_lost_by wave) (row_before wave later after.number) after

abbrev pub conflicts_by : Wave → Schema → List StoredRow → List Fault
conflicts_by wave schema later =
    flat_map
    (λ k. map (fault_at k.id) (filter (λ after. has_conflict k.id (effects_by wave schema later after)) (lost_holders wave schema later)))
    (references schema.constraints)

-- the columns of the foreign keys that set values of such rows
abbrev pub columns_set_by : Wave → Schema → List StoredRow → List TableColumn
columns_set_by wave schema later =
    flat_map referencing_columns
    (filter (λ k. list_any (λ after. sets_values k.id (effects_by wave schema later after)) (lost_holders wave schema later))
    (references schema.constraints))

abbrev pub next_wave_by : Wave → Schema → List StoredRow → Wave
next_wave_by wave schema later = record {
  changes = filter_map (λ after. change_by after (effects_by wave schema later after)) (lost_holders wave schema later);
  columns = columns_set_by wave schema later;
}

-- RESTRICT protects rows that, after the wave or by the wave's old values, hold a key which the wave took away.
abbrev pub RestrictedRowsFollow : Type 0
RestrictedRowsFollow =
    (db : Database) (wave : Wave) (constraints : List Constraint)
    → InOrder db.rows → RisingChanges wave.changes → Current db.rows wave.changes
    → restricted_rows (lost_keys db.rows (database_after db wave).rows) constraints db.rows
    ≡ restricted_by wave constraints (database_after db wave).rows

-- Foreign keys disagree on rows that hold, after the wave, a key which the wave took away.
abbrev pub ConflictsFollow : Type 0
ConflictsFollow =
    (db : Database) (wave : Wave) (schema : Schema)
    → InOrder db.rows → RisingChanges wave.changes → Current db.rows wave.changes
    → conflicts schema (lost_keys db.rows (database_after db wave).rows) db.rows (database_after db wave).rows
    ≡ conflicts_by wave schema (database_after db wave).rows

-- The next wave is of rows that hold, after the wave, a key which the wave took away.
abbrev pub NextWavesFollow : Type 0
NextWavesFollow =
    (db : Database) (wave : Wave) (schema : Schema)
    → InOrder db.rows → RisingChanges wave.changes → Current db.rows wave.changes
    → next_wave schema (lost_keys db.rows (database_after db wave).rows) db.rows (database_after db wave).rows
    ≡ next_wave_by wave schema (database_after db wave).rows

-- What follows a wave is a function of the database after it and of the wave.
abbrev pub wave_following : Context → Wave → Database → Result Wave Failure
wave_following context wave later =
    unless_first later Restrict (restricted_by wave context.schema.constraints later.rows)
    (unless_first later ActionConflict (conflicts_by wave context.schema later.rows) (Ok (next_wave_by wave context.schema later.rows)))

abbrev pub WavesFollowFromWaves : Type 0
WavesFollowFromWaves =
    (context : Context) (db : Database) (wave : Wave)
    → InOrder db.rows → RisingChanges wave.changes → Current db.rows wave.changes
    → following_wave context db (database_after db wave) ≡ wave_following context wave (database_after db wave)
