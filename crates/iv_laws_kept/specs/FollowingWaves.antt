-- What follows a wave, row by row: what the foreign keys that do something do to each row that is found for them by its number
-- (ISO/IEC 9075-2:1999, "Referential constraint definition").
use Rattle.std.specs.Prelude.{◌≡◌, ℕ, Bool, true, false, ◌&&◌, if◌then◌else◌, ◌==◌, nat_lt, List, [], ◌∷◌, map, filter, filter_map, flat_map, find, Option, Some, None, Result, Ok}
use Rattle.std.specs.List.{list_any}
use Rattle.std.specs.Option.{option_map}
use Rattle.iv_value.specs.declared.value.Value.{Value}
use Rattle.iv_expr.specs.declared.row.StoredRow.{StoredRow}
use Rattle.iv_expr.specs.declared.row.Change.{Change}
use Rattle.iv_expr.specs.declared.wave.TableColumn.{TableColumn}
use Rattle.iv_expr.specs.Changes.{Wave, wave_of, RisingChanges}
use Rattle.iv_syntax.specs.declared.table.ReferentialAction.TheVariants as action
use Rattle.iv_catalogue.specs.Catalogues.{Schema}
use Rattle.iv_catalogue.specs.declared.cause.Cause.TheVariants.{Restrict, ActionConflict}
use Rattle.iv_catalogue.specs.declared.cause.Fault.{Fault}
use Rattle.iv_machine.specs.declared.database.Database.{Database}
use Rattle.iv_machine.specs.declared.effect.Effect.{Effect}
use Rattle.iv_machine.specs.Databases.{row_at, fault_at, has_change, database_after}
use Rattle.iv_machine.specs.Context.{Context, Failure, fails}
use Rattle.iv_machine.specs.ReferentialActions.{Reference, references, Loss, LostKeys, lost_reference, action_on, is_restricted, effects_of_loss, keeps_reference, have_deletion, disagree, change_by, sets_values, referencing_columns, following_wave}
use Rattle.iv_store.specs.Stores.{RisingNumbers}
use Rattle.iv_laws_levels.specs.RisingRows.{InOrder}
use Rattle.iv_laws_levels.specs.FittingWaves.{Current}
use Rattle.iv_laws_levels.specs.Holders.{row_before, keys_lost_by}

-- ---- one row

-- a foreign key on the row's table protects it: the row refers to a key that was lost under RESTRICT
abbrev pub protects : LostKeys → StoredRow → Reference → Bool
protects lost row k = (row.table == k.table) && is_restricted lost k.key row

-- The row of this number as it was before the changes, with the first foreign key that protects it.
abbrev pub restricted_at : List Reference → LostKeys → List Change → List StoredRow → ℕ → Option Fault
restricted_at ks lost changes later number = elim (row_before (wave_of changes) later number) [
  | Some row ↦ option_map (λ k. fault_at k.id row) (find (protects lost row) ks)
  | None ↦ None
]

-- what these foreign keys do to a row
abbrev pub effects_of : Schema → List Reference → LostKeys → StoredRow → StoredRow → List (ℕ × Effect)
effects_of schema ks lost before after =
    flat_map (λ k. map (λ effect. (k.id, effect)) (effects_of_loss schema k (lost_reference lost k.key before)))
    (filter (keeps_reference before after) ks)

-- what these foreign keys do to a row as it is after the changes
abbrev pub effects_at : Schema → List Reference → LostKeys → List Change → List StoredRow → StoredRow → List (ℕ × Effect)
effects_at schema ks lost changes later after =
    elim (row_before (wave_of changes) later after.number) [ Some before ↦ effects_of schema ks lost before after | None ↦ [] ]

-- some effect of an earlier foreign key sets a column otherwise
abbrev pub clashes : List (ℕ × Effect) → ℕ × Effect → Bool
clashes es own = list_any (λ earlier. nat_lt earlier.0 own.0 && disagree earlier.1 own.1) es

-- Of effects on a row that none deletes, the first foreign key that disagrees with an earlier one.
abbrev pub first_conflict : List (ℕ × Effect) → Option ℕ
first_conflict es = if have_deletion es then None else option_map (λ e. e.0) (find (clashes es) es)

-- The row of this number, with the first foreign key that disagrees with an earlier one on it.
abbrev pub conflict_at : Schema → List Reference → LostKeys → List Change → List StoredRow → ℕ → Option Fault
conflict_at schema ks lost changes later number = elim (row_at later number) [
  | Some after ↦ option_map (λ id. fault_at id after) (first_conflict (effects_at schema ks lost changes later after))
  | None ↦ None
]

-- The change of the row of this number.
abbrev pub change_at : Schema → List Reference → LostKeys → List Change → List StoredRow → ℕ → Option Change
change_at schema ks lost changes later number =
    elim (row_at later number) [ Some after ↦ change_by after (effects_at schema ks lost changes later after) | None ↦ None ]

-- a foreign key sets values of the row of this number
abbrev pub sets_at : Schema → List Reference → LostKeys → List Change → List StoredRow → ℕ → ℕ → Bool
sets_at schema ks lost changes later id number =
    elim (row_at later number) [ Some after ↦ sets_values id (effects_at schema ks lost changes later after) | None ↦ false ]

-- ---- rows of these numbers

-- the columns of those of the foreign keys that set values of some of these rows
abbrev pub columns_at : Schema → List Reference → LostKeys → List Change → List StoredRow → List ℕ → List TableColumn
columns_at schema ks lost changes later numbers =
    flat_map referencing_columns (filter (λ k. list_any (sets_at schema ks lost changes later k.id) numbers) ks)

-- the fault of the lower constraint; of two of one constraint, the one given first
abbrev pub earlier : Option Fault → Option Fault → Option Fault
earlier None other = other
earlier (Some f) None = Some f
earlier (Some f) (Some g) = if nat_lt g.constraint f.constraint then Some g else Some f

-- The first of the faults of these numbers, by constraint, then by number.
abbrev pub least : (ℕ → Option Fault) → List ℕ → Option Fault
least fault [] = None
least fault (number ∷ numbers) = earlier (fault number) (least fault numbers)

-- What follows the changes among the rows of these numbers.
abbrev pub answer_at : Schema → List Reference → LostKeys → List Change → Database → List ℕ → Result Wave Failure
answer_at schema ks lost changes later numbers = elim (least (restricted_at ks lost changes later.rows) numbers) [
  | Some fault ↦ fails later (Restrict fault)
  | None ↦ elim (least (conflict_at schema ks lost changes later.rows) numbers) [
    | Some fault ↦ fails later (ActionConflict fault)
    | None ↦ Ok (record {
      changes = filter_map (change_at schema ks lost changes later.rows) numbers;
      columns = columns_at schema ks lost changes later.rows numbers;
    })
  ]
]

-- ---- rows that are found

abbrev pub is_among : List ℕ → ℕ → Bool
is_among numbers number = list_any (λ n. n == number) numbers

-- each of these foreign keys is so
abbrev pub EachReference : (Reference → Type 0) → List Reference → Type 0
EachReference P [] = Unit {0}
EachReference P (k ∷ ks) = P k × EachReference P ks

-- a foreign key has NO ACTION for every key that was lost
abbrev pub IsIdle : LostKeys → Reference → Type 0
IsIdle lost k = (key : List Value) (loss : Loss) → lost k.key key ≡ Some loss → action_on k.key loss ≡ action.NoAction

-- a foreign key has NO ACTION for what the rows of its table refer to whose numbers aren't among these
abbrev pub IsIdleElsewhere : LostKeys → List StoredRow → List ℕ → Reference → Type 0
IsIdleElsewhere lost later numbers k =
    (row : StoredRow) (loss : Loss)
    → row_at later row.number ≡ Some row → (row.table == k.table) ≡ true → is_among numbers row.number ≡ false
    → lost_reference lost k.key row ≡ Some loss
    → action_on k.key loss ≡ action.NoAction

-- Changes that led from a database, which they fit, to a later one.
pub record LedTo (before : Database) (changes : List Change) (later : Database) : Type 0 where
  pub in_order : InOrder before.rows
  pub rising : RisingChanges changes
  pub current : Current before.rows changes
  pub leads : database_after before (wave_of changes) ≡ later

-- Rising numbers, among them those of the changes, and those of the rows that refer after the changes to a key which they took away
-- and for which one of these foreign keys does something.
pub record FindsRows (ks : List Reference) (changes : List Change) (later : List StoredRow) (numbers : List ℕ) : Type 0 where
  pub rising : RisingNumbers 0 numbers
  pub changed : (number : ℕ) → has_change changes number ≡ true → is_among numbers number ≡ true
  pub referring : EachReference (IsIdleElsewhere (keys_lost_by (wave_of changes)) later numbers) ks

-- What follows a wave is what follows among the rows that are found, by the foreign keys that do something.
abbrev pub WavesFollowRowByRow : Type 0
WavesFollowRowByRow =
    (context : Context) (before : Database) (changes : List Change) (later : Database) (acts : Reference → Bool) (numbers : List ℕ)
    → LedTo before changes later
    → ((k : Reference) → acts k ≡ false → IsIdle (keys_lost_by (wave_of changes)) k)
    → FindsRows (filter acts (references context.schema.constraints)) changes later.rows numbers
    → following_wave context before later
    ≡ answer_at context.schema (filter acts (references context.schema.constraints)) (keys_lost_by (wave_of changes)) changes later numbers
