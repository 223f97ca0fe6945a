-- Referential actions: which referenced keys a wave lost, which rows RESTRICT protects, what the other actions do to rows, and the
-- wave that follows (ISO/IEC 9075-2:1999, "Referential constraint definition").
use Rattle.std.specs.Prelude.{ℕ, Bool, true, false, ◌&&◌, not, if◌then◌else◌, ◌==◌, nat_lt, List, [], ◌∷◌, map, filter, filter_map, flat_map, zip, Option, Some, None, Result, Ok}
use Rattle.std.specs.List.{list_any, enumerate_from}
use Rattle.iv_machine.specs.Types.{Value, StoredRow, Change, TableColumn, ReferentialAction, Constraint, Rule, ForeignKey, Fault, Database, Effect}
use Rattle.iv_machine.specs.Types.value.{Null}
use Rattle.iv_machine.specs.Types.referential_action as action
use Rattle.iv_machine.specs.Types.rule
use Rattle.iv_machine.specs.Types.cause.{Restrict, ActionConflict}
use Rattle.iv_machine.specs.Types.effect.{DeleteRow, SetColumns}
use Rattle.iv_value.specs.Values.{is_same, all_same}
use Rattle.iv_expr.specs.Changes.{Wave}
use Rattle.iv_expr.specs.Scopes.{table_rows}
use Rattle.iv_catalogue.specs.Catalogues.{Schema}
use Rattle.iv_key.specs.Keys.{value_at, key_of, none_null, holds_key}
use Rattle.iv_machine.specs.Databases.{row_at, fault_at, first}
use Rattle.iv_machine.specs.Context.{Context, Failure, unless_first}
use Rattle.iv_machine.specs.Proposals.{with_columns, defaults_of}

-- ---- foreign keys

-- the foreign key that a rule is, if it is one
abbrev pub foreign_key : Rule → Option ForeignKey
foreign_key (rule.ForeignKey fk) = Some fk
foreign_key _ = None

-- A foreign key, with its number among the constraints and the table that it is on.
pub record Reference : Type 0 where
  pub id : ℕ
  pub table : ℕ
  pub key : ForeignKey

-- the foreign key that a constraint is, if it is one
abbrev pub reference : ℕ × Constraint → Option Reference
reference k = elim (foreign_key k.1.rule) [ Some fk ↦ Some (record { id = k.0; table = k.1.table; key = fk }) | None ↦ None ]

-- The foreign keys among the constraints, in creation order.
abbrev pub references : List Constraint → List Reference
references constraints = filter_map reference (enumerate_from 0 constraints)

-- ---- lost keys

-- How a referenced key was lost: its row was deleted, or updated to a row with this key.
pub data Loss : Type 0 where
  deleted : Loss
  updated : List Value → Loss

-- Which referenced keys were lost: of a foreign key and a key, how that key was lost, if it was.
abbrev pub LostKeys : Type 0
LostKeys = ForeignKey → List Value → Option Loss

-- how a referenced row lost its key from one database to the next, if it did
abbrev pub loss_of_row : List StoredRow → ForeignKey → StoredRow → Option Loss
loss_of_row later fk before = elim (row_at later before.number) [
  | None ↦ Some deleted
  | Some after ↦ if all_same (key_of fk.key after.values) (key_of fk.key before.values) then None else Some (updated (key_of fk.key after.values))
]

-- The keys that were lost from one database to the next: a key by the row of the least number that lost it.
abbrev pub lost_keys : List StoredRow → List StoredRow → LostKeys
lost_keys rows later fk key =
    first (filter_map (loss_of_row later fk) (filter (λ r. holds_key fk.key key r.values) (table_rows rows fk.referenced)))

-- how the key that a row refers to was lost, if it was; a key with a null refers to no row
abbrev pub lost_reference : LostKeys → ForeignKey → StoredRow → Option Loss
lost_reference lost fk row = if none_null (key_of fk.columns row.values) then lost fk (key_of fk.columns row.values) else None

-- the action for a loss
abbrev pub action_on : ForeignKey → Loss → ReferentialAction
action_on fk deleted = fk.on_delete
action_on fk (updated key) = fk.on_update

-- ---- RESTRICT

abbrev pub is_restrict : ReferentialAction → Bool
is_restrict action.Restrict = true
is_restrict _ = false

-- a row refers to a key that was lost under RESTRICT
abbrev pub is_restricted : LostKeys → ForeignKey → StoredRow → Bool
is_restricted lost fk row = elim (lost_reference lost fk row) [ Some loss ↦ is_restrict (action_on fk loss) | None ↦ false ]

-- The rows that refer to keys lost under RESTRICT, in creation order of the foreign keys, then by row.
abbrev pub restricted_rows : LostKeys → List Constraint → List StoredRow → List Fault
restricted_rows lost constraints rows =
    flat_map (λ k. map (fault_at k.id) (filter (is_restricted lost k.key) (table_rows rows k.table))) (references constraints)

-- ---- CASCADE, SET NULL and SET DEFAULT

-- CASCADE deletes the row, or copies the whole new key
abbrev pub cascade : ForeignKey → Loss → Effect
cascade fk deleted = DeleteRow
cascade fk (updated key) = SetColumns (zip fk.columns key)

-- what an action does to a row that refers to a key which was lost so
abbrev pub effects_of_action : Schema → Reference → Loss → ReferentialAction → List Effect
effects_of_action schema k loss action.NoAction = []
effects_of_action schema k loss action.Restrict = []
effects_of_action schema k loss action.Cascade = cascade k.key loss ∷ []
effects_of_action schema k loss action.SetNull = SetColumns (map (λ column. (column, Null)) k.key.columns) ∷ []
effects_of_action schema k loss action.SetDefault =
    SetColumns (map (λ column. (column, value_at (defaults_of schema k.table) column)) k.key.columns) ∷ []

-- what a foreign key does to a row, from how the key that it refers to was lost, if it was
abbrev pub effects_of_loss : Schema → Reference → Option Loss → List Effect
effects_of_loss schema k None = []
effects_of_loss schema k (Some loss) = effects_of_action schema k loss (action_on k.key loss)

-- the foreign key is on the row's table, and the row refers to the same key before and after
abbrev pub keeps_reference : StoredRow → StoredRow → Reference → Bool
keeps_reference before after k =
    (k.table == before.table) && all_same (key_of k.key.columns before.values) (key_of k.key.columns after.values)

-- What all foreign keys do to a row: each of those on its table whose lost key it holds before and after, in creation order, with its
-- effect.
abbrev pub effects : Schema → LostKeys → StoredRow → StoredRow → List (ℕ × Effect)
effects schema lost before after =
    flat_map (λ k. map (λ effect. (k.id, effect)) (effects_of_loss schema k (lost_reference lost k.key before)))
    (filter (keeps_reference before after) (references schema.constraints))

-- what all foreign keys do to a row of the later database, with the row that it was before, if it was there
abbrev pub effects_on : Schema → LostKeys → Option StoredRow → StoredRow → List (ℕ × Effect)
effects_on schema lost None after = []
effects_on schema lost (Some before) after = effects schema lost before after

abbrev pub is_deletion : Effect → Bool
is_deletion DeleteRow = true
is_deletion (SetColumns _) = false

abbrev pub columns_set : Effect → List (ℕ × Value)
columns_set DeleteRow = []
columns_set (SetColumns pairs) = pairs

-- one of these effects deletes the row
abbrev pub have_deletion : List (ℕ × Effect) → Bool
have_deletion es = list_any (λ e. is_deletion e.1) es

-- the values of a row after these effects, if they leave it: a deletion wins over all else
abbrev pub values_after : List Value → List (ℕ × Effect) → Option (List Value)
values_after values es = if have_deletion es then None else Some (with_columns values (flat_map (λ e. columns_set e.1) es))

-- the change of a row by these effects, if there are any
abbrev pub change_by : StoredRow → List (ℕ × Effect) → Option Change
change_by row [] = None
change_by row (e ∷ es) =
    Some (record { table = row.table; row = row.number; old = Some row.values; new = values_after row.values (e ∷ es) })

-- a foreign key sets values of a row: one of these effects is its own, and none deletes the row
abbrev pub sets_values : ℕ → List (ℕ × Effect) → Bool
sets_values id es = not (have_deletion es) && list_any (λ e. e.0 == id) es

-- the referencing columns of a foreign key
abbrev pub referencing_columns : Reference → List TableColumn
referencing_columns k = map (λ column. record { table = k.table; column = column }) k.key.columns

-- the columns of the foreign keys that set values of a row of the later database, in creation order; values that are equal count
abbrev pub columns_set_next : Schema → LostKeys → List StoredRow → List StoredRow → List TableColumn
columns_set_next schema lost rows later =
    flat_map referencing_columns
    (filter (λ k. list_any (λ after. sets_values k.id (effects_on schema lost (row_at rows after.number) after)) later)
    (references schema.constraints))

-- The wave that follows from lost keys: the changes of the rows of the later database by their effects, by row.
abbrev pub next_wave : Schema → LostKeys → List StoredRow → List StoredRow → Wave
next_wave schema lost rows later = record {
  changes = filter_map (λ after. change_by after (effects_on schema lost (row_at rows after.number) after)) later;
  columns = columns_set_next schema lost rows later;
}

-- ---- conflicts

-- one of the pairs sets the same column to another value
abbrev pub is_set_otherwise : List (ℕ × Value) → ℕ × Value → Bool
is_set_otherwise pairs own = list_any (λ p. (p.0 == own.0) && not (is_same p.1 own.1)) pairs

-- two effects set one column to different values
abbrev pub disagree : Effect → Effect → Bool
disagree earlier own = list_any (is_set_otherwise (columns_set earlier)) (columns_set own)

-- No effect on a row deletes it, this foreign key has an effect, and some earlier foreign key's effect sets a column of it otherwise.
abbrev pub has_conflict : ℕ → List (ℕ × Effect) → Bool
has_conflict id es =
    not (have_deletion es)
    && list_any (λ own. (own.0 == id) && list_any (λ earlier. nat_lt earlier.0 id && disagree earlier.1 own.1) es) es

-- The foreign keys that disagree with an earlier one, in creation order, each with the rows at which they do.
abbrev pub conflicts : Schema → LostKeys → List StoredRow → List StoredRow → List Fault
conflicts schema lost rows later =
    flat_map
    (λ k. map (fault_at k.id) (filter (λ after. has_conflict k.id (effects_on schema lost (row_at rows after.number) after)) later))
    (references schema.constraints)

-- ---- what follows a wave

-- the next wave by these lost keys, unless RESTRICT forbids them or two foreign keys disagree
abbrev pub wave_by : Context → LostKeys → Database → Database → Result Wave Failure
wave_by context lost db later =
    unless_first later Restrict (restricted_rows lost context.schema.constraints db.rows)
    (unless_first later ActionConflict (conflicts context.schema lost db.rows later.rows)
    (Ok (next_wave context.schema lost db.rows later.rows)))

-- The wave that follows one which led from a database to a later one.
abbrev pub following_wave : Context → Database → Database → Result Wave Failure
following_wave context db later = wave_by context (lost_keys db.rows later.rows) db later
