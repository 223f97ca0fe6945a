-- Databases: what a constraint asks of a row, the violations that a scan of all tables finds, and a database after a wave of row
-- changes (ISO/IEC 9075-2:1999, "Integrity constraints").
use Rattle.std.specs.Prelude.{ℕ, ◌+◌, max, Bool, true, false, ◌&&◌, ◌||◌, not, if◌then◌else◌, ◌==◌, nat_lt, List, [], ◌∷◌, ◌++◌, length, map, filter, filter_map, flat_map, find, slice_get, Option, Some, None}
use Rattle.std.specs.List.{list_any, list_all, enumerate_from}
use Rattle.iv_machine.specs.Types.{Value, StoredRow, Change, ConstraintMode, MatchType, NullTreatment, Constraint, Rule, ForeignKey, Fault, Database, Which}
use Rattle.iv_machine.specs.Types.value.{Null}
use Rattle.iv_machine.specs.Types.mode
use Rattle.iv_machine.specs.Types.matching.{Simple, Full}
use Rattle.iv_machine.specs.Types.nulls.{Distinct, NotDistinct}
use Rattle.iv_machine.specs.Types.rule
use Rattle.iv_machine.specs.Types.which.{Immediate, Deferred, All}
use Rattle.iv_value.specs.Truths.{is_false}
use Rattle.iv_value.specs.Values.{is_null, all_same}
use Rattle.iv_key.specs.Keys.{value_at, key_of, none_null, all_null, holds_key}
use Rattle.iv_expr.specs.Changes.{Wave}
use Rattle.iv_expr.specs.Evaluation.{check_truth}
use Rattle.iv_expr.specs.Scopes.{table_rows}

-- the database of no row; numbers begin at 1
abbrev pub no_rows : Database
no_rows = record { rows = []; next = 1; count = 0 }

-- the row of this number, if there is one
abbrev pub row_at : List StoredRow → ℕ → Option StoredRow
row_at rows number = find (λ r. r.number == number) rows

-- ---- what a constraint asks of a row of its table

-- a row has this key in these columns: a key with a null is no row's, unless nulls are not distinct; then null is the same as null
abbrev pub holds_key_with : NullTreatment → List ℕ → List Value → List Value → Bool
holds_key_with Distinct columns key row = holds_key columns key row
holds_key_with NotDistinct columns key row = all_same (key_of columns row) key

-- another row has another number, and this row's key
abbrev pub shares_key : NullTreatment → List ℕ → StoredRow → StoredRow → Bool
shares_key nulls columns row other = not (other.number == row.number) && holds_key_with nulls columns (key_of columns row.values) other.values

-- no other row of the table has this row's key ("Unique constraint definition")
abbrev pub is_unique : List StoredRow → ℕ → NullTreatment → List ℕ → StoredRow → Bool
is_unique rows table nulls columns row = not (list_any (shares_key nulls columns row) (table_rows rows table))

-- some row of the referenced table has this key
abbrev pub has_referenced : List StoredRow → ForeignKey → List Value → Bool
has_referenced rows fk key = list_any (λ r. all_same (key_of fk.key r.values) key) (table_rows rows fk.referenced)

-- MATCH SIMPLE: some column is null, or the key is a referenced one. MATCH FULL: all are null, or none is and the key is a
-- referenced one ("Referential constraint definition").
abbrev pub matches : MatchType → List StoredRow → ForeignKey → List Value → Bool
matches Simple rows fk key = not (none_null key) || has_referenced rows fk key
matches Full rows fk key = all_null key || (none_null key && has_referenced rows fk key)

-- what a rule on this table asks of a row; a CHECK is satisfied if its condition is not false ("Check constraint definition"), and a fault
-- of evaluation makes the condition false
abbrev pub obeys : List StoredRow → ℕ → Rule → StoredRow → Bool
obeys rows table (rule.NotNull column) row = not (is_null (value_at row.values column))
obeys rows table (rule.Check condition) row = not (is_false (check_truth condition row.values))
obeys rows table (rule.Unique nulls columns) row = is_unique rows table nulls columns row
obeys rows table (rule.PrimaryKey columns) row = none_null (key_of columns row.values) && is_unique rows table Distinct columns row
obeys rows table (rule.ForeignKey fk) row = matches fk.matching rows fk (key_of fk.columns row.values)

-- Whether a row of a constraint's table satisfies it, among these rows.
abbrev pub satisfies : List StoredRow → Constraint → StoredRow → Bool
satisfies rows constraint row = obeys rows constraint.table constraint.rule row

-- ---- the scan

-- the constraint of this number and a row that violates it
abbrev pub fault_at : ℕ → StoredRow → Fault
fault_at id row = record { constraint = id; row = row.number }

-- the row is one of the constraint's table and doesn't satisfy it
abbrev pub violates : List StoredRow → Constraint → StoredRow → Bool
violates rows constraint row = (row.table == constraint.table) && not (satisfies rows constraint row)

-- the violations of one constraint, by row
abbrev pub violations : List StoredRow → ℕ → Constraint → List Fault
violations rows id constraint = map (fault_at id) (filter (violates rows constraint) rows)

-- the violations of a constraint, if it is chosen
abbrev pub chosen_violations : List StoredRow → (ℕ → Bool) → ℕ → Constraint → List Fault
chosen_violations rows chosen id constraint = if chosen id then violations rows id constraint else []

-- The scan: all pairs of a chosen constraint and a row that violates it, in creation order of the constraints, then by row.
abbrev pub scan : List StoredRow → List Constraint → (ℕ → Bool) → List Fault
scan rows constraints chosen = flat_map (λ k. chosen_violations rows chosen k.0 k.1) (enumerate_from 0 constraints)

-- ---- modes ("Checking of constraints")

-- the modes at the start of a transaction, by constraint
abbrev pub initial_modes : List Constraint → List ConstraintMode
initial_modes constraints = map (λ c. c.initially) constraints

abbrev pub defers : ConstraintMode → Bool
defers mode.Deferred = true
defers mode.Immediate = false

-- whether the constraint of this number is deferred
abbrev pub is_deferred : List ConstraintMode → ℕ → Bool
is_deferred modes id = elim (slice_get modes id) [ Some mode ↦ defers mode | None ↦ false ]

-- the chosen constraints, under these modes
abbrev pub is_chosen : List ConstraintMode → Which → ℕ → Bool
is_chosen modes Immediate id = not (is_deferred modes id)
is_chosen modes Deferred id = is_deferred modes id
is_chosen modes All id = true

-- the first of a list
abbrev pub first : {A : Type 0} → List A → Option A
first [] = None
first (x ∷ xs) = Some x

-- ---- a database after a wave

-- one of these changes is of the row of this number
abbrev pub has_change : List Change → ℕ → Bool
has_change changes number = list_any (λ c. c.row == number) changes

-- the rows, in rising number, with this one among them
abbrev pub rows_with : StoredRow → List StoredRow → List StoredRow
rows_with r [] = r ∷ []
rows_with r (s ∷ rows) =
    if nat_lt r.number s.number then r ∷ s ∷ rows else (if r.number == s.number then r ∷ rows else s ∷ rows_with r rows)

-- these rows in rising number
abbrev pub in_order : List StoredRow → List StoredRow
in_order [] = []
in_order (r ∷ rows) = rows_with r (in_order rows)

-- the row that a change leaves, if it is no deletion
abbrev pub new_row : Change → Option StoredRow
new_row c = elim c.new [ Some values ↦ Some (record { table = c.table; number = c.row; values = values }) | None ↦ None ]

-- the rows that these changes aren't of, and those that they leave, in rising number
abbrev pub rows_after : List StoredRow → List Change → List StoredRow
rows_after rows changes = in_order (filter (λ r. not (has_change changes r.number)) rows ++ filter_map new_row changes)

-- the least number that is neither below this one nor below or among those of these changes
abbrev pub next_after : ℕ → List Change → ℕ
next_after next [] = next
next_after next (c ∷ changes) = max (c.row + 1) (next_after next changes)

-- how many changes a wave has
abbrev pub size : Wave → ℕ
size wave = length wave.changes

-- The database after a wave: its rows replaced, left out or added, and each change counted.
abbrev pub database_after : Database → Wave → Database
database_after db wave = record {
  rows = rows_after db.rows wave.changes;
  next = next_after db.next wave.changes;
  count = db.count + size wave;
}
