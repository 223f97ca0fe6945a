-- What a data statement proposes: the changes of the rows that it finds or makes ("Delete statement: searched", "Insert statement",
-- "Update statement: searched").
use Rattle.std.specs.Prelude.{ℕ, Bool, if◌then◌else◌, List, [], map, filter_map, fold, zip, slice_get, slice_set, Option, Some, None, Result, Ok, Err}
use Rattle.std.specs.List.{enumerate_from}
use Rattle.iv_machine.specs.Types.{Value, StoredRow, Change, TableColumn, Cond, ExprFault, TriggerEvent, Column, Cause, Setting, Outputs, InsertColumns, InsertRows, DataStatement, Database}
use Rattle.iv_machine.specs.Types.fit.{Yes, WrongKind, TooLong}
use Rattle.iv_machine.specs.Types.event
use Rattle.iv_machine.specs.Types.cause.{TextTooLong, WrongShape}
use Rattle.iv_machine.specs.Types.outputs.{Star, Values}
use Rattle.iv_machine.specs.Types.insert_columns as columns
use Rattle.iv_machine.specs.Types.insert_rows as rows
use Rattle.iv_machine.specs.Types.data_statement
use Rattle.iv_value.specs.Truths.{is_true}
use Rattle.iv_value.specs.Values.{fit_of}
use Rattle.iv_expr.specs.Changes.{Wave}
use Rattle.iv_expr.specs.Scopes.{Scope, Frame, scope_of, within, range_rows, table_rows}
use Rattle.iv_expr.specs.Evaluation.{value, truth, and_then}
use Rattle.iv_catalogue.specs.Catalogues.{Schema}
use Rattle.iv_catalogue.specs.Refusals.{cause_of}
use Rattle.iv_machine.specs.Context.{Context, each}

-- ---- values and conditions

abbrev pub with_cause : {A : Type 0} → Result A ExprFault → Result A Cause
with_cause (Ok a) = Ok a
with_cause (Err fault) = Err (cause_of fault)

-- whether a condition takes effect: only if it is true
abbrev pub holds : Scope → Cond → Result Bool Cause
holds scope condition = elim (truth scope condition) [ Ok t ↦ Ok (is_true t) | Err fault ↦ Err (cause_of fault) ]

-- the column at a place of a table
abbrev pub column_at : Schema → ℕ → ℕ → Option Column
column_at schema table place = elim (slice_get schema.tables table) [ Some t ↦ slice_get t.columns place | None ↦ None ]

-- a value for a column ("Store assignment")
abbrev pub value_for_column : Option Column → Value → Result Value Cause
value_for_column None v = Err WrongShape
value_for_column (Some column) v =
    elim (fit_of v column.kind) [ Yes ↦ Ok v | WrongKind ↦ Err WrongShape | TooLong ↦ Err TextTooLong ]

-- a value that was evaluated, or its fault, for a column of a table
abbrev pub stored_value : Context → ℕ → ℕ → Result Value ExprFault → Result Value Cause
stored_value context table column evaluated =
    and_then (with_cause evaluated) (value_for_column (column_at context.schema table column))

-- values for columns of a table, one after another: each is evaluated and then fitted
abbrev pub stored_values : Context → ℕ → List (ℕ × Result Value ExprFault) → Result (List (ℕ × Value)) Cause
stored_values context table pairs = each (λ p. and_then (stored_value context table p.0 p.1) (λ v. Ok (p.0, v))) pairs

-- the row with these columns set
abbrev pub with_columns : List Value → List (ℕ × Value) → List Value
with_columns row pairs = fold (λ r p. slice_set r p.0 p.1) row pairs

-- ---- rows

abbrev pub element_where_true : {A : Type 0} → A × Bool → Option A
element_where_true p = if p.1 then Some p.0 else None

-- those of a list where the condition is true of the row; the condition is evaluated at all of them, and a fault at any is a fault of the
-- whole
abbrev pub where_true : {A : Type 0} → (A → List Value) → Scope → Cond → List A → Result (List A) Cause
where_true row_of scope condition xs =
    and_then (each (λ x. and_then (holds (within scope (row_of x)) condition) (λ b. Ok (x, b))) xs) (λ pairs.
    Ok (filter_map element_where_true pairs))

-- the rows of a table where the condition is true
abbrev pub matching_rows : Scope → Cond → List StoredRow → Result (List StoredRow) Cause
matching_rows scope condition rows = where_true (λ r. r.values) scope condition rows

-- what a query gives of a row
abbrev pub outputs_of : Scope → Outputs → List Value → List (Result Value ExprFault)
outputs_of scope Star row = map (λ v. Ok v) row
outputs_of scope (Values expressions) row = map (value (within scope row)) expressions

-- ---- INSERT

-- the defaults of a table's columns
abbrev pub defaults_of : Schema → ℕ → List Value
defaults_of schema table = elim (slice_get schema.tables table) [ Some t ↦ map (λ column. column.default) t.columns | None ↦ [] ]

-- the columns that values are for, each with its value
abbrev pub values_by_column : InsertColumns → List (Result Value ExprFault) → List (ℕ × Result Value ExprFault)
values_by_column columns.All values = enumerate_from 0 values
values_by_column (columns.Listed places) values = zip places values

-- the row of these values; a column that isn't listed takes its default
abbrev pub row_of_values : Schema → ℕ → InsertColumns → List (ℕ × Value) → List Value
row_of_values schema table columns.All pairs = map (λ p. p.1) pairs
row_of_values schema table (columns.Listed places) pairs = with_columns (defaults_of schema table) pairs

-- a new row, which has no number yet
abbrev pub insertion : ℕ → List Value → Change
insertion table values = record { table = table; row = 0; old = None; new = Some values }

-- the insertion of a row that has these values in these columns
abbrev pub insertion_of : Context → ℕ → InsertColumns → List (Result Value ExprFault) → Result Change Cause
insertion_of context table listed values =
    and_then (stored_values context table (values_by_column listed values)) (λ pairs.
    Ok (insertion table (row_of_values context.schema table listed pairs)))

abbrev pub proposed_insertions : Context → Scope → ℕ → InsertColumns → InsertRows → Result (List Change) Cause
proposed_insertions context scope table listed (rows.Values tuples) =
    each (λ tuple. insertion_of context table listed (map (value scope) tuple)) tuples
proposed_insertions context scope table listed (rows.Query outputs range filter) =
    and_then (where_true (λ row. row) scope filter (range_rows scope range))
    (each (λ row. insertion_of context table listed (outputs_of scope outputs row)))

-- ---- UPDATE and DELETE

-- the update of a row; the values are evaluated at the row as it is before the statement
abbrev pub update_of : Context → Scope → List Setting → StoredRow → Result Change Cause
update_of context scope settings row =
    and_then
    (stored_values context row.table (map (λ s. (s.column, value (within scope row.values) s.value)) settings)) (λ pairs.
    Ok (record { table = row.table; row = row.number; old = Some row.values; new = Some (with_columns row.values pairs) }))

abbrev pub deletion : StoredRow → Change
deletion row = record { table = row.table; row = row.number; old = Some row.values; new = None }

-- ---- the statement

-- the changes that a statement proposes, in the order of its rows
abbrev pub proposed_changes : Context → Database → Frame → DataStatement → Result (List Change) Cause
proposed_changes context db frame (data_statement.Insert table listed source) =
    proposed_insertions context (scope_of frame db.rows) table listed source
proposed_changes context db frame (data_statement.Update table settings filter) =
    and_then (matching_rows (scope_of frame db.rows) filter (table_rows db.rows table))
    (each (update_of context (scope_of frame db.rows) settings))
proposed_changes context db frame (data_statement.Delete table filter) =
    and_then (matching_rows (scope_of frame db.rows) filter (table_rows db.rows table)) (λ found. Ok (map deletion found))

-- the columns of the SET list of an UPDATE
abbrev pub set_columns : DataStatement → List TableColumn
set_columns (data_statement.Update table settings filter) = map (λ s. record { table = table; column = s.column }) settings
set_columns _ = []

-- the table that a statement changes, and how
abbrev pub table_of : DataStatement → ℕ
table_of (data_statement.Insert table _ _) = table
table_of (data_statement.Update table _ _) = table
table_of (data_statement.Delete table _) = table

abbrev pub event_of : DataStatement → TriggerEvent
event_of (data_statement.Insert _ _ _) = event.Insert
event_of (data_statement.Update _ _ _) = event.Update
event_of (data_statement.Delete _ _) = event.Delete

-- The wave that a statement proposes.
abbrev pub proposed_wave : Context → Database → Frame → DataStatement → Result Wave Cause
proposed_wave context db frame statement =
    and_then (proposed_changes context db frame statement) (λ changes.
    Ok (record { changes = changes; columns = set_columns statement }))
