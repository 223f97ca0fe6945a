-- BEFORE triggers: those of a statement, and those of the rows of a wave ("Triggers", "Execution of BEFORE triggers").
use Rattle.std.specs.Prelude.{ℕ, Bool, true, false, ◌&&◌, ◌||◌, not, if◌then◌else◌, ◌==◌, List, [], length, filter, find, slice_set, Some, None, is_none, Result, Ok, Err}
use Rattle.std.specs.List.{list_any, enumerate_from}
use Rattle.iv_machine.specs.Types.{Value, StoredRow, Change, TableColumn, TriggerEvent, Cause, Refusal, BodyStatement, DataStatement, Setting, Trigger}
use Rattle.iv_machine.specs.Types.time.{Before, After}
use Rattle.iv_machine.specs.Types.granularity
use Rattle.iv_machine.specs.Types.event
use Rattle.iv_machine.specs.Types.cause.{Signal}
use Rattle.iv_machine.specs.Types.body
use Rattle.iv_expr.specs.Changes.{Wave, names_column}
use Rattle.iv_expr.specs.Scopes.{Frame, no_frame, scope_of}
use Rattle.iv_expr.specs.Evaluation.{value, and_then}
use Rattle.iv_machine.specs.Context.{Context, while_running, each, in_turn}
use Rattle.iv_machine.specs.Proposals.{holds, stored_value, table_of, event_of, set_columns}

-- ---- which triggers are meant

abbrev pub is_before : Trigger → Bool
is_before t = elim t.time [ Before ↦ true | After ↦ false ]

abbrev pub for_each_row : Trigger → Bool
for_each_row t = elim t.granularity [ granularity.Row ↦ true | granularity.Statement ↦ false ]

abbrev pub is_before_row : Trigger → Bool
is_before_row t = is_before t && for_each_row t

abbrev pub is_before_statement : Trigger → Bool
is_before_statement t = is_before t && not (for_each_row t)

abbrev pub same_event : TriggerEvent → TriggerEvent → Bool
same_event event.Insert event.Insert = true
same_event event.Update event.Update = true
same_event event.Delete event.Delete = true
same_event _ _ = false

-- a trigger on this table and event
abbrev pub is_on : ℕ → TriggerEvent → Trigger → Bool
is_on table event t = (t.table == table) && same_event t.event event

-- a trigger without a list of columns, or one whose list has a column of these
abbrev pub is_on_columns : List TableColumn → Trigger → Bool
is_on_columns columns t = (length t.columns == 0) || list_any (names_column columns t.table) t.columns

-- what kind of change it is
abbrev pub event_of_change : Change → TriggerEvent
event_of_change c = if is_none c.old then event.Insert else (if is_none c.new then event.Delete else event.Update)

-- the statements of a trigger's body, each with its place from 1 on
abbrev pub placed_statements : Trigger → List (ℕ × BodyStatement)
placed_statements t = enumerate_from 1 t.body

-- ---- those of a statement

abbrev pub is_signal : BodyStatement → Bool
is_signal (body.Signal text) = true
is_signal _ = false

-- refused with the first SIGNAL of the body, if there is one
abbrev pub unless_signal : Trigger → Result (Unit {0}) Cause
unless_signal t = elim (find (λ s. is_signal s.1) (placed_statements t)) [ Some s ↦ Err (Signal t.id s.0) | None ↦ Ok tt ]

-- a BEFORE statement trigger: its body runs if WHEN is true
abbrev pub before_statement_run : List StoredRow → Trigger → Result (Unit {0}) Cause
before_statement_run rows t =
    and_then (holds (scope_of no_frame rows) t.when) (λ fires. if fires then unless_signal t else Ok tt)

-- it is a BEFORE statement trigger of the statement's table and event, and of a column of its SET list if it lists columns
abbrev pub is_before_this : DataStatement → Trigger → Bool
is_before_this statement t =
    is_before_statement t && is_on (table_of statement) (event_of statement) t && is_on_columns (set_columns statement) t

-- The BEFORE statement triggers of a statement, in creation order.
abbrev pub before_statement : Context → List StoredRow → DataStatement → Result (Unit {0}) Refusal
before_statement context rows statement =
    in_turn (λ t _. while_running t.id (before_statement_run rows t)) (filter (is_before_this statement) context.schema.triggers) tt

-- ---- those of the rows of a wave

-- a change as its triggers see it: the row variables are its two sides
abbrev pub change_frame : Change → Frame
change_frame c = record { old = c.old; new = c.new; transition = [] }

-- the change with a column of its new row set
abbrev pub with_new_value : Change → ℕ → Value → Change
with_new_value c column v = elim c.new [ Some row ↦ record c { new = Some (slice_set row column v) } | None ↦ c ]

-- the change after a SET: the value is evaluated, and fitted to its column
abbrev pub change_after_set : Context → List StoredRow → Setting → Change → Result Change Cause
change_after_set context rows s c =
    and_then (stored_value context c.table s.column (value (scope_of (change_frame c) rows) s.value)) (λ v.
    Ok (with_new_value c s.column v))

-- the change after a statement of the body
abbrev pub change_after_statement : Context → List StoredRow → Trigger → ℕ → BodyStatement → Change → Result Change Cause
change_after_statement context rows t place (body.Set s) c = change_after_set context rows s c
change_after_statement context rows t place (body.Signal text) c = Err (Signal t.id place)
change_after_statement context rows t place (body.Data statement) c = Ok c

-- a BEFORE row trigger on a change: its body runs if WHEN is true, and a later SET sees the value of an earlier one
abbrev pub before_row_run : Context → List StoredRow → Trigger → Change → Result Change Cause
before_row_run context rows t c =
    and_then (holds (scope_of (change_frame c) rows) t.when) (λ fires.
    if fires then in_turn (λ s. change_after_statement context rows t s.0 s.1) (placed_statements t) c else Ok c)

-- the change after a BEFORE row trigger, which is run if it is on the change's table and event
abbrev pub change_after_trigger : Context → List StoredRow → Trigger → Change → Result Change Refusal
change_after_trigger context rows t c =
    if is_on c.table (event_of_change c) t then while_running t.id (before_row_run context rows t c) else Ok c

-- the changes after BEFORE row triggers: one trigger after the other, each over the changes in their order
abbrev pub changes_after_triggers : Context → List StoredRow → List Trigger → List Change → Result (List Change) Refusal
changes_after_triggers context rows triggers changes = in_turn (λ t. each (change_after_trigger context rows t)) triggers changes

-- a BEFORE row trigger, on one of these columns if it lists columns
abbrev pub is_before_row_on : List TableColumn → Trigger → Bool
is_before_row_on columns t = is_before_row t && is_on_columns columns t

-- A wave after its BEFORE row triggers, in creation order; tables are seen with these rows, as they are before the wave. What a trigger
-- sets adds nothing to the wave's columns.
abbrev pub wave_after_triggers : Context → List StoredRow → Wave → Result Wave Refusal
wave_after_triggers context rows wave =
    and_then
    (changes_after_triggers context rows (filter (is_before_row_on wave.columns) context.schema.triggers) wave.changes) (λ changes.
    Ok (record wave { changes = changes }))
