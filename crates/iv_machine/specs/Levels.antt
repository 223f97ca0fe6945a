-- A data statement with all that follows from it: a level ("Delete statement: searched", "Insert statement", "Update statement:
-- searched", "Execution of triggers").
use Rattle.std.specs.Prelude.{ℕ, zero, suc, Bool, ◌||◌, ◌&&◌, ◌++◌, not, if◌then◌else◌, nat_lt, List, [], ◌∷◌, length, map, filter, flat_map, None, Result, Ok}
use Rattle.iv_machine.specs.Types.{Change, TableColumn, BodyStatement, DataStatement, Trigger, Database}
use Rattle.iv_machine.specs.Types.cause.{Violation, Signal, DepthLimit, TooManyChanges}
use Rattle.iv_machine.specs.Types.body
use Rattle.iv_machine.specs.Types.which.{Immediate}
use Rattle.iv_expr.specs.Changes.{Wave}
use Rattle.iv_expr.specs.Scopes.{Frame, scope_of}
use Rattle.iv_expr.specs.Evaluation.{and_then}
use Rattle.iv_machine.specs.Databases.{scan, is_chosen, size}
use Rattle.iv_machine.specs.Context.{Context, Failure, fails, over, unless_first, with_count, inside_trigger, in_turn}
use Rattle.iv_machine.specs.Proposals.{holds, proposed_wave, table_of, event_of, set_columns}
use Rattle.iv_machine.specs.BeforeTriggers.{is_before, for_each_row, is_on, is_on_columns, event_of_change, placed_statements, before_statement}
use Rattle.iv_machine.specs.Waves.{settled_waves, net_wave}

-- ---- which AFTER triggers fire, and on what

-- a trigger, and what its body sees
pub record Firing : Type 0 where
  pub trigger : Trigger
  pub frame : Frame

-- a row trigger sees the two sides of its transition, and all transitions of its table and event
abbrev pub row_firing : Trigger → List Change → Change → Firing
row_firing t transitions c = record { trigger = t; frame = record { old = c.old; new = c.new; transition = transitions } }

abbrev pub statement_firing : Trigger → List Change → Firing
statement_firing t transitions = record { trigger = t; frame = record { old = None; new = None; transition = transitions } }

-- A row trigger fires once for each transition. A statement trigger fires once: for the table and event of the statement even with no
-- transitions, and otherwise if there are some.
abbrev pub firings_of : DataStatement → Trigger → List Change → List Firing
firings_of statement t transitions =
    if for_each_row t then map (row_firing t transitions) transitions
    else (if is_on (table_of statement) (event_of statement) t || nat_lt 0 (length transitions) then statement_firing t transitions ∷ [] else [])

-- the transitions of a trigger's table and event among the net changes
abbrev pub transitions_of : Trigger → Wave → List Change
transitions_of t net = filter (λ c. is_on c.table (event_of_change c) t) net.changes

-- the columns of a level: those of the SET list of its statement, and those of its waves
abbrev pub level_columns : DataStatement → List Wave → List TableColumn
level_columns statement waves = set_columns statement ++ flat_map (λ wave. wave.columns) waves

-- an AFTER trigger, on one of these columns if it lists columns
abbrev pub is_after_on : List TableColumn → Trigger → Bool
is_after_on columns t = not (is_before t) && is_on_columns columns t

-- The firings that the columns and the net changes of a level fix, in creation order of the triggers, then by row.
abbrev pub firings : Context → DataStatement → List TableColumn → Wave → List Firing
firings context statement columns net =
    flat_map (λ t. firings_of statement t (transitions_of t net)) (filter (is_after_on columns) context.schema.triggers)

-- ---- what a level gives

-- the database, the rest of the budget, and how many rows the statement itself inserted, updated or deleted
pub record Finished : Type 0 where
  pub database : Database
  pub rest : ℕ
  pub size : ℕ

-- the database and the budget between two triggers
pub record Progress : Type 0 where
  pub database : Database
  pub budget : ℕ

-- What runs a data statement of a trigger's body, from the trigger's number, the statement, what it sees, the database and the budget.
abbrev pub Runs : Type 0
Runs = ℕ → DataStatement → Frame → Database → ℕ → Result Finished Failure

-- ---- the triggers that fire

-- a statement at a place of a trigger's body
abbrev pub statement_run : Runs → Firing → ℕ → BodyStatement → Progress → Result Progress Failure
statement_run run x place (body.Data statement) at =
    and_then (run x.trigger.id statement x.frame at.database at.budget) (λ done.
    Ok (record { database = done.database; budget = done.rest }))
statement_run run x place (body.Signal text) at = fails at.database (Signal x.trigger.id place)
statement_run run x place (body.Set _) at = Ok at

-- the body of a trigger, statement after statement
abbrev pub body_run : Runs → Firing → List (ℕ × BodyStatement) → Progress → Result Progress Failure
body_run run x statements at = in_turn (λ s. statement_run run x s.0 s.1) statements at

-- a trigger: WHEN sees the database of its moment, and the body runs if it is true
abbrev pub firing_run : Runs → Firing → Progress → Result Progress Failure
firing_run run x at =
    inside_trigger x.trigger.id
    (and_then (over at.database (holds (scope_of x.frame at.database.rows) x.trigger.when)) (λ fires.
    if fires then body_run run x (placed_statements x.trigger) at else Ok at))

-- all triggers that fire, one after another
abbrev pub firings_run : Runs → List Firing → Progress → Result Progress Failure
firings_run run xs at = in_turn (firing_run run) xs at

-- ---- a level

-- no immediate constraint is violated
abbrev pub immediate_check : Context → Database → Result (Unit {0}) Failure
immediate_check context db =
    unless_first db Violation (scan db.rows context.schema.constraints (is_chosen context.modes Immediate)) (Ok tt)

-- The steps of a level, with `run` for the data statements of the triggers that it fires: what the statement proposes; its BEFORE
-- statement triggers; the waves; the check of the immediate constraints; and the AFTER triggers.
abbrev pub level_steps : Runs → Context → DataStatement → Frame → Database → ℕ → Result Finished Failure
level_steps run context statement frame db budget =
    and_then (over db (proposed_wave context db frame statement)) (λ wave.
    and_then (with_count db (before_statement context db.rows statement)) (λ _.
    and_then (settled_waves context db budget wave) (λ s.
    and_then (immediate_check context s.last) (λ _.
    and_then
    (firings_run run (firings context statement (level_columns statement s.waves) (net_wave db.rows s.last.rows s.waves))
    (record { database = s.last; budget = s.rest })) (λ at.
    Ok (record { database = at.database; rest = at.budget; size = size wave }))))))

-- A level takes one from the budget for itself.
abbrev pub level_within : Runs → Context → DataStatement → Frame → Database → ℕ → Result Finished Failure
level_within run context statement frame db zero = fails db TooManyChanges
level_within run context statement frame db (suc budget) = level_steps run context statement frame db budget

-- A data statement of a trigger's body, if so many levels may be nested from here on.
abbrev pub nested_level : ℕ → Context → Runs
nested_level zero context trigger statement frame db budget = fails db (DepthLimit trigger)
nested_level (suc depth) context trigger statement frame db budget =
    level_within (nested_level depth context) context statement frame db budget

-- A data statement of a script, if so many levels may be nested in it.
abbrev pub level : ℕ → Context → DataStatement → Frame → Database → ℕ → Result Finished Failure
level deeper context statement frame db budget = level_within (nested_level deeper context) context statement frame db budget
