-- The account of a data statement: the waves as they were applied, with the foreign keys that act after each; the triggers that were
-- asked, with what they saw; the same of the data statements of their bodies; the rows that a refusal is about; and what failed, where a
-- number is out of range or a text is too long.
use Rattle.std.specs.Prelude.{ℕ, zero, suc, ◌+◌, ◌-◌, Bool, true, false, if◌then◌else◌, nat_lt, List, [], ◌∷◌, ◌++◌, filter, flat_map, find, slice_get, Option, Some, None, Result, Ok, Err}
use Rattle.iv_machine.specs.Types.{StoredRow, Change, TableColumn, ReferentialAction, BodyStatement, DataStatement, Trigger, NullTreatment, Constraint, Rule, Cause, Fault}
use Rattle.iv_machine.specs.declared.database.Database.{Database}
use Rattle.iv_machine.specs.Types.referential_action as action
use Rattle.iv_machine.specs.Types.rule
use Rattle.iv_machine.specs.Types.nulls.{Distinct}
use Rattle.iv_machine.specs.Types.body
use Rattle.iv_machine.specs.declared.database.Which.TheVariants.{Immediate}
use Rattle.iv_machine.specs.Types.cause.{NumberOutOfRange, TextTooLong, Restrict, ActionConflict}
use Rattle.iv_expr.specs.Changes.{Wave}
use Rattle.iv_value.specs.Truths.{is_true}
use Rattle.iv_value.specs.declared.value.Truth.{Truth}
use Rattle.iv_value.specs.declared.value.Truth.TheVariants.{True}
use Rattle.iv_expr.specs.Evaluation.{truth}
use Rattle.iv_expr.specs.Scopes.{Frame, no_frame, scope_of, table_rows}
use Rattle.iv_catalogue.specs.Catalogues.{Schema}
use Rattle.iv_catalogue.specs.Refusals.{cause_of}
use Rattle.iv_machine.specs.Bounds.{most_changes_in_a_transaction}
use Rattle.iv_machine.specs.Databases.{row_at, shares_key, scan, is_chosen, first, size, database_after}
use Rattle.iv_machine.specs.Context.{Context, while_running, each}
use Rattle.iv_machine.specs.Proposals.{proposed_wave}
use Rattle.iv_machine.specs.BeforeTriggers.{for_each_row, is_before_row_on, is_before_this, is_on, event_of_change, placed_statements, before_statement_run, before_statement, change_frame, change_after_set, change_after_statement, change_after_trigger}
use Rattle.iv_machine.specs.ReferentialActions.{Reference, references, Loss, LostKeys, lost_keys, lost_reference, action_on, keeps_reference, effects_on, following_wave}
use Rattle.iv_machine.specs.Waves.{numbered_wave, is_beyond_last_row, wave_as_applied, is_empty, one_wave, settled_waves, net_wave}
use Rattle.iv_machine.specs.Levels.{Firing, Progress, Runs, statement_run, firing_run, firings, level_columns, immediate_check, nested_level}
use Rattle.iv_account.specs.declared.entry.RowAction.{RowAction}
use Rattle.iv_account.specs.declared.entry.TriggerView.{TriggerView}
use Rattle.iv_account.specs.declared.entry.Disagreement.{Disagreement}
use Rattle.iv_account.specs.declared.entry.Entry.{Entry}
use Rattle.iv_account.specs.declared.entry.Entry.TheVariants.{Changed, Acted, Ran, Skipped, Began, Ended, Faulted, Disagreed, Failed, NotAdded}
use Rattle.iv_account.specs.declared.failure.FailedEvaluation.{FailedEvaluation}
use Rattle.iv_account.specs.Disagreements.{disagreement}
use Rattle.iv_account.specs.Failures.{proposal_failure, set_failure, when_failure}

-- ---- one after another

-- what is told after a step, unless it is refused
abbrev pub unless_refused : {A E : Type 0} → Result A E → (A → List Entry) → List Entry
unless_refused (Ok a) rest = rest a
unless_refused (Err e) rest = []

-- what is told after a step, and if it is refused of its refusal
abbrev pub told_or : {A E : Type 0} → Result A E → (E → List Entry) → (A → List Entry) → List Entry
told_or (Ok a) refused rest = rest a
told_or (Err e) refused rest = refused e

-- what is told of each of `each`, and of each in turn of `in_turn`, as long as none is refused
abbrev pub told_each : {A B E : Type 0} → (A → Result B E) → (A → List Entry) → List A → List Entry
told_each f tell [] = []
told_each f tell (x ∷ xs) = tell x ++ unless_refused (f x) (λ _. told_each f tell xs)

abbrev pub told_in_turn : {A B E : Type 0} → (A → B → Result B E) → (A → B → List Entry) → List A → B → List Entry
told_in_turn f tell [] b = []
told_in_turn f tell (x ∷ xs) b = tell x b ++ unless_refused (f x b) (told_in_turn f tell xs)

-- ---- rows that a refusal is about

abbrev pub if_some : {A : Type 0} → Option A → List A
if_some None = []
if_some (Some a) = a ∷ []

-- the first other row of the table that has a row's key
abbrev pub equal_row : List StoredRow → ℕ → NullTreatment → List ℕ → StoredRow → List StoredRow
equal_row rows table nulls columns row = if_some (find (shares_key nulls columns row) (table_rows rows table))

-- that row, if a rule is about a key
abbrev pub equal_row_by : List StoredRow → ℕ → Rule → StoredRow → List StoredRow
equal_row_by rows table (rule.Unique nulls columns) row = equal_row rows table nulls columns row
equal_row_by rows table (rule.PrimaryKey columns) row = equal_row rows table Distinct columns row
equal_row_by rows table _ row = []

-- a row that violates a constraint, and the one whose key it has, if it is about a key
abbrev pub with_equal_row : List StoredRow → Option Constraint → StoredRow → List StoredRow
with_equal_row rows None row = row ∷ []
with_equal_row rows (Some constraint) row = row ∷ equal_row_by rows constraint.table constraint.rule row

-- the rows of a violation of a constraint by the row of this number
abbrev pub rows_of_violation : List StoredRow → Option Constraint → ℕ → List StoredRow
rows_of_violation rows constraint number = elim (row_at rows number) [ Some row ↦ with_equal_row rows constraint row | None ↦ [] ]

-- the same of a constraint that the schema has
abbrev pub rows_of_fault : Schema → List StoredRow → Fault → List StoredRow
rows_of_fault schema rows fault = rows_of_violation rows (slice_get schema.constraints fault.constraint) fault.row

-- a violation, with its rows
abbrev pub fault_told : Schema → List StoredRow → Fault → Entry
fault_told schema rows fault = Faulted fault (rows_of_fault schema rows fault)

-- the violations of these faults
abbrev pub faults_told : Schema → List StoredRow → List Fault → List Entry
faults_told schema rows faults = flat_map (λ fault. fault_told schema rows fault ∷ []) faults

-- a constraint that isn't added since the row of this number violates it, with its rows
abbrev pub not_added_told : List StoredRow → Constraint → ℕ → Entry
not_added_told rows constraint number = NotAdded constraint (rows_of_violation rows (Some constraint) number)

-- how a foreign key disagrees with an earlier one about a row of the later database, by what all foreign keys do to it
abbrev pub disagreement_at : Schema → List StoredRow → List StoredRow → Fault → Option Disagreement
disagreement_at schema rows later fault = elim (row_at later fault.row) [
  | Some after ↦ disagreement fault.constraint (effects_on schema (lost_keys rows later) (row_at rows after.number) after)
  | None ↦ None
]

-- two foreign keys disagree about these rows, and how they do
abbrev pub conflict_told : Fault → List StoredRow → Option Disagreement → Entry
conflict_told fault rows (Some how) = Disagreed fault rows how
conflict_told fault rows None = Faulted fault rows

-- a row that refers to a key which RESTRICT protects, or about which two foreign keys disagree, as it was before the wave
abbrev pub action_fault_told : Schema → List StoredRow → List StoredRow → Cause → List Entry
action_fault_told schema rows later (Restrict fault) = Faulted fault (if_some (row_at rows fault.row)) ∷ []
action_fault_told schema rows later (ActionConflict fault) =
    conflict_told fault (if_some (row_at rows fault.row)) (disagreement_at schema rows later fault) ∷ []
action_fault_told schema rows later _ = []

-- an account tells what failed where a statement is refused for this cause
abbrev pub tells_failure : Cause → Bool
tells_failure NumberOutOfRange = true
tells_failure TextTooLong = true
tells_failure _ = false

-- what failed, if this is the cause of it
abbrev pub failure_told : Cause → Option FailedEvaluation → List Entry
failure_told cause None = []
failure_told cause (Some failure) = if tells_failure cause then Failed failure ∷ [] else []

-- ---- BEFORE triggers

-- What a trigger saw. One for each row is told only its two sides, so that all of them together are no longer than the transitions.
abbrev pub seen : Firing → TriggerView
seen x = record { old = x.frame.old; new = x.frame.new; transition = if for_each_row x.trigger then [] else x.frame.transition }

-- a trigger runs on this
abbrev pub ran : Trigger → Frame → Entry
ran t frame = Ran t.id (seen (record { trigger = t; frame = frame }))

-- A trigger is skipped, as its WHEN has this truth. Of what it saw only the two sides of a row are told, as of one that runs for each
-- row.
abbrev pub skipped : Trigger → Frame → Truth → Entry
skipped t frame when = Skipped t.id (record { old = frame.old; new = frame.new; when = when })

-- a trigger whose WHEN has this truth runs or is skipped
abbrev pub ran_or_skipped : Trigger → Frame → Truth → Entry
ran_or_skipped t frame True = ran t frame
ran_or_skipped t frame when = skipped t frame when

-- what is told of a trigger by the truth of its WHEN, or what failed in it
abbrev pub when_told : List StoredRow → Trigger → Frame → (Truth → List Entry) → List Entry
when_told rows t frame rest =
    told_or (truth (scope_of frame rows) t.when) (λ fault. failure_told (cause_of fault) (when_failure rows t frame)) rest

-- it runs or is skipped by that truth
abbrev pub trigger_told : List StoredRow → Trigger → Frame → List Entry
trigger_told rows t frame = when_told rows t frame (λ when. ran_or_skipped t frame when ∷ [])

-- The BEFORE statement triggers of a statement, in creation order.
abbrev pub before_statement_told : Context → List StoredRow → DataStatement → List Entry
before_statement_told context rows statement =
    told_in_turn (λ t _. while_running t.id (before_statement_run rows t)) (λ t _. trigger_told rows t no_frame)
    (filter (is_before_this statement) context.schema.triggers) tt

-- what failed in a statement of its body on a change, which is nothing unless it is a SET that is refused
abbrev pub set_told : Context → List StoredRow → BodyStatement → Change → List Entry
set_told context rows (body.Set s) c =
    told_or (change_after_set context rows s c) (λ cause. failure_told cause (set_failure context.schema rows s c)) (λ _. [])
set_told context rows _ c = []

-- in its body, statement after statement
abbrev pub sets_told : Context → List StoredRow → Trigger → Change → List Entry
sets_told context rows t c =
    told_in_turn (λ s. change_after_statement context rows t s.0 s.1) (λ s. set_told context rows s.1) (placed_statements t) c

-- a BEFORE row trigger whose WHEN has this truth on a change, and its body, if that is true
abbrev pub before_row_run_told : Context → List StoredRow → Trigger → Change → Truth → List Entry
before_row_run_told context rows t c when =
    ran_or_skipped t (change_frame c) when ∷ (if is_true when then sets_told context rows t c else [])

-- a BEFORE row trigger on a change, if it is on the change's table and event
abbrev pub before_row_told : Context → List StoredRow → Trigger → Change → List Entry
before_row_told context rows t c =
    if is_on c.table (event_of_change c) t then when_told rows t (change_frame c) (before_row_run_told context rows t c) else []

-- a BEFORE row trigger on each of these changes
abbrev pub before_each_told : Context → List StoredRow → Trigger → List Change → List Entry
before_each_told context rows t changes = told_each (change_after_trigger context rows t) (before_row_told context rows t) changes

-- BEFORE row triggers on these changes, one trigger after the other
abbrev pub before_triggers_told : Context → List StoredRow → List Trigger → List Change → List Entry
before_triggers_told context rows triggers changes =
    told_in_turn (λ t. each (change_after_trigger context rows t)) (before_each_told context rows) triggers changes

-- The BEFORE row triggers of a wave with these columns and changes, in creation order.
abbrev pub before_rows_told : Context → List StoredRow → List TableColumn → List Change → List Entry
before_rows_told context rows columns changes =
    before_triggers_told context rows (filter (is_before_row_on columns) context.schema.triggers) changes

-- ---- waves

-- the BEFORE row triggers of a wave that the budget, the transaction and the row numbers allow, as `wave_as_applied` tests them
abbrev pub entered_told : Context → Database → ℕ → Wave → List Entry
entered_told context db budget wave =
    if nat_lt budget (size wave) then []
    else (if nat_lt most_changes_in_a_transaction (db.count + size wave) then []
    else (if is_beyond_last_row (numbered_wave db.next wave).changes then []
    else before_rows_told context db.rows wave.columns (numbered_wave db.next wave).changes))

-- every action except NO ACTION does something to the row
abbrev pub acts : ReferentialAction → Bool
acts action.NoAction = false
acts _ = true

-- what a foreign key has for a row, from how the key to which the row refers was lost, if it was
abbrev pub action_for_loss : Reference → ℕ → Option Loss → List RowAction
action_for_loss k row None = []
action_for_loss k row (Some loss) =
    if acts (action_on k.key loss) then record { constraint = k.id; action = action_on k.key loss; table = k.table; row = row } ∷ [] else []

-- the foreign keys that act on a row: those of its table whose lost key it holds before and after, in creation order
abbrev pub actions_on : Schema → LostKeys → StoredRow → StoredRow → List RowAction
actions_on schema lost before after =
    flat_map (λ k. action_for_loss k before.number (lost_reference lost k.key before))
    (filter (keeps_reference before after) (references schema.constraints))

-- the foreign keys that act on the row of this number, from one database to the next
abbrev pub actions_at : Schema → List StoredRow → List StoredRow → ℕ → List RowAction
actions_at schema rows later number = elim (row_at rows number) [
  | Some before ↦ elim (row_at later number) [ Some after ↦ actions_on schema (lost_keys rows later) before after | None ↦ [] ]
  | None ↦ []
]

-- the foreign keys that act on the rows of the next wave, by row
abbrev pub acted_told : Schema → List StoredRow → List StoredRow → List Change → List Entry
acted_told schema rows later [] = []
acted_told schema rows later (c ∷ next) = Acted (flat_map (λ change. actions_at schema rows later change.row) (c ∷ next)) ∷ []

-- what follows a wave that led from a database to a later one
abbrev pub following_told : Context → Database → Database → List Entry
following_told context db later = elim (following_wave context db later) [
  | Ok next ↦ acted_told context.schema db.rows later.rows next.changes
  | Err failure ↦ action_fault_told context.schema db.rows later.rows failure.cause
]

-- a wave as it was applied, and what follows it
abbrev pub applied_told : Context → Database → Wave → List Entry
applied_told context db wave = Changed wave.changes ∷ following_told context db (database_after db wave)

abbrev pub one_wave_told : Context → Database → ℕ → Wave → List Entry
one_wave_told context db budget wave =
    entered_told context db budget wave ++ unless_refused (wave_as_applied context db budget wave) (applied_told context db)

-- What tells of a wave in a database within a budget, and of those that follow it.
abbrev pub TellsWaves : Type 0
TellsWaves = Database → ℕ → Wave → List Entry

-- An empty wave ends. Otherwise the wave itself is told, and then the rest, as `settled_by` settles them.
abbrev pub waves_told_by : TellsWaves → Context → TellsWaves
waves_told_by others context db budget wave =
    if is_empty wave.changes then []
    else one_wave_told context db budget wave
    ++ unless_refused (one_wave context db budget wave) (λ one. others (database_after db one.wave) (budget - size one.wave) one.next)

abbrev pub no_waves_told : TellsWaves
no_waves_told db budget wave = []

-- the waves that are told, at most so many
abbrev pub waves_told_within : ℕ → Context → TellsWaves
waves_told_within zero context db budget wave = waves_told_by no_waves_told context db budget wave
waves_told_within (suc most) context db budget wave = waves_told_by (waves_told_within most context) context db budget wave

-- The waves of a statement, as `settled_waves` makes them.
abbrev pub waves_told : Context → TellsWaves
waves_told context db budget wave = waves_told_within budget context db budget wave

-- ---- AFTER triggers

-- What tells of a data statement of a trigger's body: by what `Runs` runs it with.
abbrev pub Tells : Type 0
Tells = ℕ → DataStatement → Frame → Database → ℕ → List Entry

-- a data statement at a place of a trigger's body
abbrev pub statement_told : Runs → Tells → Firing → ℕ → BodyStatement → Progress → List Entry
statement_told run tell x place (body.Data statement) at =
    Began place
    ∷ (tell x.trigger.id statement x.frame at.database at.budget
    ++ unless_refused (run x.trigger.id statement x.frame at.database at.budget) (λ _. Ended ∷ []))
statement_told run tell x place (body.Signal text) at = []
statement_told run tell x place (body.Set _) at = []

-- the body of a trigger, statement after statement
abbrev pub body_told : Runs → Tells → Firing → List (ℕ × BodyStatement) → Progress → List Entry
body_told run tell x statements at =
    told_in_turn (λ s. statement_run run x s.0 s.1) (λ s. statement_told run tell x s.0 s.1) statements at

-- a trigger whose WHEN has this truth, and its body, if that is true
abbrev pub fired_told : Runs → Tells → Firing → Progress → Truth → List Entry
fired_told run tell x at when =
    ran_or_skipped x.trigger x.frame when ∷ (if is_true when then body_told run tell x (placed_statements x.trigger) at else [])

-- a trigger that is asked: WHEN sees the database of its moment
abbrev pub firing_told : Runs → Tells → Firing → Progress → List Entry
firing_told run tell x at = when_told at.database.rows x.trigger x.frame (fired_told run tell x at)

-- all triggers that are asked, one after another
abbrev pub firings_told : Runs → Tells → List Firing → Progress → List Entry
firings_told run tell xs at = told_in_turn (firing_run run) (firing_told run tell) xs at

-- ---- a level

-- the first violation of an immediate constraint, if there is one
abbrev pub check_told : Context → Database → List Entry
check_told context db = elim (first (scan db.rows context.schema.constraints (is_chosen context.modes Immediate))) [
  | Some fault ↦ fault_told context.schema db.rows fault ∷ []
  | None ↦ []
]

-- the check of the immediate constraints, and the AFTER triggers that these columns and net changes fire
abbrev pub finished_told : Runs → Tells → Context → DataStatement → List TableColumn → Wave → Progress → List Entry
finished_told run tell context statement columns net at =
    check_told context at.database
    ++ unless_refused (immediate_check context at.database) (λ _. firings_told run tell (firings context statement columns net) at)

-- what a statement proposes, wave after wave, and what comes after the waves
abbrev pub waves_and_after_told : Runs → Tells → Context → DataStatement → Database → ℕ → Wave → List Entry
waves_and_after_told run tell context statement db budget wave =
    waves_told context db budget wave
    ++ unless_refused (settled_waves context db budget wave) (λ s.
    finished_told run tell context statement (level_columns statement s.waves) (net_wave db.rows s.last.rows s.waves)
    (record { database = s.last; budget = s.rest }))

-- what a statement proposes, or what failed in it
abbrev pub proposal_told : Context → DataStatement → Frame → Database → (Wave → List Entry) → List Entry
proposal_told context statement frame db rest =
    told_or (proposed_wave context db frame statement)
    (λ cause. failure_told cause (proposal_failure context.schema db.rows frame statement)) rest

-- The steps of a level, in the order of `level_steps`: what the statement proposes; its BEFORE statement triggers; the waves; the
-- check of the immediate constraints; and the AFTER triggers.
abbrev pub level_steps_told : Runs → Tells → Context → DataStatement → Frame → Database → ℕ → List Entry
level_steps_told run tell context statement frame db budget =
    proposal_told context statement frame db (λ wave.
    before_statement_told context db.rows statement
    ++ unless_refused (before_statement context db.rows statement) (λ _.
    waves_and_after_told run tell context statement db budget wave))

abbrev pub level_told : Runs → Tells → Context → DataStatement → Frame → Database → ℕ → List Entry
level_told run tell context statement frame db zero = []
level_told run tell context statement frame db (suc budget) = level_steps_told run tell context statement frame db budget

-- Of a data statement of a trigger's body, if so many levels may be nested from here on.
abbrev pub nested_told : ℕ → Context → Tells
nested_told zero context trigger statement frame db budget = []
nested_told (suc depth) context trigger statement frame db budget =
    level_told (nested_level depth context) (nested_told depth context) context statement frame db budget

-- The account of a data statement of a script, if so many levels may be nested in it.
abbrev pub account : ℕ → Context → DataStatement → Frame → Database → ℕ → List Entry
account deeper context statement frame db budget =
    level_told (nested_level deeper context) (nested_told deeper context) context statement frame db budget
