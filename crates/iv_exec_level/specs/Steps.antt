-- The steps of a level as the calls are cut ("Execution of triggers").
use Rattle.std.specs.Prelude.{ℕ, if◌then◌else◌, List, Option, Some, is_none, Result, Ok}
use Rattle.iv_expr.specs.declared.wave.TableColumn.{TableColumn}
use Rattle.iv_expr.specs.Changes.{Wave}
use Rattle.iv_expr.specs.Evaluation.{and_then}
use Rattle.iv_expr.specs.Scopes.{Frame, scope_of}
use Rattle.iv_catalogue.specs.declared.cause.Refusal.{Refusal}
use Rattle.iv_catalogue.specs.declared.plan.DataStatement.{DataStatement}
use Rattle.iv_catalogue.specs.declared.plan.Trigger.{Trigger}
use Rattle.iv_machine.specs.declared.database.Database.{Database}
use Rattle.iv_machine.specs.BeforeTriggers.{before_statement, placed_statements}
use Rattle.iv_machine.specs.Context.{Context, Failure, over, with_count}
use Rattle.iv_machine.specs.Databases.{size}
use Rattle.iv_machine.specs.Levels.{Finished, Firing, Runs, Progress, body_run, firings, firings_run, immediate_check, level_columns}
use Rattle.iv_machine.specs.Proposals.{holds, proposed_wave}
use Rattle.iv_machine.specs.Waves.{net_wave, settled_waves}
use Rattle.iv_laws_rows.specs.Changing.{AnswersAt}
use Rattle.iv_account.specs.declared.entry.Entry.{Entry}
use Rattle.iv_account.specs.Accounts.{before_statement_told, proposal_told}

-- this database, with this much of the budget left
abbrev pub progress : Database → ℕ → Progress
progress db budget = record { database = db; budget = budget }

-- a trigger with what it sees
abbrev pub firing_of : Trigger → Frame → Firing
firing_of trigger frame = record { trigger = trigger; frame = frame }

-- ---- what the calls answer

-- A call that leaves this database and budget answers as the definition of its step says.
abbrev pub Progresses : {A : Type 0} → Result A Refusal → Database → ℕ → Result Progress Failure → Type 0
Progresses result db budget step = AnswersAt (λ _. progress db budget) db.count result step

-- The same of a call that answers how many rows a data statement changes itself.
abbrev pub Finishes : Result ℕ Refusal → Database → ℕ → Result Finished Failure → Type 0
Finishes result db budget level = AnswersAt (λ size. record { database = db; rest = budget; size = size }) db.count result level

-- ---- the steps

-- the body of a trigger, if its WHEN is true
abbrev pub body_run_where_true : Runs → Firing → Progress → Result Progress Failure
body_run_where_true run x at =
    and_then (over at.database (holds (scope_of x.frame at.database.rows) x.trigger.when)) (λ fires.
    if fires then body_run run x (placed_statements x.trigger) at else Ok at)

-- what a statement proposes, unless a BEFORE statement trigger refuses it
abbrev pub allowed_wave : Context → DataStatement → Frame → Database → Result Wave Failure
allowed_wave context statement frame db =
    and_then (over db (proposed_wave context db frame statement)) (λ wave.
    and_then (with_count db (before_statement context db.rows statement)) (λ _. Ok wave))

-- what is told of that
abbrev pub allowed_told : Context → DataStatement → Frame → Database → List Entry
allowed_told context statement frame db = proposal_told context statement frame db (λ wave. before_statement_told context db.rows statement)

-- the innermost trigger of a refusal that comes while this one runs
abbrev pub innermost : ℕ → Option ℕ → Option ℕ
innermost trigger inner = if is_none inner then Some trigger else inner

-- the check of the immediate constraints, and the AFTER triggers that these columns and net changes fire
abbrev pub finished : Runs → Context → DataStatement → List TableColumn → Wave → Progress → Result Progress Failure
finished run context statement columns net at =
    and_then (immediate_check context at.database) (λ _. firings_run run (firings context statement columns net) at)

-- a level after its proposal
abbrev pub waves_and_after : Runs → Context → DataStatement → Database → ℕ → Wave → Result Finished Failure
waves_and_after run context statement db budget wave =
    and_then (settled_waves context db budget wave) (λ s.
    and_then
    (finished run context statement (level_columns statement s.waves) (net_wave db.rows s.last.rows s.waves) (progress s.last s.rest)) (λ at.
    Ok (record { database = at.database; rest = at.budget; size = size wave })))
