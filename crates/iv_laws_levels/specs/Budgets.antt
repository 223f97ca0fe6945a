-- How many data statements run in a data statement and how many row changes they make, at all levels, and what they take from the
-- budget.
use Rattle.std.specs.Prelude.{◌≡◌, ℕ, zero, suc, ◌+◌, ◌≤◌, if◌then◌else◌, List, [], ◌∷◌, Result, Ok, Err}
use Rattle.iv_expr.specs.Changes.{Wave}
use Rattle.iv_expr.specs.Evaluation.{and_then}
use Rattle.iv_expr.specs.Scopes.{Frame, scope_of}
use Rattle.iv_laws_levels.specs.Types.{BodyStatement, DataStatement, Database}
use Rattle.iv_laws_levels.specs.Types.body
use Rattle.iv_machine.specs.Databases.{size}
use Rattle.iv_machine.specs.Context.{Context, Failure, over}
use Rattle.iv_machine.specs.Proposals.{holds, proposed_wave}
use Rattle.iv_machine.specs.BeforeTriggers.{placed_statements}
use Rattle.iv_machine.specs.Waves.{SettledWaves, settled_waves, net_wave}
use Rattle.iv_machine.specs.Levels.{Firing, Finished, Progress, Runs, statement_run, firing_run, level_columns, firings, nested_level, level}

-- ---- totals over a level and all inside it

-- what is counted of each in turn, as long as none is refused
abbrev pub total_in_turn : {A B E : Type 0} → (A → B → Result B E) → (A → B → ℕ) → List A → B → ℕ
total_in_turn f count [] b = 0
total_in_turn f count (x ∷ xs) b = count x b + elim (f x b) [ Ok c ↦ total_in_turn f count xs c | Err e ↦ 0 ]

-- What is counted of a data statement of a trigger's body: as it runs, by the trigger's number, the statement, what it sees, the
-- database and the budget.
abbrev pub Counts : Type 0
Counts = ℕ → DataStatement → Frame → Database → ℕ → ℕ

abbrev pub statement_total : Counts → Firing → BodyStatement → Progress → ℕ
statement_total count x (body.Data statement) at = count x.trigger.id statement x.frame at.database at.budget
statement_total count x _ at = 0

-- of a trigger that fires: the statements of its body, if WHEN is true
abbrev pub firing_total : Runs → Counts → Firing → Progress → ℕ
firing_total run count x at =
    elim (holds (scope_of x.frame at.database.rows) x.trigger.when) [
      | Ok fires ↦
          if fires
          then total_in_turn (λ s. statement_run run x s.0 s.1) (λ s. statement_total count x s.1) (placed_statements x.trigger) at
          else 0
      | Err cause ↦ 0
    ]

-- the waves of a data statement
abbrev pub waves_of : Context → DataStatement → Frame → Database → ℕ → Result SettledWaves Failure
waves_of context statement frame db budget =
    and_then (over db (proposed_wave context db frame statement)) (settled_waves context db budget)

-- of a level: what is counted of its own waves, and of the triggers that it fires
abbrev pub level_total : (List Wave → ℕ) → Runs → Counts → Context → DataStatement → Frame → Database → ℕ → ℕ
level_total own run count context statement frame db zero = 0
level_total own run count context statement frame db (suc budget) =
    elim (waves_of context statement frame db budget) [
      | Ok s ↦
          own s.waves
          + total_in_turn (firing_run run) (firing_total run count)
          (firings context statement (level_columns statement s.waves) (net_wave db.rows s.last.rows s.waves)) (record { database = s.last; budget = s.rest })
      | Err failure ↦ 0
    ]

-- of a data statement of a trigger's body, if so many levels may be nested from here on
abbrev pub nested_total : (List Wave → ℕ) → ℕ → Context → Counts
nested_total own zero context trigger statement frame db budget = 0
nested_total own (suc depth) context trigger statement frame db budget =
    level_total own (nested_level depth context) (nested_total own depth context) context statement frame db budget

-- of a data statement of a script, if so many levels may be nested in it
abbrev pub total : (List Wave → ℕ) → ℕ → Context → DataStatement → Frame → Database → ℕ → ℕ
total own deeper context statement frame db budget =
    level_total own (nested_level deeper context) (nested_total own deeper context) context statement frame db budget

-- how many changes these waves have
abbrev pub sizes : List Wave → ℕ
sizes [] = 0
sizes (wave ∷ waves) = size wave + sizes waves

-- one for the waves of each data statement
abbrev pub one_statement : List Wave → ℕ
one_statement waves = 1

-- ---- the budget

-- An accepted data statement of a script takes from the budget one for each data statement, itself among them, and one for each
-- row change of each wave, at all levels; and nothing else.
abbrev pub LevelsTakeFromTheBudget : Type 0
LevelsTakeFromTheBudget =
    (deeper : ℕ) (context : Context) (statement : DataStatement) (frame : Frame) (db : Database) (budget : ℕ) (done : Finished)
    → level deeper context statement frame db budget ≡ Ok done
    → done.rest + total one_statement deeper context statement frame db budget + total sizes deeper context statement frame db budget ≡ budget

-- An accepted data statement of a trigger's body takes the same from the budget.
abbrev pub NestedLevelsTakeFromTheBudget : Type 0
NestedLevelsTakeFromTheBudget =
    (depth : ℕ) (context : Context) (trigger : ℕ) (statement : DataStatement) (frame : Frame) (db : Database) (budget : ℕ)
    (done : Finished)
    → nested_level depth context trigger statement frame db budget ≡ Ok done
    → done.rest + nested_total one_statement depth context trigger statement frame db budget
    + nested_total sizes depth context trigger statement frame db budget
    ≡ budget

-- The waves take exactly one for each row change.
abbrev pub WavesTakeWhatTheyChange : Type 0
WavesTakeWhatTheyChange =
    (context : Context) (db : Database) (budget : ℕ) (wave : Wave) (s : SettledWaves)
    → settled_waves context db budget wave ≡ Ok s
    → s.rest + sizes s.waves ≡ budget

-- ---- the count of row changes

-- The count of row changes after the waves of a data statement is that before, and the waves' sizes.
abbrev pub WavesCountTheirChanges : Type 0
WavesCountTheirChanges =
    (context : Context) (db : Database) (budget : ℕ) (wave : Wave) (s : SettledWaves)
    → settled_waves context db budget wave ≡ Ok s
    → s.last.count ≡ db.count + sizes s.waves

-- The count of row changes after an accepted data statement is that before, and the sizes of all waves at all levels.
abbrev pub LevelsCountTheirChanges : Type 0
LevelsCountTheirChanges =
    (deeper : ℕ) (context : Context) (statement : DataStatement) (frame : Frame) (db : Database) (budget : ℕ) (done : Finished)
    → level deeper context statement frame db budget ≡ Ok done
    → done.database.count ≡ db.count + total sizes deeper context statement frame db budget

-- The count after an accepted data statement of a trigger's body is likewise that before, and the sizes of all waves.
abbrev pub NestedLevelsCountTheirChanges : Type 0
NestedLevelsCountTheirChanges =
    (depth : ℕ) (context : Context) (trigger : ℕ) (statement : DataStatement) (frame : Frame) (db : Database) (budget : ℕ)
    (done : Finished)
    → nested_level depth context trigger statement frame db budget ≡ Ok done
    → done.database.count ≡ db.count + nested_total sizes depth context trigger statement frame db budget

-- If a data statement is refused, the count of row changes is no lower than before it.
abbrev pub RefusedLevelsKeepTheCount : Type 0
RefusedLevelsKeepTheCount =
    (deeper : ℕ) (context : Context) (statement : DataStatement) (frame : Frame) (db : Database) (budget : ℕ) (failure : Failure)
    → level deeper context statement frame db budget ≡ Err failure
    → db.count ≤ failure.count
