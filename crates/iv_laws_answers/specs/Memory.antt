-- The definitions never run out of memory: no tree has the fault of a failed allocation, and no statement is refused for one. Such a
-- refusal is always the program's own.
use Rattle.std.specs.Prelude.{◌≡◌, ◌≢◌, ℕ, false, List, Err}
use Rattle.iv_laws_answers.specs.Types.{StoredRow, Change, Expr, Cond, Cause, Refusal, DataStatement, Trigger, Database}
use Rattle.iv_laws_answers.specs.Types.expr_fault.{NoMemory}
use Rattle.iv_expr.specs.Changes.{Wave}
use Rattle.iv_expr.specs.Scopes.{Scope, Frame}
use Rattle.iv_expr.specs.Evaluation.{value, truth}
use Rattle.iv_catalogue.specs.Refusals.{is_memory_cause}
use Rattle.iv_machine.specs.Context.{Context, Failure}
use Rattle.iv_machine.specs.Proposals.{proposed_wave}
use Rattle.iv_machine.specs.BeforeTriggers.{before_statement, changes_after_triggers}
use Rattle.iv_machine.specs.Waves.{settled_waves}
use Rattle.iv_machine.specs.Levels.{nested_level, level}

-- ---- evaluation

abbrev pub ValuesWantNoMemory : Type 0
ValuesWantNoMemory = (scope : Scope) (e : Expr) → value scope e ≢ Err NoMemory

abbrev pub TruthsWantNoMemory : Type 0
TruthsWantNoMemory = (scope : Scope) (c : Cond) → truth scope c ≢ Err NoMemory

-- ---- a data statement, step by step

-- What a statement proposes is refused for another cause.
abbrev pub ProposalsWantNoMemory : Type 0
ProposalsWantNoMemory =
    (context : Context) (db : Database) (frame : Frame) (d : DataStatement) (cause : Cause)
    → proposed_wave context db frame d ≡ Err cause → is_memory_cause cause ≡ false

-- BEFORE triggers, of rows and of statements, are refused for another cause.
abbrev pub RowTriggersWantNoMemory : Type 0
RowTriggersWantNoMemory =
    (context : Context) (rows : List StoredRow) (triggers : List Trigger) (changes : List Change) (refusal : Refusal)
    → changes_after_triggers context rows triggers changes ≡ Err refusal → is_memory_cause refusal.cause ≡ false

abbrev pub StatementTriggersWantNoMemory : Type 0
StatementTriggersWantNoMemory =
    (context : Context) (rows : List StoredRow) (d : DataStatement) (refusal : Refusal)
    → before_statement context rows d ≡ Err refusal → is_memory_cause refusal.cause ≡ false

-- All waves are refused for another cause.
abbrev pub WavesWantNoMemory : Type 0
WavesWantNoMemory =
    (context : Context) (db : Database) (budget : ℕ) (wave : Wave) (failure : Failure)
    → settled_waves context db budget wave ≡ Err failure → is_memory_cause failure.cause ≡ false

-- A data statement of a script, and one of a trigger's body, with all that follows, is refused for another cause.
abbrev pub LevelsWantNoMemory : Type 0
LevelsWantNoMemory =
    (deeper : ℕ) (context : Context) (d : DataStatement) (frame : Frame) (db : Database) (budget : ℕ) (failure : Failure)
    → level deeper context d frame db budget ≡ Err failure → is_memory_cause failure.cause ≡ false

abbrev pub NestedLevelsWantNoMemory : Type 0
NestedLevelsWantNoMemory =
    (depth : ℕ) (context : Context) (trigger : ℕ) (d : DataStatement) (frame : Frame) (db : Database) (budget : ℕ) (failure : Failure)
    → nested_level depth context trigger d frame db budget ≡ Err failure → is_memory_cause failure.cause ≡ false
