-- A data statement that fits meets no value of the wrong kind, and names no column that isn't there, in all that follows from it.
use Rattle.std.specs.Prelude.{◌≡◌, ℕ, Bool, true, false, List, Err}
use Rattle.std.specs.List.{list_all}
use Rattle.iv_laws_rows.specs.Types.{StoredRow, Change, Cause, Refusal, DataStatement, Trigger, Database}
use Rattle.iv_laws_rows.specs.Types.cause.{WrongShape}
use Rattle.iv_expr.specs.Changes.{Wave}
use Rattle.iv_expr.specs.Scopes.{Frame}
use Rattle.iv_machine.specs.Context.{Context, Failure}
use Rattle.iv_machine.specs.BeforeTriggers.{changes_after_triggers, before_statement}
use Rattle.iv_machine.specs.Waves.{settled_waves}
use Rattle.iv_machine.specs.Levels.{nested_level, level}
use Rattle.iv_laws_fitting.specs.PlanShapes.{trigger_suits}
use Rattle.iv_laws_fitting.specs.ConstraintShapes.{SchemaSuits}
use Rattle.iv_laws_levels.specs.FittingWaves.{Numbered}
use Rattle.iv_laws_rows.specs.RowFits.{changes_fit, rows_fit, StatementFits}
use Rattle.iv_laws_rows.specs.Starting.{Starts}

-- the cause of a value of the wrong kind, and of a place that isn't there
abbrev pub is_ill_typed : Cause → Bool
is_ill_typed WrongShape = true
is_ill_typed _ = false

-- ---- BEFORE triggers

-- BEFORE row triggers that suit are well-typed on changes that fit.
abbrev pub RowTriggersAreWellTyped : Type 0
RowTriggersAreWellTyped =
    (context : Context) (rows : List StoredRow) (triggers : List Trigger) (changes : List Change) (refusal : Refusal)
    → list_all (trigger_suits context.schema.tables) triggers ≡ true
    → rows_fit context.schema.tables rows ≡ true → changes_fit context.schema.tables changes ≡ true
    → changes_after_triggers context rows triggers changes ≡ Err refusal
    → is_ill_typed refusal.cause ≡ false

-- BEFORE statement triggers that suit are well-typed too.
abbrev pub StatementTriggersAreWellTyped : Type 0
StatementTriggersAreWellTyped =
    (context : Context) (rows : List StoredRow) (statement : DataStatement) (refusal : Refusal)
    → list_all (trigger_suits context.schema.tables) context.schema.triggers ≡ true
    → rows_fit context.schema.tables rows ≡ true
    → before_statement context rows statement ≡ Err refusal
    → is_ill_typed refusal.cause ≡ false

-- ---- waves and levels

-- All waves from one that may start are well-typed.
abbrev pub WavesAreWellTyped : Type 0
WavesAreWellTyped =
    (context : Context) (db : Database) (budget : ℕ) (wave : Wave) (failure : Failure)
    → SchemaSuits context.schema
    → Starts context db wave → settled_waves context db budget wave ≡ Err failure
    → is_ill_typed failure.cause ≡ false

-- A data statement of a script that fits meets no value of a wrong kind, nor does anything that follows from it.
abbrev pub LevelsAreWellTyped : Type 0
LevelsAreWellTyped =
    (deeper : ℕ) (context : Context) (d : DataStatement) (frame : Frame) (db : Database) (budget : ℕ) (failure : Failure)
    → SchemaSuits context.schema
    → Numbered db → rows_fit context.schema.tables db.rows ≡ true
    → StatementFits context.schema.tables frame d
    → level deeper context d frame db budget ≡ Err failure
    → is_ill_typed failure.cause ≡ false

-- The same holds of a data statement of a trigger's body.
abbrev pub NestedLevelsAreWellTyped : Type 0
NestedLevelsAreWellTyped =
    (depth : ℕ) (context : Context) (trigger : ℕ) (d : DataStatement) (frame : Frame) (db : Database) (budget : ℕ) (failure : Failure)
    → SchemaSuits context.schema
    → Numbered db → rows_fit context.schema.tables db.rows ≡ true
    → StatementFits context.schema.tables frame d
    → nested_level depth context trigger d frame db budget ≡ Err failure
    → is_ill_typed failure.cause ≡ false
