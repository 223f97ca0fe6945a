-- The rows of every table fit its columns, whatever statements, waves and triggers do.
use Rattle.std.specs.Prelude.{◌≡◌, ℕ, true, false, List, ◌++◌, slice_get, Some, Ok}
use Rattle.std.specs.List.{list_all}
use Rattle.iv_laws_rows.specs.Types.{StoredRow, Change, TableColumn, Table, DataStatement, Trigger, Database}
use Rattle.iv_expr.specs.Changes.{Wave}
use Rattle.iv_expr.specs.Scopes.{Frame, no_frame}
use Rattle.iv_machine.specs.Databases.{database_after}
use Rattle.iv_machine.specs.Context.{Context}
use Rattle.iv_machine.specs.Proposals.{proposed_changes, proposed_wave}
use Rattle.iv_machine.specs.BeforeTriggers.{for_each_row, is_on, event_of_change, changes_after_triggers}
use Rattle.iv_machine.specs.ReferentialActions.{following_wave}
use Rattle.iv_machine.specs.Waves.{with_numbers, wave_as_applied, SettledWaves, settled_waves, net_wave}
use Rattle.iv_machine.specs.Levels.{Firing, row_firing, statement_firing, firings, Finished, nested_level, level}
use Rattle.iv_laws_fitting.specs.PlanShapes.{plain_shape, table_suits, data_suits, trigger_suits}
use Rattle.iv_laws_fitting.specs.ConstraintShapes.{SchemaSuits}
use Rattle.iv_laws_levels.specs.FittingWaves.{Numbered, FitsDatabase, Chain}
use Rattle.iv_laws_rows.specs.RowFits.{changes_fit, wave_fits, rows_fit, StatementFits, BodyFits}

-- ---- statements

-- The plan of a statement that suits the tables fits outside of triggers.
abbrev pub PlainStatementsFit : Type 0
PlainStatementsFit =
    (tables : List Table) (d : DataStatement)
    → data_suits tables (plain_shape tables) d ≡ true → StatementFits tables no_frame d

-- Rows still fit if there are more tables.
abbrev pub RowsFitMoreTables : Type 0
RowsFitMoreTables =
    (tables more : List Table) (rows : List StoredRow)
    → rows_fit tables rows ≡ true → rows_fit (tables ++ more) rows ≡ true

-- What a statement that fits proposes fits: new values were fitted to their columns, and the columns that it doesn't list take
-- defaults, which fit.
abbrev pub ProposalsFit : Type 0
ProposalsFit =
    (context : Context) (db : Database) (frame : Frame) (d : DataStatement) (changes : List Change)
    → list_all table_suits context.schema.tables ≡ true
    → rows_fit context.schema.tables db.rows ≡ true
    → StatementFits context.schema.tables frame d
    → proposed_changes context db frame d ≡ Ok changes
    → changes_fit context.schema.tables changes ≡ true

-- ---- one wave

-- Row numbers change no values.
abbrev pub NumberedChangesFit : Type 0
NumberedChangesFit =
    (tables : List Table) (next : ℕ) (changes : List Change)
    → changes_fit tables changes ≡ true → changes_fit tables (with_numbers next changes) ≡ true

-- A SET of a BEFORE trigger stores a value that fits its column.
abbrev pub TriggeredChangesFit : Type 0
TriggeredChangesFit =
    (context : Context) (rows : List StoredRow) (triggers : List Trigger) (changes out : List Change)
    → changes_fit context.schema.tables changes ≡ true
    → changes_after_triggers context rows triggers changes ≡ Ok out
    → changes_fit context.schema.tables out ≡ true

-- A wave that fits still fits as it is applied.
abbrev pub AppliedWavesFit : Type 0
AppliedWavesFit =
    (context : Context) (db : Database) (budget : ℕ) (wave out : Wave)
    → wave_fits context.schema.tables wave ≡ true
    → wave_as_applied context db budget wave ≡ Ok out
    → wave_fits context.schema.tables out ≡ true

-- The rows after a wave that fits do.
abbrev pub RowsAfterFit : Type 0
RowsAfterFit =
    (tables : List Table) (db : Database) (wave : Wave)
    → rows_fit tables db.rows ≡ true → wave_fits tables wave ≡ true
    → rows_fit tables (database_after db wave).rows ≡ true

-- What follows a wave fits: CASCADE copies a key between columns of one kind, NULL fits each, and defaults fit.
abbrev pub FollowingWavesFit : Type 0
FollowingWavesFit =
    (context : Context) (db : Database) (wave next : Wave)
    → SchemaSuits context.schema
    → Numbered db → FitsDatabase db wave
    → rows_fit context.schema.tables db.rows ≡ true → wave_fits context.schema.tables wave ≡ true
    → following_wave context db (database_after db wave) ≡ Ok next
    → wave_fits context.schema.tables next ≡ true

-- ---- all waves

-- All waves of a statement fit, and the rows after the last.
abbrev pub SettledWavesFit : Type 0
SettledWavesFit =
    (context : Context) (d : DataStatement) (frame : Frame) (db : Database) (budget : ℕ) (wave : Wave) (s : SettledWaves)
    → SchemaSuits context.schema
    → Numbered db → rows_fit context.schema.tables db.rows ≡ true
    → wave_fits context.schema.tables wave ≡ true
    → proposed_wave context db frame d ≡ Ok wave → settled_waves context db budget wave ≡ Ok s
    → (rows_fit context.schema.tables s.last.rows ≡ true) × (list_all (wave_fits context.schema.tables) s.waves ≡ true)

-- The net changes of a chain of waves fit.
abbrev pub NetChangesFit : Type 0
NetChangesFit =
    (tables : List Table) (db last : Database) (waves : List Wave)
    → Chain db waves last
    → rows_fit tables db.rows ≡ true → rows_fit tables last.rows ≡ true
    → wave_fits tables (net_wave db.rows last.rows waves) ≡ true

-- ---- triggers

-- The body of a trigger fits at each of its transitions: OLD and NEW are there if its event has them, with the kinds of its table.
abbrev pub RowFiringsFit : Type 0
RowFiringsFit =
    (tables : List Table) (t : Trigger) (transitions : List Change) (place : ℕ) (c : Change)
    → trigger_suits tables t ≡ true
    → changes_fit tables transitions ≡ true
    → list_all (λ x. is_on x.table (event_of_change x) t) transitions ≡ true
    → slice_get transitions place ≡ Some c
    → BodyFits tables (row_firing t transitions c).frame t.body

-- The body of a statement trigger fits, once for all its transitions.
abbrev pub StatementFiringsFit : Type 0
StatementFiringsFit =
    (tables : List Table) (t : Trigger) (transitions : List Change)
    → trigger_suits tables t ≡ true
    → for_each_row t ≡ false
    → changes_fit tables transitions ≡ true
    → list_all (λ x. is_on x.table (event_of_change x) t) transitions ≡ true
    → BodyFits tables (statement_firing t transitions).frame t.body

-- The bodies of all triggers that fire on net changes which fit do so, whatever the columns.
abbrev pub FiringsFit : Type 0
FiringsFit =
    (context : Context) (d : DataStatement) (columns : List TableColumn) (net : Wave) (place : ℕ) (x : Firing)
    → list_all (trigger_suits context.schema.tables) context.schema.triggers ≡ true
    → wave_fits context.schema.tables net ≡ true
    → slice_get (firings context d columns net) place ≡ Some x
    → BodyFits context.schema.tables x.frame x.trigger.body

-- ---- levels

-- A data statement of a script that fits leaves rows that fit.
abbrev pub LevelsKeepRowsFitting : Type 0
LevelsKeepRowsFitting =
    (deeper : ℕ) (context : Context) (d : DataStatement) (frame : Frame) (db : Database) (budget : ℕ) (done : Finished)
    → SchemaSuits context.schema
    → Numbered db → rows_fit context.schema.tables db.rows ≡ true
    → StatementFits context.schema.tables frame d
    → level deeper context d frame db budget ≡ Ok done
    → rows_fit context.schema.tables done.database.rows ≡ true

-- A data statement of a trigger's body that fits leaves rows that fit.
abbrev pub NestedLevelsKeepRowsFitting : Type 0
NestedLevelsKeepRowsFitting =
    (depth : ℕ) (context : Context) (trigger : ℕ) (d : DataStatement) (frame : Frame) (db : Database) (budget : ℕ) (done : Finished)
    → SchemaSuits context.schema
    → Numbered db → rows_fit context.schema.tables db.rows ≡ true
    → StatementFits context.schema.tables frame d
    → nested_level depth context trigger d frame db budget ≡ Ok done
    → rows_fit context.schema.tables done.database.rows ≡ true
