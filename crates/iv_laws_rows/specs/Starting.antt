-- What a wave is settled from, step by step, and what a store asks of each change of it.
use Rattle.std.specs.Prelude.{◌≡◌, ℕ, ◌<◌, ◌≤◌, true, List, [], ◌∷◌, length, IfSome, Ok}
use Rattle.std.specs.List.{list_all}
use Rattle.iv_laws_rows.specs.Types.{Change, Table, DataStatement, Database}
use Rattle.iv_expr.specs.Changes.{Wave}
use Rattle.iv_expr.specs.Scopes.{Frame}
use Rattle.iv_machine.specs.Bounds.{most_changes_in_a_transaction, last_row_number}
use Rattle.iv_machine.specs.Databases.{row_at, database_after}
use Rattle.iv_machine.specs.Context.{Context}
use Rattle.iv_machine.specs.Proposals.{proposed_wave}
use Rattle.iv_machine.specs.ReferentialActions.{following_wave}
use Rattle.iv_machine.specs.Waves.{values_at, wave_as_applied, SettledWaves, settled_waves}
use Rattle.iv_store.specs.Stores.{fits_table}
use Rattle.iv_laws_fitting.specs.PlanShapes.{table_suits}
use Rattle.iv_laws_fitting.specs.ConstraintShapes.{SchemaSuits}
use Rattle.iv_laws_levels.specs.FittingWaves.{Numbered, FitsDatabase, Chain}
use Rattle.iv_laws_levels.specs.Reorderings.{after_changes}
use Rattle.iv_laws_rows.specs.RowFits.{wave_fits, rows_fit, StatementFits}

-- A wave may start from a database: numbers rise, rows and changes fit their tables, and as it is applied it fits the database.
pub record Starts (context : Context) (db : Database) (wave : Wave) : Type 0 where
  pub numbered : Numbered db
  pub rows : rows_fit context.schema.tables db.rows ≡ true
  pub changes : wave_fits context.schema.tables wave ≡ true
  pub applied : (budget : ℕ) (out : Wave) → wave_as_applied context db budget wave ≡ Ok out → FitsDatabase db out

-- What a store asks of a change: its table is there, its old values are the row's, its new ones fit, and there is room.
pub record MayBeMade (tables : List Table) (db : Database) (c : Change) : Type 0 where
  pub added : c.table < length tables
  pub current : values_at db.rows c.row ≡ c.old
  pub own : IfSome (row_at db.rows c.row) (λ row. row.table ≡ c.table)
  pub fits : IfSome c.new (λ values. fits_table tables c.table values ≡ true)
  pub positive : 0 < c.row
  pub small : c.row ≤ last_row_number
  pub room : db.count < most_changes_in_a_transaction

-- each may be made, after those before it were
abbrev pub AllMayBeMade : List Table → Database → List Change → Type 0
AllMayBeMade tables db [] = Unit {0}
AllMayBeMade tables db (c ∷ changes) = MayBeMade tables db c × AllMayBeMade tables (after_changes db (c ∷ [])) changes

-- What a statement that fits proposes may start.
abbrev pub ProposalsStart : Type 0
ProposalsStart =
    (context : Context) (d : DataStatement) (frame : Frame) (db : Database) (wave : Wave)
    → list_all table_suits context.schema.tables ≡ true
    → Numbered db → rows_fit context.schema.tables db.rows ≡ true
    → StatementFits context.schema.tables frame d
    → proposed_wave context db frame d ≡ Ok wave
    → Starts context db wave

-- The changes of a wave that starts, as it is applied, may be made one after another.
abbrev pub ChangesMayBeMade : Type 0
ChangesMayBeMade =
    (context : Context) (db : Database) (budget : ℕ) (wave out : Wave)
    → Starts context db wave → wave_as_applied context db budget wave ≡ Ok out
    → AllMayBeMade context.schema.tables db out.changes

-- What follows a wave that starts may start from the database after it.
abbrev pub NextWavesStart : Type 0
NextWavesStart =
    (context : Context) (db : Database) (budget : ℕ) (wave out next : Wave)
    → SchemaSuits context.schema
    → Starts context db wave → wave_as_applied context db budget wave ≡ Ok out
    → following_wave context db (database_after db out) ≡ Ok next
    → Starts context (database_after db out) next

-- All waves from one that starts are a chain of waves that fit, to rows that fit.
abbrev pub StartedWavesFit : Type 0
StartedWavesFit =
    (context : Context) (db : Database) (budget : ℕ) (wave : Wave) (s : SettledWaves)
    → SchemaSuits context.schema
    → Starts context db wave → settled_waves context db budget wave ≡ Ok s
    → Chain db s.waves s.last × (rows_fit context.schema.tables s.last.rows ≡ true) × (list_all (wave_fits context.schema.tables) s.waves ≡ true)
