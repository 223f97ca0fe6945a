-- In a reached state all that the catalogue has suits its tables, and the rows of every database fit them.
use Rattle.std.specs.Prelude.{◌≡◌, Bool, true, List}
use Rattle.std.specs.List.{list_all}
use Rattle.iv_laws_answers.specs.Types.{Statement, Table}
use Rattle.iv_machine.specs.Bounds.{Bounds}
use Rattle.iv_machine.specs.Machine.{Savepoint, State, empty_state, start_database}
use Rattle.iv_laws_fitting.specs.ConstraintShapes.{SchemaSuits}
use Rattle.iv_laws_rows.specs.RowFits.{rows_fit}
use Rattle.iv_step.specs.Step.{run}

abbrev pub savepoint_fits : List Table → Savepoint → Bool
savepoint_fits tables x = rows_fit tables x.database.rows

-- The rows fit: those of the database, those from the start of the transaction, and those of each savepoint.
pub record RowsFit (tables : List Table) (s : State) : Type 0 where
  pub now : rows_fit tables s.database.rows ≡ true
  pub first : rows_fit tables (start_database s).rows ≡ true
  pub saves : list_all (savepoint_fits tables) s.savepoints ≡ true

-- The tables, constraints and triggers suit, and the rows fit.
pub record StateFits (s : State) : Type 0 where
  pub suits : SchemaSuits s.schema
  pub rows : RowsFit s.schema.tables s

-- Every state that a run of statements reaches from an empty one is so.
abbrev pub ReachedStatesFit : Type 0
ReachedStatesFit = (limits : Bounds) (statements : List Statement) → StateFits (run (empty_state limits) statements).1
