-- When rows, changes and statements fit the tables: each value fits its column, by its kind and its length ("Store assignment").
use Rattle.std.specs.Prelude.{◌≡◌, ℕ, Bool, true, ◌&&◌, ◌||◌, List, [], Option, Some, None, is_some, slice_get}
use Rattle.std.specs.List.{list_all}
use Rattle.iv_laws_rows.specs.Types.{Value, StoredRow, Change, Table, BodyStatement, DataStatement}
use Rattle.iv_laws_rows.specs.Types.body
use Rattle.iv_expr.specs.Changes.{Wave}
use Rattle.iv_expr.specs.Scopes.{Frame, scope_of}
use Rattle.iv_expr.specs.Suiting.{Shape, HasShape}
use Rattle.iv_store.specs.Stores.{fits_table}
use Rattle.iv_laws_fitting.specs.PlanShapes.{table_kinds, is_there, data_suits}

-- ---- rows and changes

-- the row before or after a change fits its table, if there is one
abbrev pub side_fits : List Table → ℕ → Option (List Value) → Bool
side_fits tables table None = true
side_fits tables table (Some values) = fits_table tables table values

-- no change is from nothing to nothing
abbrev pub has_side : Change → Bool
has_side c = is_some c.old || is_some c.new

-- a change is of a table that is there, has a side, and each side fits the table
abbrev pub change_fits : List Table → Change → Bool
change_fits tables c = is_there tables c.table && (has_side c && (side_fits tables c.table c.old && side_fits tables c.table c.new))

abbrev pub changes_fit : List Table → List Change → Bool
changes_fit tables changes = list_all (change_fits tables) changes

abbrev pub wave_fits : List Table → Wave → Bool
wave_fits tables wave = changes_fit tables wave.changes

abbrev pub row_fits : List Table → StoredRow → Bool
row_fits tables r = fits_table tables r.table r.values

-- Each row fits its table.
abbrev pub rows_fit : List Table → List StoredRow → Bool
rows_fit tables rows = list_all (row_fits tables) rows

-- ---- statements

-- A statement that suits the tables and what its frame holds, whatever rows there are that fit.
pub record StatementFits (tables : List Table) (frame : Frame) (d : DataStatement) : Type 0 where
  pub shape : Shape
  pub outside : shape.ranges ≡ []
  pub kinds : (t : ℕ) → shape.tables t ≡ table_kinds tables t
  pub holds : (rows : List StoredRow) → rows_fit tables rows ≡ true → HasShape (scope_of frame rows) shape
  pub suits : data_suits tables shape d ≡ true

-- Each data statement of a body fits, under this frame.
abbrev pub BodyFits : List Table → Frame → List BodyStatement → Type 0
BodyFits tables frame statements =
    (place : ℕ) (d : DataStatement) → slice_get statements place ≡ Some (body.Data d) → StatementFits tables frame d
