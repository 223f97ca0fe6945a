-- When a store takes the changes of a wave one after another, and what a statement proposes.
use Rattle.std.specs.Prelude.{◌≡◌, ◌+◌, ◌<◌, ◌≤◌, true, false, List, length, IfSome, Ok}
use Rattle.iv_expr.specs.declared.row.Change.{Change}
use Rattle.iv_expr.specs.Changes.{RisingChanges}
use Rattle.iv_expr.specs.Scopes.{Frame}
use Rattle.iv_catalogue.specs.declared.catalogue.Table.{Table}
use Rattle.iv_catalogue.specs.declared.plan.DataStatement.{DataStatement}
use Rattle.iv_machine.specs.declared.database.Database.{Database}
use Rattle.iv_machine.specs.Bounds.{last_row_number, most_changes_in_a_transaction}
use Rattle.iv_machine.specs.Context.{Context}
use Rattle.iv_machine.specs.Databases.{row_at}
use Rattle.iv_machine.specs.Proposals.{proposed_changes}
use Rattle.iv_machine.specs.Waves.{values_at, is_beyond_last_row}
use Rattle.iv_store.specs.Stores.{StoreState, fits_table}
use Rattle.iv_laws_levels.specs.FittingWaves.{Current, Numbered}
use Rattle.iv_laws_rows.specs.RowFits.{changes_fit}

-- a change that the store takes
pub record IsNext (s : StoreState) (c : Change) : Type 0 where
  pub added : c.table < length s.tables
  pub current : values_at s.base.rows c.row ≡ c.old
  pub own : IfSome (row_at s.base.rows c.row) (λ row. row.table ≡ c.table)
  pub fits : IfSome c.new (λ values. fits_table s.tables c.table values ≡ true)
  pub positive : 0 < c.row
  pub small : c.row ≤ last_row_number
  pub room : s.base.count < most_changes_in_a_transaction

-- Changes that a database takes one after another: they are by rising row number, say what the rows hold, and fit the tables; their
-- rows have numbers that rows may have, and the transaction has room for them.
pub record Applicable (tables : List Table) (db : Database) (changes : List Change) : Type 0 where
  pub numbered : Numbered db
  pub rising : RisingChanges changes
  pub current : Current db.rows changes
  pub small : is_beyond_last_row changes ≡ false
  pub room : db.count + length changes ≤ most_changes_in_a_transaction
  pub fit : changes_fit tables changes ≡ true

-- the changes are what a statement proposes
pub record Proposes (context : Context) (db : Database) (changes : List Change) : Type 0 where
  pub statement : DataStatement
  pub frame : Frame
  pub is : proposed_changes context db frame statement ≡ Ok changes
