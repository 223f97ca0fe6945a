-- What holds before each wave of a data statement.
use Rattle.std.specs.Prelude.{◌≡◌, true, List}
use Rattle.iv_expr.specs.declared.row.Change.{Change}
use Rattle.iv_machine.specs.Context.{Context}
use Rattle.iv_store.specs.Stores.{StoreState}
use Rattle.iv_laws_levels.specs.FittingWaves.{Numbered}
use Rattle.iv_laws_levels.proofs.Readying.{Ready}
use Rattle.iv_laws_rows.specs.RowFits.{changes_fit}
use Rattle.iv_laws_rows.specs.Changing.{StoreFits}

-- The store fits, and its rows are numbered. The changes, whose new rows have no numbers yet, fit too, and say what the rows hold.
pub record Progress (context : Context) (s : StoreState) (changes : List Change) : Type 0 where
  pub fits : StoreFits context.schema s
  pub numbered : Numbered s.base
  pub fit : changes_fit context.schema.tables changes ≡ true
  pub ready : Ready s.base.rows changes
