-- Of which kinds the rows of a table are known to be.
use Rattle.std.specs.Prelude.{◌≡◌, ℕ, true, List, [], ◌∷◌, Option, Some, None, slice_get}
use Rattle.iv_store_index.specs.Types.{Value, Change}
use Rattle.iv_expr.specs.Searches.{Fits}
use Rattle.iv_store_index.specs.declared.kinds.ColumnKinds.{ColumnKinds}
use Rattle.iv_laws_levels.specs.RisingRows.{Every}
use Rattle.iv_store_rows.specs.Histories.{History}

-- a row is of these kinds, if all rows of its table are said to be
abbrev pub FitsWhereSaid : List Value → Option ColumnKinds → Type 0
FitsWhereSaid row None = Unit {0}
FitsWhereSaid row (Some k) = k.all_fit ≡ true → Fits k.kinds.items row

-- A row of a table is of the kinds of its columns, if all rows of the table are said to be.
abbrev pub IsKnownToFit : List ColumnKinds → ℕ → List Value → Type 0
IsKnownToFit known table row = FitsWhereSaid row (slice_get known table)

-- The same of a row that may be there.
abbrev pub IsKnownWhere : List ColumnKinds → ℕ → Option (List Value) → Type 0
IsKnownWhere known table None = Unit {0}
IsKnownWhere known table (Some row) = IsKnownToFit known table row

-- What each change took away is of the kinds that are said.
abbrev pub OldsAreKnown : List ColumnKinds → List Change → Type 0
OldsAreKnown known [] = Unit {0}
OldsAreKnown known (c ∷ cs) = IsKnownWhere known c.table c.old × OldsAreKnown known cs

-- Each row, and each that comes back if a change is undone, is of the kinds that are said.
pub record AreKnown (known : List ColumnKinds) (h : History) : Type 0 where
  pub rows : Every (λ r. IsKnownToFit known r.table r.values) h.rows
  pub olds : OldsAreKnown known h.journal
