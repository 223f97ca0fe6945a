-- What holds of a store that keeps groups and violations beside its rows.
use Rattle.std.specs.Prelude.{◌≡◌, ℕ, ◌≤◌, ◌<◌, List, [], ◌∷◌, length, drop, filter, slice_get, Some}
use Rattle.iv_store_index.specs.Types.{Value, StoredRow, Change, Table, Constraint}
use Rattle.iv_store.specs.Stores.{StoreState, numbers_of}
use Rattle.iv_laws_levels.specs.RisingRows.{Every}
use Rattle.iv_store_groups.specs.Groups.{Contents, GroupOf, groups_of}
use Rattle.iv_store_groups.specs.Laws.{size_of}
use Rattle.iv_store_rows.specs.declared.marked_point.MarkedPoint.{MarkedPoint}
use Rattle.iv_store_rows.specs.Histories.{History, database_of, marked_databases, rows_before_all}
use Rattle.iv_laws_kept.specs.Kept.{AllNamed, is_kept_under}
use Rattle.iv_store_faults.specs.Watching.{AreWatched, IsShownBy, Watching}

-- The store of these tables and constraints, whose rows and marks are those of a history.
abbrev pub state_of : List Table → List Constraint → History → StoreState
state_of tables constraints h = record { tables = tables; constraints = constraints; base = database_of h; marks = marked_databases h }

-- What a store is seen as, with the count of look-ups.
pub record Store : Type 0 where
  pub state : StoreState
  pub looked_up : ℕ

-- each key holds at least as many rows without an allocation as have it among these
abbrev pub HasSizes : List Constraint → List (List GroupOf) → List StoredRow → Type 0
HasSizes constraints groups rows =
    (k : ℕ) (c : Constraint) (key : List Value)
    → slice_get constraints k ≡ Some c → length (numbers_of (filter (is_kept_under c key) rows)) ≤ size_of (groups_of groups k) key

-- The groups and the marks show the rows. And for every database that a mark leads back to, from before each change that was made since,
-- each key holds at least as many rows without an allocation as have it there.
pub record IsKept (h : History) (w : Watching) (groups : Contents) : Type 0 where
  pub shown : IsShownBy h.rows w groups
  pub watched : AreWatched w groups
  pub named : AllNamed w.constraints
  pub sizes : (place : ℕ) (m : MarkedPoint) (n : ℕ) → slice_get h.marks place ≡ Some m → m.noted ≤ n → n ≤ length h.journal
      → HasSizes w.constraints groups.groups (rows_before_all (drop n h.journal) h.rows)

-- the changes are of tables below this number
abbrev pub OfTables : ℕ → List Change → Type 0
OfTables tables [] = Unit {0}
OfTables tables (c ∷ cs) = (c.table < tables) × OfTables tables cs

-- Each row, and each change that is noted, is one of a table that was added.
pub record HasTables (tables : ℕ) (h : History) : Type 0 where
  pub rows : Every (λ r. r.table < tables) h.rows
  pub journal : OfTables tables h.journal
