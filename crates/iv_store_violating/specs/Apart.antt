-- Groups of which no two have a row in common.
use Rattle.std.specs.Prelude.{◌≡◌, ℕ, List, true, slice_get, Some}
use Rattle.iv_expr.specs.declared.row.StoredRow.{StoredRow}
use Rattle.iv_catalogue.specs.declared.constraint.Constraint.{Constraint}
use Rattle.iv_laws_levels.specs.RisingRows.{InOrder}
use Rattle.iv_laws_kept.specs.Numbers.{has, Rise}
use Rattle.iv_laws_kept.specs.Kept.{Group, Groups, groups_of, KeysOnce, Show}
use Rattle.iv_laws_kept.specs.GroupFlags.{rows_at}

-- The rows of each group rise, and no row is in two groups.
pub record IsApart (own : List Group) : Type 0 where
  pub rise : (place : ℕ) → Rise (rows_at own place)
  pub apart : (place other n : ℕ) → has n (rows_at own place) ≡ true → has n (rows_at own other) ≡ true → place ≡ other

-- In each constraint the rows of each group rise, and no row is in two groups.
abbrev pub AreApart : List Constraint → Groups → Type 0
AreApart constraints groups = (id : ℕ) (c : Constraint) → slice_get constraints id ≡ Some c → IsApart (groups_of groups id)

-- Groups that show rows are apart: a constraint keeps a row under one key at most.
abbrev pub ShownGroupsAreApart : Type 0
ShownGroupsAreApart =
    (rows : List StoredRow) (constraints : List Constraint) (groups : Groups)
    → InOrder rows → KeysOnce groups → Show rows constraints groups → AreApart constraints groups
