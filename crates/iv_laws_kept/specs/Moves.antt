-- What a change of one row does to groups.
use Rattle.std.specs.Prelude.{◌≡◌, ℕ, Bool, false, if◌then◌else◌, List, [], ◌∷◌, slice_get, Option, Some, None}
use Rattle.iv_laws_kept.specs.Types.{Value, StoredRow, Change, Constraint}
use Rattle.iv_machine.specs.Databases.{row_at, rows_after, scan}
use Rattle.iv_laws_levels.specs.FittingWaves.{old_row}
use Rattle.iv_laws_levels.specs.RisingRows.{InOrder}
use Rattle.iv_laws_kept.specs.Numbers.{with_number, without}
use Rattle.iv_laws_kept.specs.Kept.{Groups, KeysOnce, Show, AllNamed, is_kept_under, rows_under, kept}

-- a constraint keeps this side of a change under this key
abbrev pub side_under : Constraint → List Value → Change → Option (List Value) → Bool
side_under c key change None = false
side_under c key change (Some values) = is_kept_under c key (record { table = change.table; number = change.row; values = values })

-- these numbers without one that was among them, and then with it, if it is among them now
abbrev pub left : Bool → ℕ → List ℕ → List ℕ
left was n numbers = if was then without n numbers else numbers

abbrev pub moved : Bool → Bool → ℕ → List ℕ → List ℕ
moved was is n numbers = if is then with_number n (left was n numbers) else left was n numbers

-- the rows under a key after a change: the changed row leaves the key that it was kept under, and comes to its new one
abbrev pub rows_moved : Constraint → List Value → Change → List ℕ → List ℕ
rows_moved c key change numbers = moved (side_under c key change change.old) (side_under c key change change.new) change.row numbers

-- Groups follow a change of a row, under each key of each constraint.
abbrev pub Follow : List Constraint → Change → Groups → Groups → Type 0
Follow constraints change groups after =
    (id : ℕ) (c : Constraint) (key : List Value)
    → slice_get constraints id ≡ Some c → rows_under after id key ≡ rows_moved c key change (rows_under groups id key)

-- The rows are in order, and the changed row holds what the change says.
abbrev pub Holds : List StoredRow → Change → Type 0
Holds rows change = InOrder rows × (row_at rows change.row ≡ old_row change)

-- the change that takes a change back
abbrev pub taken_back : Change → Change
taken_back change = record { table = change.table; row = change.row; old = change.new; new = change.old }

-- Of all rows that the groups show, if the changed row holds what the change says: groups that follow the change show the rows after it,
-- and what they give is what a scan of these rows finds.
abbrev pub ChangesAreFollowed : Type 0
ChangesAreFollowed =
    (constraints : List Constraint) (change : Change) (groups after : Groups) (rows : List StoredRow)
    → AllNamed constraints → KeysOnce after → Follow constraints change groups after
    → Holds rows change → Show rows constraints groups
    → Show (rows_after rows (change ∷ [])) constraints after
    × ((chosen : ℕ → Bool) → kept constraints after chosen ≡ scan (rows_after rows (change ∷ [])) constraints chosen)

-- Taking a change back: groups that follow this show the rows from before the change, and what they give is what a scan of these rows
-- finds.
abbrev pub ChangesAreTakenBack : Type 0
ChangesAreTakenBack =
    (constraints : List Constraint) (change : Change) (groups after : Groups) (rows : List StoredRow)
    → AllNamed constraints → KeysOnce after → Follow constraints (taken_back change) groups after
    → Holds rows change → Show (rows_after rows (change ∷ [])) constraints groups
    → Show rows constraints after
    × ((chosen : ℕ → Bool) → kept constraints after chosen ≡ scan rows constraints chosen)
