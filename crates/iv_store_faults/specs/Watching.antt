-- Kept violations: what is kept, and which rows it shows.
use Rattle.std.specs.Prelude.{◌≡◌, ℕ, ◌*◌, ◌<◌, ◌≤◌, false, List, [], filter, length, slice_get, Option, Some, ◌∷◌}
use Rattle.iv_catalogue.specs.declared.limits.TheConstants.{MOST_CONSTRAINTS, MOST_TABLES}
use Rattle.iv_machine.specs.Databases.{rows_after, violates}
use Rattle.iv_store.specs.Stores.{numbers_of}
use Rattle.iv_store_faults.specs.Types.{Value, StoredRow, Change, Constraint}
use Rattle.iv_store_following.specs.declared.reference.KeyReference.{KeyReference}
use Rattle.iv_store_faults.specs.declared.table_constraints.TableConstraints.{TableConstraints}
use Rattle.iv_store_groups.specs.Groups.{Contents, GroupOf, groups_of, room_of}
use Rattle.iv_store_violating.specs.Shown.{shown}
use Rattle.iv_laws_levels.specs.RisingRows.{InOrder}
use Rattle.iv_store_groups.specs.Laws.{size_of}
use Rattle.iv_laws_kept.specs.Kept.{AllNamed, Show, is_kept_under}
use Rattle.iv_store_violating.specs.Flagging.{flag}
use Rattle.iv_laws_kept.specs.GroupFlags.{GroupFlags, violating_of, AreFlagged}
use Rattle.iv_laws_kept.specs.Moves.{Holds, taken_back}
use Rattle.iv_store_following.specs.BorrowedChange.{IsPresent, side_key, stays_put}
use Rattle.iv_store_following.specs.Steps.{IsWatched}
use Rattle.iv_store_following.specs.References.{AreReferences}
use Rattle.iv_store_faults.specs.Watch.{AreTabled}

-- The constraints that are watched, and for each which of its groups are flagged.
pub record Watching : Type 0 where
  pub constraints : List Constraint
  pub violating : GroupFlags

-- what stands beside the constraints is theirs
pub record IsTakenUp (constraints : List Constraint) (references : List (Option KeyReference)) (tables : List TableConstraints) (violating : GroupFlags) : Type 0 where
  pub references_are : AreReferences constraints references
  pub references_count : length references ≡ length constraints
  pub named : AllNamed constraints
  pub tabled : AreTabled constraints tables
  pub few : length constraints ≤ MOST_TABLES * MOST_CONSTRAINTS
  pub violating_count : length violating ≡ length constraints

-- each constraint has groups, and a place for the flag of each
abbrev pub AreWatched : Watching → Contents → Type 0
AreWatched w groups = (k : ℕ) → k < length w.constraints → IsWatched k groups.groups w.violating

-- The groups and the flags show these rows: under each key of each constraint are the rows that it keeps there, and the flagged
-- groups are those that violate their constraint.
pub record IsShownBy (rows : List StoredRow) (w : Watching) (groups : Contents) : Type 0 where
  pub in_order : InOrder rows
  pub shows : Show rows w.constraints (shown groups.groups)
  pub flagged : AreFlagged w.constraints (shown groups.groups) w.violating

-- there is room under each key that a row has to be put back under when a change is taken back
abbrev pub HasRoomBack : List Constraint → List (List GroupOf) → Change → Type 0
HasRoomBack constraints groups change =
    (k : ℕ) (c : Constraint) (key : List Value)
    → slice_get constraints k ≡ Some c → stays_put c (taken_back change) ≡ false → side_key c change.table change.old ≡ Some key → 0 < room_of (groups_of groups k) key

-- If the groups show rows, and the changed row holds what the change says, it is under the keys of its old side.
abbrev pub ShownRowsArePresent : Type 0
ShownRowsArePresent =
    (rows : List StoredRow) (constraints : List Constraint) (groups : List (List GroupOf)) (change : Change)
    → Show rows constraints (shown groups) → Holds rows change → IsPresent constraints (shown groups) change

-- no row violates one of these constraints
abbrev pub NoneViolates : List StoredRow → List Constraint → Type 0
NoneViolates rows constraints = (k : ℕ) (c : Constraint) → slice_get constraints k ≡ Some c → ◌≡◌ {A = List StoredRow} (filter (violates rows c) rows) []

-- the same places are flagged, and those that were known still are
pub record ViolatingStay (violating later : GroupFlags) : Type 0 where
  pub count : length violating ≤ length later
  pub flags : (id place : ℕ) → flag (violating_of later id) place ≡ flag (violating_of violating id) place
  pub places : (id : ℕ) → id < length violating → length (violating_of violating id) ≤ length (violating_of later id)

-- If the groups show the rows after a change, and no key can hold fewer rows without an allocation than it had before the change, there is
-- room to take the change back.
abbrev pub RoomSuffices : Type 0
RoomSuffices =
    (rows : List StoredRow) (constraints : List Constraint) (groups : List (List GroupOf)) (change : Change)
    → Holds rows change → Show (rows_after rows (change ∷ [])) constraints (shown groups)
    → ((k : ℕ) (c : Constraint) (key : List Value) → slice_get constraints k ≡ Some c → length (numbers_of (filter (is_kept_under c key) rows)) ≤ size_of (groups_of groups k) key)
    → HasRoomBack constraints groups change
