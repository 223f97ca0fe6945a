-- Constraints that are changed one after the other.
use Rattle.std.specs.Prelude.{◌≡◌, ℕ, ◌+◌, ◌*◌, ◌<◌, ◌≤◌, ◌==◌, Bool, true, false, if◌then◌else◌, List, length, map, slice_get, Option, Some}
use Rattle.iv_store_following.specs.Types.{Value, Change, Constraint}
use Rattle.iv_store_groups.specs.Groups.{GroupOf, Contents, groups_of, room_of}
use Rattle.iv_store_groups.specs.Laws.{size_of}
use Rattle.iv_store_violating.specs.Shown.{shown_group, shown_of}
use Rattle.iv_laws_kept.specs.GroupFlags.{GroupFlags, violating_of}
use Rattle.iv_laws_kept.specs.Numbers.{has}
use Rattle.iv_store_following.specs.References.{ReferenceMoved, reference_at}
use Rattle.iv_store_following.specs.declared.reference.KeyReference.{KeyReference}
use Rattle.iv_store_following.specs.BorrowedChange.{side_key, stays_put}
use Rattle.iv_store_following.specs.Steps.{IsWatched, KeyMoved, RowsStay, is_reference}

-- what a step leaves of one constraint's groups and flags, by its number
abbrev pub Left : Type 1
Left = ℕ → List GroupOf → List Bool → List GroupOf → List Bool → Type 0

-- Each of the constraints of these numbers has been changed as this says, except the rest, which stand as at the start, as all others do.
-- No key can hold fewer rows without an allocation, and for each constraint there were so many look-ups at most.
pub record Turned (Leaves : Left) (most : ℕ) (places rest : List ℕ) (start now : Contents) (violating later : GroupFlags) : Type 0 where
  pub count : length now.groups ≡ length start.groups
  pub violating_count : length later ≡ length violating
  pub inside : (k : ℕ) → has k rest ≡ true → has k places ≡ true
  pub done : (k : ℕ) → has k places ≡ true → has k rest ≡ false → Leaves k (groups_of start.groups k) (violating_of violating k) (groups_of now.groups k) (violating_of later k)
  pub waiting : (k : ℕ) → has k rest ≡ true → (groups_of now.groups k ≡ groups_of start.groups k) × (violating_of later k ≡ violating_of violating k)
  pub others : (k : ℕ) → has k places ≡ false → (groups_of now.groups k ≡ groups_of start.groups k) × (violating_of later k ≡ violating_of violating k)
  pub watched : (k : ℕ) → IsWatched k start.groups violating → IsWatched k now.groups later
  pub sizes : (k : ℕ) (key : List Value) → size_of (groups_of start.groups k) key ≤ size_of (groups_of now.groups k) key
  pub grows : start.looked_up ≤ now.looked_up
  pub looked_up : now.looked_up + most * length rest ≤ start.looked_up + most * length places

-- the row has moved in the groups of a constraint that is no foreign key
abbrev pub KeyTurn : List Constraint → Change → Left
KeyTurn constraints change k groups violating after later =
    (c : Constraint) → slice_get constraints k ≡ Some c → is_reference c.rule ≡ false → KeyMoved change c (map shown_group groups) violating (map shown_group after) later

-- the row has moved in the groups of a foreign key, whose named key's groups are these
abbrev pub ReferenceTurn : List Constraint → List (Option KeyReference) → Change → List (List GroupOf) → Left
ReferenceTurn constraints references change all k groups violating after later =
    (c : Constraint) (r : KeyReference) → slice_get constraints k ≡ Some c → reference_at references k ≡ Some r
    → ReferenceMoved r change (shown_of all r.named) c (map shown_group groups) violating (map shown_group after) later

-- no row has moved
abbrev pub StayTurn : List Constraint → Left
StayTurn constraints k groups violating after later =
    (c : Constraint) → slice_get constraints k ≡ Some c → RowsStay c (map shown_group groups) violating (map shown_group after) later

-- the new side of the change has room under its key, if it is another one than that of the old side
abbrev pub HasRoom : List Constraint → Change → ℕ → List GroupOf → Type 0
HasRoom constraints change k groups =
    (c : Constraint) (key : List Value) → slice_get constraints k ≡ Some c → stays_put c change ≡ false → side_key c change.table change.new ≡ Some key → 0 < room_of groups key

-- no row has moved, and the new side has room
abbrev pub RoomTurn : List Constraint → Change → Left
RoomTurn constraints change k groups violating after later = StayTurn constraints k groups violating after later × HasRoom constraints change k after

-- No row of any constraint has moved, no key can hold fewer rows without an allocation, and there were so many look-ups at most.
pub record AllStay (constraints : List Constraint) (most : ℕ) (start now : Contents) (violating later : GroupFlags) : Type 0 where
  pub count : length now.groups ≡ length start.groups
  pub violating_count : length later ≡ length violating
  pub stay : (k : ℕ) → StayTurn constraints k (groups_of start.groups k) (violating_of violating k) (groups_of now.groups k) (violating_of later k)
  pub watched : (k : ℕ) → IsWatched k start.groups violating → IsWatched k now.groups later
  pub sizes : (k : ℕ) (key : List Value) → size_of (groups_of start.groups k) key ≤ size_of (groups_of now.groups k) key
  pub grows : start.looked_up ≤ now.looked_up
  pub looked_up : now.looked_up ≤ start.looked_up + most

-- No row of any constraint has moved, and flags that were right are right: groups without rows were given back, so a key may hold fewer
-- rows without an allocation. No look-up was made.
pub record AllGiven (start now : Contents) (violating later : GroupFlags) : Type 0 where
  pub count : length now.groups ≡ length start.groups
  pub violating_count : length later ≡ length violating
  pub stay : (k : ℕ) (c : Constraint) → RowsStay c (map shown_group (groups_of start.groups k)) (violating_of violating k) (map shown_group (groups_of now.groups k)) (violating_of later k)
  pub watched : (k : ℕ) → IsWatched k start.groups violating → IsWatched k now.groups later
  pub looked_up : now.looked_up ≡ start.looked_up

-- A place is flagged, after the flag of one place, if it has one, has moved to another.
abbrev pub moved_flag : Bool → ℕ → ℕ → ℕ → Bool → Bool
moved_flag flagged from to place was = if flagged then (if place == to then true else if place == from then false else was) else was
