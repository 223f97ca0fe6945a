-- What follows from the definitions: groups are a finite map from constraints and keys to rows, whose places stay, and what is undone is as before.
use Rattle.std.specs.Prelude.{◌≡◌, ◌≢◌, ℕ, ◌+◌, ◌<◌, ◌≤◌, ◌==◌, ◌&&◌, ◌-◌, List, length, Some, None, true, false, if◌then◌else◌, slice_index_or}
use Rattle.iv_value.specs.declared.value.Value.{Value}
use Rattle.iv_value.specs.Values.{all_same}
use Rattle.iv_numbers.specs.Rows.{Rows, IsRising, has_row}
use Rattle.iv_store_groups.specs.Groups.{EachIsApart, GroupOf, groups_of, given_back, held_at, is_dead, no_group, place_after, place_in, rows_of, room_of, with_groups, with_held, with_room_under, with_row_put, with_row_under, without_group, without_row_under}

-- Two keys are the same exactly if they are equal.
abbrev pub SameIsEqual : Type 0
SameIsEqual = (a b : List Value) → (all_same a b ≡ true → a ≡ b) × (a ≡ b → all_same a b ≡ true)

-- After a change of a constraint's groups it has those groups, and every other constraint has what it had.
abbrev pub GroupsAfter : Type 0
GroupsAfter = (groups : List (List GroupOf)) (constraint other : ℕ) (new : List GroupOf) → constraint < length groups
    → groups_of (with_groups groups constraint new) other ≡ (if other == constraint then new else groups_of groups other)

-- A change of a constraint's groups leaves the number of constraints.
abbrev pub ConstraintsStay : Type 0
ConstraintsStay = (groups : List (List GroupOf)) (constraint : ℕ) (new : List GroupOf) → length (with_groups groups constraint new) ≡ length groups

-- After a change of a key's rows it has those rows, and every other key has what it had.
abbrev pub HeldAfter : Type 0
HeldAfter = (groups : List GroupOf) (key other : List Value) (held : Rows)
    → held_at (with_held groups key held) other ≡ (if all_same key other then held else held_at groups other)

-- Both together: after a change of the rows of a key in a constraint, this key has those rows there, and every other key of
-- this constraint and every key of another has what it had.
abbrev pub IsFiniteMap : Type 0
IsFiniteMap = (groups : List (List GroupOf)) (constraint place : ℕ) (key other : List Value) (held : Rows) → constraint < length groups
    → held_at (groups_of (with_groups groups constraint (with_held (groups_of groups constraint) key held)) place) other
    ≡ (if (place == constraint) && all_same key other then held else held_at (groups_of groups place) other)

-- A key that has a place keeps it.
abbrev pub PlaceStays : Type 0
PlaceStays = (groups : List GroupOf) (key other : List Value) (held : Rows) (place : ℕ)
    → place_in groups other ≡ Some place → place_in (with_held groups key held) other ≡ Some place

-- The group at a key's place has its key and its rows.
abbrev pub GroupAtPlace : Type 0
GroupAtPlace = (groups : List GroupOf) (key : List Value) (place : ℕ) (d : GroupOf) → place_in groups key ≡ Some place
    → (place < length groups) × ((slice_index_or groups place d).key ≡ key) × ((slice_index_or groups place d).held ≡ held_at groups key)

-- The groups at other places stay.
abbrev pub OtherPlacesStay : Type 0
OtherPlacesStay = (groups : List GroupOf) (key : List Value) (held : Rows) (place : ℕ) (d : GroupOf) → place < length groups
    → (place_in groups key ≡ Some place → ⊥) → slice_index_or (with_held groups key held) place d ≡ slice_index_or groups place d

-- If a row isn't under its key, to put it there is to add it.
abbrev pub PutIsAdded : Type 0
PutIsAdded = (groups : List GroupOf) (key : List Value) (row : ℕ) → has_row row (rows_of groups key) ≡ false
    → with_row_put key row groups ≡ with_row_under key row groups

-- A row that was removed and put back leaves the groups as they were, room included.
abbrev pub RemovedAndPutBack : Type 0
RemovedAndPutBack = (groups : List GroupOf) (key : List Value) (row : ℕ) → IsRising (rows_of groups key) → has_row row (rows_of groups key) ≡ true
    → with_row_put key row (without_row_under key row groups) ≡ groups

-- A row that was added and removed leaves the rows of every key as they were.
abbrev pub AddedAndRemoved : Type 0
AddedAndRemoved = (groups : List GroupOf) (key : List Value) (row : ℕ) (other : List Value) → has_row row (rows_of groups key) ≡ false
    → rows_of (without_row_under key row (with_row_under key row groups)) other ≡ rows_of groups other

-- How many rows a key holds and takes without an allocation.
abbrev pub size_of : List GroupOf → List Value → ℕ
size_of groups key = length (rows_of groups key) + room_of groups key

-- The rows of a key with its room never get fewer, whatever row is added or put, and whatever key gets room.
pub record SizeGrows : Type 0 where
  pub added : (groups : List GroupOf) (key other : List Value) (row : ℕ) → size_of groups other ≤ size_of (with_row_under key row groups) other
  pub put : (groups : List GroupOf) (key other : List Value) (row : ℕ) → size_of groups other ≤ size_of (with_row_put key row groups) other
  pub room : (groups : List GroupOf) (key other : List Value) → size_of groups other ≤ size_of (with_room_under key groups) other

-- They are as many as before if a row is removed, and if one is put under a key that has room.
pub record SizeStays : Type 0 where
  pub removed : (groups : List GroupOf) (key other : List Value) (row : ℕ) → has_row row (rows_of groups key) ≡ true
      → size_of (without_row_under key row groups) other ≡ size_of groups other
  pub put : (groups : List GroupOf) (key other : List Value) (row : ℕ) → 0 < room_of groups key
      → size_of (with_row_put key row groups) other ≡ size_of groups other

-- What there is after a group was taken away, if no two groups have one key.
pub record GroupLeaves (groups : List GroupOf) (place : ℕ) : Type 0 where
  -- no two have one key
  pub apart : EachIsApart (without_group groups place)
  -- there is one less
  pub count : length (without_group groups place) ≡ length groups - 1
  -- its key has none
  pub gone : place_in (without_group groups place) (slice_index_or groups place no_group).key ≡ None
  -- a key that had none has none
  pub none : (key : List Value) → place_in groups key ≡ None → place_in (without_group groups place) key ≡ None
  -- every other key has the rows and the room that it had
  pub held : (key : List Value) → all_same (slice_index_or groups place no_group).key key ≡ false → held_at (without_group groups place) key ≡ held_at groups key
  -- and stands where it stood, except the last group, which comes to the place
  pub places : (key : List Value) (old : ℕ) → place_in groups key ≡ Some old → old ≢ place → place_in (without_group groups place) key ≡ Some (place_after groups place old)

abbrev pub GroupsLeave : Type 0
GroupsLeave = (groups : List GroupOf) (place : ℕ) → EachIsApart groups → place < length groups → GroupLeaves groups place

-- A group that is given back leaves the rows of every key as they were.
abbrev pub GivenBackIsNothing : Type 0
GivenBackIsNothing = (groups : List GroupOf) (place : ℕ) → EachIsApart groups → place < length groups → (key : List Value) → rows_of (given_back groups place) key ≡ rows_of groups key
