-- Groups: the rows of each key of each constraint. A key has at most one group in a constraint, and a group stays at its place until one without rows is given back.
use Rattle.std.specs.Prelude.{◌≡◌, ℕ, ◌+◌, ◌-◌, ◌^◌, ◌<◌, ◌==◌, Bool, true, min, List, [], ◌∷◌, length, Option, Some, None, option_map, false, if◌then◌else◌, slice_get, slice_index, slice_index_or, slice_set, swap_remove}
use Rattle.iv_value.specs.declared.value.Value.{Value}
use Rattle.iv_value.specs.Values.{all_same}
use Rattle.iv_key.specs.Hashes.{hash_of}
use Rattle.iv_numbers.specs.Rows.{Rows, IsRising, added, no_rows, put, removed, roomy}

-- A key, and the rows that hold it with its room.
pub record GroupOf : Type 0 where
  pub key : List Value
  pub held : Rows

-- The groups of each constraint, in the order in which their keys came, and the count of look-ups.
pub record Contents : Type 0 where
  pub groups : List (List GroupOf)
  pub looked_up : ℕ

-- The groups of a constraint by its number: none, if there is no such constraint.
abbrev pub groups_of : List (List GroupOf) → ℕ → List GroupOf
groups_of groups constraint = slice_index_or groups constraint []

-- With these groups for a constraint.
abbrev pub with_groups : List (List GroupOf) → ℕ → List GroupOf → List (List GroupOf)
with_groups groups constraint new = slice_set groups constraint new

-- The rows of a key and its room: none, if it has no group.
abbrev pub held_at : List GroupOf → List Value → Rows
held_at [] key = no_rows
held_at (g ∷ groups) key = if all_same g.key key then g.held else held_at groups key

-- The rows of a key, in rising order.
abbrev pub rows_of : List GroupOf → List Value → List ℕ
rows_of groups key = (held_at groups key).rows

-- The room of a key.
abbrev pub room_of : List GroupOf → List Value → ℕ
room_of groups key = (held_at groups key).room

-- The place of a key's group.
abbrev pub place_in : List GroupOf → List Value → Option ℕ
place_in [] key = None
place_in (g ∷ groups) key = if all_same g.key key then Some 0 else option_map (λ place. place + 1) (place_in groups key)

-- The rows of the group at a place: none, if there is no such place.
abbrev pub rows_at : List GroupOf → ℕ → List ℕ
rows_at groups place = elim (slice_get groups place) [ Some g ↦ g.held.rows | None ↦ [] ]

-- The groups with these rows for a key: in its group, or in a new one behind the others.
abbrev pub with_held : List GroupOf → List Value → Rows → List GroupOf
with_held [] key held = record { key = key; held = held } ∷ []
with_held (g ∷ groups) key held = if all_same g.key key then record { key = g.key; held = held } ∷ groups else g ∷ with_held groups key held

-- The groups with a row more under a key.
abbrev pub with_row_under : List Value → ℕ → List GroupOf → List GroupOf
with_row_under key row groups = with_held groups key (added row (held_at groups key))

-- The groups with a row put under a key, if it isn't under it yet.
abbrev pub with_row_put : List Value → ℕ → List GroupOf → List GroupOf
with_row_put key row groups = with_held groups key (put row (held_at groups key))

-- The groups with room for one row at least under a key.
abbrev pub with_room_under : List Value → List GroupOf → List GroupOf
with_room_under key groups = with_held groups key (roomy (held_at groups key))

-- The groups with a row less under a key.
abbrev pub without_row_under : List Value → ℕ → List GroupOf → List GroupOf
without_row_under key row groups = with_held groups key (removed row (held_at groups key))

-- A group after a change of its rows.
abbrev pub changed : (Rows → Rows) → GroupOf → GroupOf
changed change g = record { key = g.key; held = change g.held }

-- A group of no key, which stands for one that isn't there.
abbrev pub no_group : GroupOf
no_group = record { key = []; held = no_rows }

-- There is no row in the group at a place.
abbrev pub is_dead : List GroupOf → ℕ → Bool
is_dead groups place = length (rows_at groups place) == 0

-- The groups without the one at a place, to which the last group comes.
abbrev pub without_group : List GroupOf → ℕ → List GroupOf
without_group groups place = swap_remove groups place no_group

-- The rows of a key without room.
abbrev pub tight : Rows → Rows
tight held = record { rows = held.rows; room = 0 }

-- The groups with no room in the one at a place.
abbrev pub with_tight : List GroupOf → ℕ → List GroupOf
with_tight groups place = slice_set groups place (changed tight (slice_index_or groups place no_group))

-- The groups after the one at a place was given back, if there is no row in it; else it has no room.
abbrev pub given_back : List GroupOf → ℕ → List GroupOf
given_back groups place = if is_dead groups place then without_group groups place else with_tight groups place

-- Where a group stands after the one at a place was removed: the last one has come to this place, and the others stay.
abbrev pub place_after : List GroupOf → ℕ → ℕ → ℕ
place_after groups place old = if old == length groups - 1 then place else old

-- One look-up more; the count stays at its greatest value.
abbrev pub counted : ℕ → ℕ
counted looked_up = min (looked_up + 1) (2 ^ 64 - 1)

-- Each group is found under its key.
abbrev pub EachIsFound : List GroupOf → Type 0
EachIsFound groups = (place : ℕ) (d : GroupOf) → place < length groups → place_in groups (slice_index_or groups place d).key ≡ Some place

-- No two groups have one key.
abbrev pub EachIsApart : List GroupOf → Type 0
EachIsApart groups = (i k : ℕ) (d : GroupOf) → i < k → k < length groups → all_same (slice_index_or groups i d).key (slice_index_or groups k d).key ≡ false

-- The rows of every key rise.
abbrev pub EachRises : List GroupOf → Type 0
EachRises groups = (key : List Value) → IsRising (rows_of groups key)

-- What holds of the groups of one constraint.
pub record IsSound (groups : List GroupOf) : Type 0 where
  pub found : EachIsFound groups
  pub apart : EachIsApart groups
  pub rising : EachRises groups

-- What holds of the groups of every constraint.
pub record AreSound (groups : List (List GroupOf)) : Type 0 where
  pub each : (constraint : ℕ) → IsSound (groups_of groups constraint)

-- The groups of one constraint stand beside the hashes of their keys; no two have one key, and their rows rise.
pub record IsIndexed (hashes : List ℕ) (groups : List GroupOf) : Type 0 where
  pub count : length hashes ≡ length groups
  pub hash_is : (k : ℕ) (d : GroupOf) → k < length groups → slice_index hashes k ≡ hash_of (slice_index_or groups k d).key
  pub distinct : EachIsApart groups
  pub rising : (k : ℕ) (d : GroupOf) → k < length groups → IsRising (slice_index_or groups k d).held.rows
