-- One constraint's part of a change.
use Rattle.std.specs.Prelude.{◌≡◌, ◌≢◌, ℕ, ◌+◌, ◌<◌, ◌≤◌, Bool, true, false, List, length, map, Some}
use Rattle.iv_store_following.specs.Types.{Value, Rule, Change, Constraint}
use Rattle.iv_store_following.specs.Types.rule
use Rattle.iv_store_groups.specs.Groups.{GroupOf, Contents, groups_of, room_of}
use Rattle.iv_store_groups.specs.Laws.{size_of}
use Rattle.iv_store_violating.specs.Shown.{shown_group}
use Rattle.iv_laws_kept.specs.Kept.{Group, rows_in}
use Rattle.iv_laws_kept.specs.GroupFlags.{GroupFlags, violating_of}
use Rattle.iv_laws_kept.specs.Moves.{rows_moved}
use Rattle.iv_laws_kept.specs.Numbers.{has}
use Rattle.iv_store_following.specs.BorrowedChange.{side_key, stays_put}
use Rattle.iv_store_following.specs.KeyGroups.{Flagged}

abbrev pub is_reference : Rule → Bool
is_reference (rule.ForeignKey fk) = true
is_reference _ = false

-- The groups and the flags of only one constraint are others, no key can hold fewer rows without an allocation than before, and there were
-- so many look-ups at most.
pub record OnlyOf (id most : ℕ) (old new : Contents) (violating later : GroupFlags) : Type 0 where
  pub count : length new.groups ≡ length old.groups
  pub violating_count : length later ≡ length violating
  pub others : (k : ℕ) → k ≢ id → groups_of new.groups k ≡ groups_of old.groups k
  pub other_violating : (k : ℕ) → k ≢ id → violating_of later k ≡ violating_of violating k
  pub sizes : (k : ℕ) (key : List Value) → size_of (groups_of old.groups k) key ≤ size_of (groups_of new.groups k) key
  pub grows : old.looked_up ≤ new.looked_up
  pub looked_up : new.looked_up ≤ old.looked_up + most

-- a constraint has groups, and a place for the flag of each
pub record IsWatched (id : ℕ) (groups : List (List GroupOf)) (violating : GroupFlags) : Type 0 where
  pub in_groups : id < length groups
  pub in_violating : id < length violating
  pub places : length (groups_of groups id) ≤ length (violating_of violating id)

-- the changed row is where its old side is kept, and its new key has room
pub record IsReady (change : Change) (c : Constraint) (groups : List GroupOf) : Type 0 where
  pub present : (key : List Value) → side_key c change.table change.old ≡ Some key → has change.row (rows_in (map shown_group groups) key) ≡ true
  pub room_for : (key : List Value) → stays_put c change ≡ false → side_key c change.table change.new ≡ Some key → 0 < room_of groups key

-- the row has moved to the key of its new side
abbrev pub RowMoved : Change → Constraint → List Group → List Group → Type 0
RowMoved change c groups after = (key : List Value) → rows_in after key ≡ rows_moved c key change (rows_in groups key)

-- the row has moved, and the flags followed, whichever keys are referenced
pub record KeyMoved (change : Change) (c : Constraint) (groups : List Group) (violating : List Bool) (after : List Group) (later : List Bool) : Type 0 where
  pub rows : RowMoved change c groups after
  pub flagged : (referenced : List Value → Bool) → Flagged referenced c.rule groups violating → Flagged referenced c.rule after later

-- the rows under each key are as before, and the flags are still right; there may be more room
pub record RowsStay (c : Constraint) (groups : List Group) (violating : List Bool) (after : List Group) (later : List Bool) : Type 0 where
  pub rows : (key : List Value) → rows_in after key ≡ rows_in groups key
  pub flagged : (referenced : List Value → Bool) → Flagged referenced c.rule groups violating → Flagged referenced c.rule after later
