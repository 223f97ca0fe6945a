-- Flags on the groups that violate their constraint, and which groups a change of a row can alter.
use Rattle.std.specs.Prelude.{◌≡◌, ℕ, Bool, false, ◌&&◌, ◌||◌, ◌==◌, List, [], map, flat_map, slice_get, get_or, Option, Some, None}
use Rattle.iv_laws_kept.specs.Types.{Value, Change, Constraint, Rule, ForeignKey}
use Rattle.iv_laws_kept.specs.Types.rule
use Rattle.iv_value.specs.Values.{all_same}
use Rattle.iv_key.specs.Keys.{key_of}
use Rattle.iv_laws_kept.specs.Numbers.{has, in_rising_order}
use Rattle.iv_laws_kept.specs.Kept.{Group, Groups, groups_of, rows_under, AllNamed, violate, is_violating, kept_rows}
use Rattle.iv_laws_kept.specs.Moves.{side_under, Follow}

-- for each constraint, by its number, which of its groups are flagged
abbrev pub GroupFlags : Type 0
GroupFlags = List (List Bool)

abbrev pub violating_of : GroupFlags → ℕ → List Bool
violating_of violating id = elim (slice_get violating id) [ Some own ↦ own | None ↦ [] ]

-- The flagged groups are those that violate their constraint; a place with no group isn't flagged.
abbrev pub AreFlagged : List Constraint → Groups → GroupFlags → Type 0
AreFlagged constraints groups violating =
    (id : ℕ) (c : Constraint) (place : ℕ)
    → slice_get constraints id ≡ Some c → get_or (violating_of violating id) place false ≡ get_or (map (is_violating constraints groups c) (groups_of groups id)) place false

-- the rows of the group at a place
abbrev pub rows_at : List Group → ℕ → List ℕ
rows_at own place = elim (slice_get own place) [ Some g ↦ g.rows | None ↦ [] ]

-- The rows of the groups at the flagged places, in whatever order the places are, are the kept rows.
abbrev pub FlaggedRowsAreKept : Type 0
FlaggedRowsAreKept =
    (constraints : List Constraint) (groups : Groups) (violating : GroupFlags) (id : ℕ) (c : Constraint) (places : List ℕ)
    → AreFlagged constraints groups violating → slice_get constraints id ≡ Some c
    → ((place : ℕ) → has place places ≡ get_or (violating_of violating id) place false)
    → in_rising_order (flat_map (rows_at (groups_of groups id)) places) ≡ kept_rows constraints groups id c

-- ---- what a change can alter

-- this side of a change has the key as a referenced key
abbrev pub referenced_side : ForeignKey → List Value → Change → Option (List Value) → Bool
referenced_side fk key change None = false
referenced_side fk key change (Some values) = (change.table == fk.referenced) && all_same (key_of fk.key values) key

-- one side of a change has the key that a rule refers to
abbrev pub is_referenced_by : Rule → List Value → Change → Bool
is_referenced_by (rule.ForeignKey fk) key change = referenced_side fk key change change.old || referenced_side fk key change change.new
is_referenced_by _ key change = false

-- A change concerns a key of a constraint if one side is kept under it, or is what it refers to. A change therefore concerns at most two
-- keys of a constraint, and two more of a foreign key.
abbrev pub concerns_key : Constraint → List Value → Change → Bool
concerns_key c key change = (side_under c key change change.old || side_under c key change change.new) || is_referenced_by c.rule key change

-- The rows under a key that a change doesn't concern violate the constraint after it exactly if they did before.
abbrev pub OtherKeysStay : Type 0
OtherKeysStay =
    (constraints : List Constraint) (change : Change) (groups after : Groups) (id : ℕ) (c : Constraint) (key : List Value)
    → AllNamed constraints → Follow constraints change groups after → slice_get constraints id ≡ Some c → concerns_key c key change ≡ false
    → violate constraints after c.rule key (rows_under after id key) ≡ violate constraints groups c.rule key (rows_under groups id key)
