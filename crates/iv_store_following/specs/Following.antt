-- A change of a row, followed by all constraints.
use Rattle.std.specs.Prelude.{◌≡◌, ℕ, ◌+◌, ◌*◌, ◌≤◌, Bool, false, ◌&&◌, ◌||◌, ◌==◌, not, List, length, slice_get, Some, None}
use Rattle.iv_store_following.specs.Types.{Value, Rule, Change, Constraint}
use Rattle.iv_store_following.specs.Types.rule
use Rattle.iv_store_groups.specs.Groups.{Contents, groups_of}
use Rattle.iv_store_groups.specs.Laws.{size_of}
use Rattle.iv_store_violating.specs.Shown.{shown}
use Rattle.iv_store_violating.specs.Flagging.{NoRepeats}
use Rattle.iv_laws_kept.specs.GroupFlags.{GroupFlags, AreFlagged}
use Rattle.iv_laws_kept.specs.Moves.{Follow}
use Rattle.iv_laws_kept.specs.Numbers.{has}
use Rattle.iv_store_following.specs.Steps.{IsWatched, is_reference}

-- ---- the constraints that a table's rows meet

-- the constraint of this number is on the table, and is no foreign key
abbrev pub is_key_on : List Constraint → ℕ → ℕ → Bool
is_key_on constraints table k = elim (slice_get constraints k) [ Some c ↦ (table == c.table) && not (is_reference c.rule) | None ↦ false ]

-- a rule of a constraint is a foreign key that is on the table, or refers to it
abbrev pub meets : Rule → ℕ → ℕ → Bool
meets (rule.ForeignKey fk) own table = (table == own) || (table == fk.referenced)
meets _ own table = false

-- the constraint of this number is a foreign key that is on the table, or refers to it
abbrev pub is_reference_of : List Constraint → ℕ → ℕ → Bool
is_reference_of constraints table k = elim (slice_get constraints k) [ Some c ↦ meets c.rule c.table table | None ↦ false ]

-- The numbers of the constraints that a table's rows meet: those on the table that are no foreign keys, and the foreign keys that are
-- on it or refer to it. Each comes once.
pub record AreMet (constraints : List Constraint) (table : ℕ) (keys foreign_keys : List ℕ) : Type 0 where
  pub keys_are : (k : ℕ) → has k keys ≡ is_key_on constraints table k
  pub foreign_keys_are : (k : ℕ) → has k foreign_keys ≡ is_reference_of constraints table k
  pub keys_once : NoRepeats keys
  pub foreign_keys_once : NoRepeats foreign_keys
  pub few : length keys + length foreign_keys ≤ length constraints

-- ---- a change

-- The groups follow the change, flags that were right are right after it, no key can hold fewer rows without an allocation, and there were
-- so many look-ups for each constraint at most.
pub record Followed (constraints : List Constraint) (change : Change) (most : ℕ) (start now : Contents) (violating later : GroupFlags) : Type 0 where
  pub count : length now.groups ≡ length start.groups
  pub violating_count : length later ≡ length violating
  pub follow : Follow constraints change (shown start.groups) (shown now.groups)
  pub flagged : AreFlagged constraints (shown start.groups) violating → AreFlagged constraints (shown now.groups) later
  pub watched : (k : ℕ) → IsWatched k start.groups violating → IsWatched k now.groups later
  pub sizes : (k : ℕ) (key : List Value) → size_of (groups_of start.groups k) key ≤ size_of (groups_of now.groups k) key
  pub grows : start.looked_up ≤ now.looked_up
  pub looked_up : now.looked_up ≤ start.looked_up + most * length constraints
