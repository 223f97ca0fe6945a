-- How many keys are looked up.
use Rattle.std.specs.Prelude.{ℕ, ◌+◌, ◌-◌, ◌*◌, ◌^◌, ◌≤◌, List, filter, length, min, if◌then◌else◌, Option, Some, None, is_some}
use Rattle.iv_value.specs.declared.value.Value.{Value}
use Rattle.iv_key.specs.Keys.{none_null}
use Rattle.iv_catalogue.specs.declared.constraint.Constraint.{Constraint}
use Rattle.iv_machine.specs.ReferentialActions.{Reference, foreign_key}
use Rattle.iv_store.specs.Stores.{StoreState, reference_at}

-- ---- the rows that hold a key

-- the count of look-ups after one more; it stays at 2^64 - 1 once it is there
abbrev pub counted : ℕ → ℕ
counted looked_up = min (looked_up + 1) (2 ^ 64 - 1)

-- the count after a key is looked up by a foreign key; a key with a null isn't looked up, since no row holds it
abbrev pub counted_by : List Value → Option Reference → ℕ → ℕ
counted_by key None looked_up = looked_up
counted_by key (Some k) looked_up = if none_null key then counted looked_up else looked_up

-- The count after the rows that hold a key by the foreign key of this number are asked for: they are found by one look-up.
abbrev pub counted_children : StoreState → ℕ → List Value → ℕ → ℕ
counted_children s id key looked_up = counted_by key (reference_at s.constraints id) looked_up

-- how many of these constraints are foreign keys
abbrev pub foreign_keys : List Constraint → ℕ
foreign_keys constraints = length (filter (λ c. is_some (foreign_key c.rule)) constraints)

-- ---- data statements

-- A change of a row looks up at most 7 keys for each constraint, and what follows it at most one.
abbrev pub most_lookups_for_a_change : ℕ
most_lookups_for_a_change = 8

-- From the store before to the store after no change is taken back, and no more keys are looked up than so many for each constraint and
-- change.
pub record LooksUp (old : StoreState) (before : ℕ) (new : StoreState) (after : ℕ) : Type 0 where
  pub more : old.base.count ≤ new.base.count
  pub looked_up : after ≤ before + most_lookups_for_a_change * length old.constraints * (new.base.count - old.base.count)
