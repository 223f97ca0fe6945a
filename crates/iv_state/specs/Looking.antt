-- How many keys a call of a session looks up.
use Rattle.std.specs.Prelude.{ℕ, ◌+◌, ◌*◌, ◌≤◌, Bool, true, false, length}
use Rattle.iv_machine.specs.Machine.{Work}
use Rattle.iv_store.specs.Lookups.{most_lookups_for_a_change}
use Rattle.iv_state.specs.Types.{Plan}
use Rattle.iv_state.specs.Types.plan
use Rattle.iv_state.specs.Kept.{Seen}

-- Between two counts of look-ups at most 8 keys are looked up for each constraint and each row change that was made or undone.
abbrev pub LookedUp : ℕ → Work → ℕ → ℕ → Type 0
LookedUp constraints work before after = after ≤ before + most_lookups_for_a_change * constraints * (work.changes + work.undone)

-- A call looks up few keys, for the constraints of the catalogue.
abbrev pub LooksUpFew : Seen → Seen → Type 0
LooksUpFew old new = LookedUp (length old.state.schema.constraints) new.work old.looked_up new.looked_up

-- the plan changes the schema
abbrev pub is_definition : Plan → Bool
is_definition (plan.Schema p) = true
is_definition _ = false
