use Rattle.std.proofs.Common.{◌≡◌, ℕ, ◌<◌, ◌≤◌, length}
use Rattle.iv_store_groups.specs.Groups.{groups_of}
use Rattle.iv_laws_kept.specs.GroupFlags.{violating_of}
use Rattle.iv_store_violating.specs.Flagging.{flag}
use Rattle.iv_store_faults.proofs.watching.cover_places.Given as goal

-- the constraints before this one have a place for each group
abbrev pub invariant-loop-id : goal.invariant-loop-id
invariant-loop-id l = record {
  places : (id : ℕ) → l.first ≤ id → id < l.id → length (groups_of l.groups.groups id) ≤ length (violating_of l.violating id);
  count : length l.violating ≡ length l.initial.violating;
  stays : (id : ℕ) → length (violating_of l.initial.violating id) ≤ length (violating_of l.violating id);
  flags : (id place : ℕ) → flag (violating_of l.violating id) place ≡ flag (violating_of l.initial.violating id) place;
}
