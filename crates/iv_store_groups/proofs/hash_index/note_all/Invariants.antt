use Rattle.std.proofs.Common.{◌≤◌, ◌-◌, length, take}
use Rattle.iv_store_groups.specs.Linked.{HasEnds}
use Rattle.iv_store_groups.proofs.hash_index.note_all.Given as goal

abbrev pub invariant-loop-place : goal.invariant-loop-place
invariant-loop-place l = record {
  within : l.place ≤ length l.hashes;
  ends : HasEnds l.slots.items l.others (take l.place l.hashes);
}

abbrev pub decreases-loop-place : goal.decreases-loop-place
decreases-loop-place l = length l.hashes - l.place
