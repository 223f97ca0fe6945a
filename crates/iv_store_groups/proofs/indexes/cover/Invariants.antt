use Rattle.std.specs.Prelude.{max}
use Rattle.std.proofs.Common.{◌≡◌, ℕ, ◌-◌, ◌≤◌, length}
use Rattle.iv_store_groups.specs.Groups.{groups_of}
use Rattle.iv_store_groups.proofs.indexes.cover.Given as goal

abbrev pub invariant-loop-alloc : goal.invariant-loop-alloc
invariant-loop-alloc l = record {
  few : length l.indexes.items ≤ max l.count (length l.fn.indexes.items);
  stays : length l.fn.indexes.items ≤ length l.indexes.items;
  groups : (constraint : ℕ) → groups_of l.indexes.items constraint ≡ groups_of l.fn.indexes.items constraint;
}

abbrev pub decreases-loop-alloc : goal.decreases-loop-alloc
decreases-loop-alloc l = l.count - length l.indexes.items
