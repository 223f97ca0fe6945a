use Rattle.std.specs.Prelude.{max}
use Rattle.std.proofs.Common.{◌≡◌, ℕ, ◌-◌, ◌≤◌, length}
use Rattle.iv_laws_kept.specs.GroupFlags.{violating_of}
use Rattle.iv_store_violating.proofs.violating_groups.add_constraints.Given as goal

abbrev pub invariant-loop-alloc : goal.invariant-loop-alloc
invariant-loop-alloc l = record {
  few : length l.constraints.items ≤ max l.count (length l.fn.constraints.items);
  stays : length l.fn.constraints.items ≤ length l.constraints.items;
  violating : (id : ℕ) → violating_of l.constraints.items id ≡ violating_of l.fn.constraints.items id;
}

abbrev pub decreases-loop-alloc : goal.decreases-loop-alloc
decreases-loop-alloc l = l.count - length l.constraints.items
