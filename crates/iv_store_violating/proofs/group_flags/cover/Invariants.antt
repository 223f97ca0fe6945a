use Rattle.std.proofs.Common.{◌≡◌, ℕ, ◌-◌, ◌≤◌, length}
use Rattle.iv_store_violating.specs.Flagging.{flag}
use Rattle.iv_store_violating.proofs.group_flags.cover.Given as goal

abbrev pub invariant-loop-violating : goal.invariant-loop-violating
invariant-loop-violating l = record {
  stays : length l.fn.violating ≤ length l.violating;
  flags : (place : ℕ) → flag l.violating place ≡ flag l.fn.violating place;
}

abbrev pub decreases-loop-violating : goal.decreases-loop-violating
decreases-loop-violating l = l.count - length l.violating
