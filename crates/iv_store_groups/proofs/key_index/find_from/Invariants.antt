use Rattle.std.proofs.Common.{◌≡◌, ℕ, ◌<◌, ◌≤◌, length, get_or, false}
use Rattle.iv_store_groups.specs.Groups.{GroupOf}
use Rattle.iv_value.specs.Values.{all_same}
use Rattle.iv_key.specs.Hashes.{hash_of}
use Rattle.iv_store_groups.specs.Linked.{EndsAt}
use Rattle.iv_store_groups.proofs.key_index.find_from.Given as goal

abbrev pub invariant-loop-end : goal.invariant-loop-end
invariant-loop-end l = record {
  within : l.end ≤ length l.groups;
  same : EndsAt l.hashes (hash_of l.key) l.end;
  none : (k : ℕ) (d : GroupOf) → l.end ≤ k → k < length l.groups → all_same (get_or l.groups k d).key l.key ≡ false;
}

abbrev pub decreases-loop-end : goal.decreases-loop-end
decreases-loop-end l = l.end
