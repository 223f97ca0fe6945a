use Rattle.std.specs.Prelude.{slice_index}
use Rattle.std.proofs.Common.{◌≡◌, ◌<◌, length}
use Rattle.iv_store_groups.proofs.hash_index.reach.Given as goal

abbrev pub invariant-loop-found : goal.invariant-loop-found
invariant-loop-found l = record {
  above : l.place < l.found;
  within : l.found < length l.hashes;
  same : slice_index l.hashes l.found ≡ slice_index l.hashes l.from;
}

abbrev pub decreases-loop-found : goal.decreases-loop-found
decreases-loop-found l = l.found
