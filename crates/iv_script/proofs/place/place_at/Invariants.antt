use Rattle.std.proofs.Common.{◌≡◌, ◌≤◌, ◌+◌, length}
use Rattle.iv_script.specs.Places.{place_after, place_at}
use Rattle.iv_script.proofs.place.place_at.Given as goal

abbrev pub invariant-loop-byte : goal.invariant-loop-byte
invariant-loop-byte l = record {
  so_far : place_after l.place l.rest ≡ place_at l.text l.at;
  line : l.place.line + length l.rest ≤ length l.text + 1;
  column : l.place.column + length l.rest ≤ length l.text + 1;
}

abbrev pub decreases-loop-byte : goal.decreases-loop-byte
decreases-loop-byte l = length l.rest
