use Rattle.std.proofs.Common.{◌≡◌, ◌≤◌, ◌+◌, length}
use Rattle.iv_text.specs.Ways.{latest_from, nothing_yet}
use Rattle.iv_text.proofs.way.begun_at.Given as goal

abbrev pub invariant-loop-entry : goal.invariant-loop-entry
invariant-loop-entry l = record {
  same : latest_from l.fn.level l.depth l.latest l.rest ≡ latest_from l.fn.level 0 nothing_yet l.fn.entries;
  left : l.depth + length l.rest ≤ length l.fn.entries;
}

abbrev pub decreases-loop-entry : goal.decreases-loop-entry
decreases-loop-entry l = length l.rest
