use Rattle.std.proofs.Common.{◌≡◌, ◌≤◌, ◌+◌, length}
use Rattle.iv_text.specs.Ways.{depth_from}
use Rattle.iv_text.proofs.way.depth_of.Given as goal

abbrev pub invariant-loop-entry : goal.invariant-loop-entry
invariant-loop-entry l = record {
  same : depth_from l.depth l.rest ≡ depth_from 0 l.fn.entries;
  left : l.depth + length l.rest ≤ length l.fn.entries;
}

abbrev pub decreases-loop-entry : goal.decreases-loop-entry
decreases-loop-entry l = length l.rest
