use Rattle.std.proofs.Common.{◌≡◌, length}
use Rattle.iv_shown.specs.Cells.{room_after}
use Rattle.iv_shown.proofs.row_buffers.room_after.Given as goal

abbrev pub invariant-loop-value : goal.invariant-loop-value
invariant-loop-value l = room_after l.left l.rest ≡ room_after l.fn.room l.fn.values

abbrev pub decreases-loop-value : goal.decreases-loop-value
decreases-loop-value l = length l.rest
