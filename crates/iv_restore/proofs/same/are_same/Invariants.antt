use Rattle.std.proofs.Common.{◌≡◌, length}
use Rattle.iv_restore.proofs.same.are_same.Given as goal

abbrev pub invariant-loop-item : goal.invariant-loop-item
invariant-loop-item g l = l.items ≡ l.others → l.left ≡ l.right

abbrev pub decreases-loop-item : goal.decreases-loop-item
decreases-loop-item g l = length l.items
