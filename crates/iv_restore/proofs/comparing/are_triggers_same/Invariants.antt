use Rattle.std.proofs.Common.{◌≡◌, length, map}
use Rattle.iv_restore.specs.Restoring.{unnumbered}
use Rattle.iv_restore.proofs.comparing.are_triggers_same.Given as goal

abbrev pub invariant-loop-trigger : goal.invariant-loop-trigger
invariant-loop-trigger l = map unnumbered l.triggers ≡ map unnumbered l.others → map unnumbered l.left ≡ map unnumbered l.right

abbrev pub decreases-loop-trigger : goal.decreases-loop-trigger
decreases-loop-trigger l = length l.triggers
