use Rattle.std.proofs.Common.{◌≡◌, ◌++◌, length}
use Rattle.iv_modes.specs.ModeMaps.{made_immediate}
use Rattle.iv_modes.proofs.modes.made_immediate.Given as goal

abbrev pub invariant-loop-left : goal.invariant-loop-left
invariant-loop-left l = l.made.items ++ made_immediate l.left l.others ≡ made_immediate l.before l.after

abbrev pub decreases-loop-left : goal.decreases-loop-left
decreases-loop-left l = length l.left
