use Rattle.std.proofs.Common.{◌≡◌, ◌++◌, length}
use Rattle.iv_script.proofs.Merged.{merged}
use Rattle.iv_script.proofs.merging.without.Given as goal

abbrev pub invariant-loop-fault : goal.invariant-loop-fault
invariant-loop-fault l = (l.found.items ++ merged l.rest l.left) ≡ merged l.fn.faults l.fn.others

abbrev pub decreases-loop-fault : goal.decreases-loop-fault
decreases-loop-fault l = length l.rest
