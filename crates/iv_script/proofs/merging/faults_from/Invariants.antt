use Rattle.std.proofs.Common.{◌≡◌, length}
use Rattle.iv_script.specs.Merging.{faults_from}
use Rattle.iv_script.proofs.merging.faults_from.Given as goal

abbrev pub invariant-loop-first : goal.invariant-loop-first
invariant-loop-first l = faults_from l.fn.fault l.left ≡ faults_from l.fn.fault l.fn.faults

abbrev pub decreases-loop-first : goal.decreases-loop-first
decreases-loop-first l = length l.left
