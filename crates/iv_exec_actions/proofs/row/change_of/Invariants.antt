use Rattle.std.proofs.Common.{◌-◌}
use Rattle.iv_exec_actions.proofs.Halving.{Within}
use Rattle.iv_exec_actions.proofs.row.change_of.Given as goal

abbrev pub invariant-loop-low : goal.invariant-loop-low
invariant-loop-low l = Within l.number l.changes l.low l.high

abbrev pub decreases-loop-low : goal.decreases-loop-low
decreases-loop-low l = l.high - l.low
