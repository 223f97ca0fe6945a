use Rattle.std.proofs.Common.{◌≡◌, ◌++◌, drop}
use Rattle.iv_exec_actions.proofs.change.copy.Given as goal

abbrev pub invariant-loop-value : goal.invariant-loop-value
invariant-loop-value l = l.copy.items ++ drop l.value-index l.values ≡ l.values
