use Rattle.std.proofs.Common.{◌≡◌, take}
use Rattle.iv_exec_triggers.proofs.before.copied.Given as goal

abbrev pub invariant-loop-value : goal.invariant-loop-value
invariant-loop-value l = l.values.items ≡ take l.value-index l.row
