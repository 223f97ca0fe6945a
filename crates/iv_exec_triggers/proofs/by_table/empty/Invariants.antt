use Rattle.std.proofs.Common.{◌≡◌, [], replicate}
use Rattle.iv_exec_triggers.proofs.by_table.empty.Given as goal

abbrev pub invariant-loop-at : goal.invariant-loop-at
invariant-loop-at l = l.parts.items ≡ replicate l._at []
