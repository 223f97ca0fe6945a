use Rattle.std.proofs.Common.{◌≡◌, ◌+◌, ◌-◌, [], length}
use Rattle.iv_exec_triggers.specs.Merging.{Merging}
use Rattle.iv_exec_triggers.proofs.net.merge.Given as goal

abbrev pub invariant-loop-at : goal.invariant-loop-at
invariant-loop-at l = record {
  merging : Merging l.older l.newer l.at l.to l.net.changes;
  columns : l.net.columns ≡ [];
}

abbrev pub decreases-loop-at : goal.decreases-loop-at
decreases-loop-at l = (length l.older - l.at) + (length l.newer - l.to)
