use Rattle.std.proofs.Common.{length}
use Rattle.iv_store_index.proofs.Changes.{GoingBack}
use Rattle.iv_store_index.proofs.changing.go_back.Given as goal

abbrev pub invariant-loop : goal.invariant-loop
invariant-loop l = GoingBack l.place l.initial.versions l.initial.faults l.initial.groups l.versions l.faults l.groups

abbrev pub decreases-loop : goal.decreases-loop
decreases-loop l = length l.versions.journal
