use Rattle.iv_store_index.proofs.Clearing.{Clearing}
use Rattle.iv_store_index.proofs.adding.clear.Given as goal

-- those before the number have no group
abbrev pub invariant-loop-id : goal.invariant-loop-id
invariant-loop-id l = Clearing l.first l.id l.initial.groups l.groups
