use Rattle.std.proofs.Common.{◌≡◌, ◌≤◌, length}
use Rattle.iv_state.proofs.TakenOut.{Between}
use Rattle.iv_state.proofs.savepoints.take_named.Given as goal

abbrev pub invariant-loop-place : goal.invariant-loop-place
invariant-loop-place g l = record {
  between : Between l.name l.initial.saves.saves (g.K.ReferencingRows.view l.initial.store) l.saves.saves (g.K.ReferencingRows.view l.store);
  room : l.initial.saves.room ≤ l.saves.room;
  not_looked_up : g.K.ReferencingRows.lookups l.store ≡ g.K.ReferencingRows.lookups l.initial.store;
}

abbrev pub decreases-loop-place : goal.decreases-loop-place
decreases-loop-place g l = length l.saves.saves
