use Rattle.std.proofs.Common.{◌≡◌, ◌+◌, ◌-◌, ◌<◌, ◌≤◌, ◌^◌, length, take}
use Rattle.iv_state.specs.Saving.{with_marks}
use Rattle.iv_state.proofs.savepoints.take_from.Given as goal

abbrev pub invariant-loop-left : goal.invariant-loop-left
invariant-loop-left g l = record {
  above : l.place ≤ l.left;
  below : l.left ≤ length l.initial.saves.saves;
  small : l.left < 2 ^ 63;
  saves : l.saves.saves ≡ take l.left l.initial.saves.saves;
  store : g.K.ReferencingRows.view l.store ≡ with_marks (g.K.ReferencingRows.view l.initial.store) (take (l.left + 1) (g.K.ReferencingRows.view l.initial.store).marks);
  not_looked_up : g.K.ReferencingRows.lookups l.store ≡ g.K.ReferencingRows.lookups l.initial.store;
}

abbrev pub decreases-loop-left : goal.decreases-loop-left
decreases-loop-left g l = l.left - l.place
