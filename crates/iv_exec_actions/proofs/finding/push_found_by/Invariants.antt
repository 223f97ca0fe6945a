use Rattle.std.proofs.Common.{◌≤◌, ◌+◌, ◌≡◌, ◌++◌, drop, false, flat_map}
use Rattle.iv_laws_kept.specs.FollowingWaves.{is_among}
use Rattle.iv_exec_actions.specs.Finding.{found_by}
use Rattle.iv_exec_actions.proofs.finding.push_found_by.Given as goal

abbrev pub invariant-loop-change : goal.invariant-loop-change
invariant-loop-change g l = record {
  looked_up : g.K.ReferencingRows.lookups l.store ≤ g.K.ReferencingRows.lookups l.initial.store + l.change-index;
  positive : is_among l.initial.numbers.items 0 ≡ false → is_among l.numbers.items 0 ≡ false;
  kept : g.K.ReferencingRows.view l.store ≡ g.K.ReferencingRows.view l.initial.store;
  so_far : l.numbers.items ++ flat_map (found_by (g.K.ReferencingRows.view l.initial.store) l.affected) (drop l.change-index l.changes)
      ≡ l.initial.numbers.items ++ flat_map (found_by (g.K.ReferencingRows.view l.initial.store) l.affected) l.changes;
}
