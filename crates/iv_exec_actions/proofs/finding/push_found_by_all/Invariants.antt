use Rattle.std.proofs.Common.{◌≤◌, ◌+◌, ◌*◌, length, ◌≡◌, ◌++◌, drop, false}
use Rattle.iv_laws_kept.specs.FollowingWaves.{is_among}
use Rattle.iv_exec_actions.specs.Finding.{found_by_all}
use Rattle.iv_exec_actions.proofs.finding.push_found_by_all.Given as goal

abbrev pub invariant-loop-affected : goal.invariant-loop-affected
invariant-loop-affected g l = record {
  looked_up : g.K.ReferencingRows.lookups l.store ≤ g.K.ReferencingRows.lookups l.initial.store + l.affected-index * length l.changes;
  positive : is_among l.initial.numbers.items 0 ≡ false → is_among l.numbers.items 0 ≡ false;
  kept : g.K.ReferencingRows.view l.store ≡ g.K.ReferencingRows.view l.initial.store;
  so_far : l.numbers.items ++ found_by_all (g.K.ReferencingRows.view l.initial.store) (drop l.affected-index l.affected_keys) l.changes
      ≡ l.initial.numbers.items ++ found_by_all (g.K.ReferencingRows.view l.initial.store) l.affected_keys l.changes;
}
