use Rattle.std.proofs.Common.{◌≡◌, ◌≤◌, ◌+◌, ◌*◌, drop, length}
use Rattle.iv_store.specs.Stores.{most_lookups}
use Rattle.iv_laws_rows.specs.Changing.{with_database}
use Rattle.iv_exec_waves.proofs.Applied.{Applying}
use Rattle.iv_exec_waves.proofs.applying.apply_all.Given as goal

abbrev pub invariant-loop-change : goal.invariant-loop-change
invariant-loop-change g l =
    let old = g.K.ReferencingRows.view l.initial.store in
    let now = g.K.ReferencingRows.view l.store in
    record {
      applying : Applying old.tables old.base l.changes now.base (drop l.change-index l.changes);
      kept : now ≡ with_database old now.base;
      looked_up : g.K.ReferencingRows.lookups l.store ≤ g.K.ReferencingRows.lookups l.initial.store + most_lookups * length old.constraints * l.change-index;
    }
