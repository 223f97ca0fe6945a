use Rattle.std.proofs.Common.{◌≡◌, Ok}
use Rattle.iv_machine.specs.Waves.{settled_waves}
use Rattle.iv_account.specs.Accounts.{waves_told}
use Rattle.iv_account.specs.Telling.{and_told}
use Rattle.iv_exec_waves.specs.Progress.{Progress}
use Rattle.iv_exec_waves.specs.Running.{LeavesStore}
use Rattle.iv_exec_waves.specs.Steps.{wave_with}
use Rattle.iv_exec_waves.proofs.Rounds.{after_waves}
use Rattle.iv_exec_waves.proofs.settling.settle.Given as goal

abbrev pub invariant-loop-store : goal.invariant-loop-store
invariant-loop-store g l =
    let old = g.K.ReferencingRows.view l.initial.store in
    let now = g.K.ReferencingRows.view l.store in
    record {
      so_far : after_waves l.waves.items (settled_waves l.context now.base l.budget (wave_with l.columns.items l.changes.items))
          ≡ settled_waves l.context old.base l.initial.budget (wave_with l.initial.columns.items l.initial.changes.items);
      told : and_told l.account (waves_told l.context now.base l.budget (wave_with l.columns.items l.changes.items))
          ≡ and_told l.initial.account (waves_told l.context old.base l.initial.budget (wave_with l.initial.columns.items l.initial.changes.items));
      progress : Progress l.context now l.changes.items;
      left : LeavesStore l.context.schema (Ok (tt {0})) old (g.K.ReferencingRows.lookups l.initial.store) now (g.K.ReferencingRows.lookups l.store);
    }

abbrev pub decreases-loop-store : goal.decreases-loop-store
decreases-loop-store g l = l.budget
