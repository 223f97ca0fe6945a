-- The rows of each wave fit.
use Rattle.std.proofs.Common.{◌≡◌, ℕ, true, Ok}
use Rattle.iv_expr.specs.Changes.{Wave}
use Rattle.iv_machine.specs.Context.{Context}
use Rattle.iv_machine.specs.Waves.{wave_as_applied}
use Rattle.iv_store.specs.Stores.{StoreState}
use Rattle.iv_laws_rows.specs.RowFits.{changes_fit}
use Rattle.iv_laws_rows.proofs.FittingChanges.{applied_waves_fit}
use Rattle.iv_exec_waves.specs.Progress.{Progress}

pub applied_wave_fits : (w : Context) (s : StoreState) (budget : ℕ) (wave out : Wave) → Progress w s wave.changes
    → wave_as_applied w s.base budget wave ≡ Ok out → changes_fit w.schema.tables out.changes ≡ true
applied_wave_fits w s budget wave out h e = applied_waves_fit w s.base budget wave out h.fit e
