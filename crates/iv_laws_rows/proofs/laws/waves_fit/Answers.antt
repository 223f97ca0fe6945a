use Rattle.iv_laws_rows.proofs.FittingChanges.{numbered_changes_fit, triggered_changes_fit, applied_waves_fit, rows_after_fit}
use Rattle.iv_laws_rows.proofs.FollowingRows.{following_waves_fit}
use Rattle.iv_laws_rows.proofs.NetRows.{net_changes_fit}
use Rattle.iv_laws_rows.proofs.SettledRows.{settled_waves_fit}
use Rattle.iv_laws_rows.proofs.laws.waves_fit.Goals as goal

pub returns-clause-numbered : goal.returns-clause-numbered
returns-clause-numbered c = numbered_changes_fit

pub returns-clause-triggered : goal.returns-clause-triggered
returns-clause-triggered c = triggered_changes_fit

pub returns-clause-applied : goal.returns-clause-applied
returns-clause-applied c = applied_waves_fit

pub returns-clause-after : goal.returns-clause-after
returns-clause-after c = rows_after_fit

pub returns-clause-following : goal.returns-clause-following
returns-clause-following c = following_waves_fit

pub returns-clause-settled : goal.returns-clause-settled
returns-clause-settled c = settled_waves_fit

pub returns-clause-net : goal.returns-clause-net
returns-clause-net c = net_changes_fit
