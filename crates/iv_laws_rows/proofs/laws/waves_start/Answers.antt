use Rattle.iv_laws_rows.proofs.MadeChanges.{changes_may_be_made}
use Rattle.iv_laws_rows.proofs.SettledRows.{proposals_start, next_waves_start, started_waves_fit}
use Rattle.iv_laws_rows.proofs.laws.waves_start.Goals as goal

pub returns-clause-proposed : goal.returns-clause-proposed
returns-clause-proposed c = proposals_start

pub returns-clause-made : goal.returns-clause-made
returns-clause-made c = changes_may_be_made

pub returns-clause-next : goal.returns-clause-next
returns-clause-next c = next_waves_start

pub returns-clause-settled : goal.returns-clause-settled
returns-clause-settled c = started_waves_fit
