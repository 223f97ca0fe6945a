use Rattle.iv_laws_levels.proofs.NetChanges.{rows_before_waves, rows_after_waves, net_changes_follow}
use Rattle.iv_laws_levels.proofs.laws.net_changes_follow.Goals as goal

pub returns-clause-before : goal.returns-clause-before
returns-clause-before c = rows_before_waves

pub returns-clause-after : goal.returns-clause-after
returns-clause-after c = rows_after_waves

pub returns-clause-net : goal.returns-clause-net
returns-clause-net c = net_changes_follow
