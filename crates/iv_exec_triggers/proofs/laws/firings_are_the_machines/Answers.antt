use Rattle.iv_exec_triggers.proofs.FiringsByTable.{firings_parted}
use Rattle.iv_exec_triggers.proofs.laws.firings_are_the_machines.Goals as goal

pub returns : goal.returns
returns c = firings_parted
