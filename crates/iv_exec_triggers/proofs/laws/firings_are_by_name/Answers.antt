use Rattle.iv_exec_triggers.proofs.NamedColumns.{firings_by_name}
use Rattle.iv_exec_triggers.proofs.laws.firings_are_by_name.Goals as goal

pub returns : goal.returns
returns c = firings_by_name
