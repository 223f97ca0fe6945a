use Rattle.iv_machine.proofs.OneChange.{changed_is}
use Rattle.iv_machine.proofs.laws.one_change_sets_a_row.Goals as goal

pub returns : goal.returns
returns c = changed_is
