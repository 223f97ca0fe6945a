use Rattle.iv_script.specs.Hints.{fault_hint}
use Rattle.iv_script.proofs.hint.fault_hint.Goals as goal

pub returns : goal.returns
unfolding fault_hint
returns c = c.known_hint.ensures
