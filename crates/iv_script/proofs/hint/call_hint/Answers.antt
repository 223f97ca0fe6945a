use Rattle.iv_script.specs.Hints.{call_hint}
use Rattle.iv_script.proofs.hint.call_hint.Goals as goal

pub returns : goal.returns
unfolding call_hint
returns c = c.hint_among.ensures
