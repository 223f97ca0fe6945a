use Rattle.iv_script.specs.Hints.{join_hint}
use Rattle.iv_script.proofs.hint.join_hint.Goals as goal

pub returns : goal.returns
unfolding join_hint
returns c = c.hint_among.ensures
