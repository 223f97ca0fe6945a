use Rattle.iv_script.specs.Hints.{other_hint}
use Rattle.iv_script.proofs.hint.other_hint.Goals as goal

pub returns : goal.returns
unfolding other_hint
returns c = c.hint_among.ensures
