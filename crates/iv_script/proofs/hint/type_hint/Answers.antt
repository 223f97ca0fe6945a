use Rattle.iv_script.specs.Hints.{type_hint}
use Rattle.iv_script.proofs.hint.type_hint.Goals as goal

pub returns : goal.returns
unfolding type_hint
returns c = c.hint_among.ensures
