use Rattle.iv_script.specs.Hints.{clause_hint}
use Rattle.iv_script.proofs.hint.clause_hint.Goals as goal

pub returns : goal.returns
unfolding clause_hint
returns c = c.hint_among.ensures
