use Rattle.iv_script.specs.Hints.{statement_hint}
use Rattle.iv_script.proofs.hint.statement_hint.Goals as goal

pub returns : goal.returns
unfolding statement_hint
returns c = c.hint_among.ensures
