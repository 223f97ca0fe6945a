use Rattle.iv_script.specs.Hints.{no_token_hint}
use Rattle.iv_script.proofs.hint.no_token_hint.Goals as goal

pub returns : goal.returns
unfolding no_token_hint
returns c = c.front_hint.ensures
