use Rattle.iv_text.proofs.SpelledLemmas.{spelled_then}
use Rattle.iv_text.proofs.spelled.tell_both.Goals as goal

pub returns : goal.returns
returns g c = spelled_then _ _ _ _ _ _ _ c.in_ok-tell.ensures c.tell-2.ensures
