use Rattle.iv_text.proofs.SpelledLemmas.{spelled_then}
use Rattle.iv_text.proofs.way.tell_most.Goals as goal

pub returns : goal.returns
returns g c = spelled_then _ _ _ _ _ _ _ c.in_ok-tell_number_after.ensures c.tell_number_between.ensures
