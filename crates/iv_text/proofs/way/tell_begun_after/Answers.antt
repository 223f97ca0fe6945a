use Rattle.iv_text.specs.Ways.{begun_after}
use Rattle.iv_text.proofs.SpelledLemmas.{spelled_then}
use Rattle.iv_text.proofs.way.tell_begun_after.Goals as goal

pub returns : goal.returns
unfolding begun_after
returns g c = spelled_then _ _ _ _ _ _ _ c.in_ok-tell.ensures c.tell_begun_at.ensures
