use Rattle.iv_text.proofs.SpelledLemmas.{spelled_then}
use Rattle.iv_text.proofs.spelled.tell_between.Goals as goal

pub returns : goal.returns
returns g c =
    spelled_then _ _ _ _ _ _ _ c.in_ok-tell.ensures
    (spelled_then _ _ _ _ _ _ _ c.in_ok-tell-2.ensures c.tell-3.ensures)
