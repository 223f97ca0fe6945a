use Rattle.iv_text.proofs.SpelledLemmas.{spelled_then}
use Rattle.iv_text.proofs.rule.tell_listed_between.Goals as goal

pub returns : goal.returns
returns g c =
    spelled_then _ _ _ _ _ _ _ (rw c.as_bytes.ensures.value at c.in_ok-tell.ensures)
    (spelled_then _ _ _ _ _ _ _ c.in_ok-tell_listed.ensures (rw c.as_bytes-2.ensures.value at c.tell-2.ensures))
