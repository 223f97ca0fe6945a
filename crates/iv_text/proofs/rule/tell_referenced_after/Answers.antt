use Rattle.iv_text.proofs.SpelledLemmas.{spelled_then}
use Rattle.iv_text.proofs.rule.tell_referenced_after.Goals as goal

pub returns : goal.returns
returns g c = spelled_then _ _ _ _ _ _ _ (rw c.as_bytes.ensures.value at c.in_ok-tell.ensures) c.tell_referenced.ensures
