use Rattle.iv_text.proofs.SpelledLemmas.{spelled_then}
use Rattle.iv_text.proofs.condition.tell_comparison.Goals as goal

pub returns : goal.returns
returns g c =
    spelled_then _ _ _ _ _ _ _ c.in_ok-tell_expression.ensures
    (spelled_then _ _ _ _ _ _ _ (rw (c.as_bytes.ensures.value, c.comparison_text.ensures) at c.in_ok-tell.ensures) c.tell_expression-2.ensures)
