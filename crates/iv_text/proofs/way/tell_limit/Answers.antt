use Rattle.iv_text.specs.Ways.{limit_text}
use Rattle.iv_text.proofs.SpelledLemmas.{spelled_then}
use Rattle.iv_text.proofs.way.tell_limit.Goals as goal

pub returns : goal.returns
unfolding limit_text
returns g c =
    spelled_then _ _ _ _ _ _ _ (rw c.depth_of-depth.ensures at c.in_ok-tell_words.ensures) (rw c.depth_of-depth.ensures at c.tell_way.ensures)
