use Rattle.iv_text.proofs.SpelledLemmas.{spelled_then}
use Rattle.iv_text.proofs.rule.tell_some_names.Goals as goal

pub returns : goal.returns
returns g c = spelled_then _ _ _ _ _ _ _ c.in_ok-tell_name.ensures c.tell_more_names.ensures
