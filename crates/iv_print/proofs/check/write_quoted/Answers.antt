use Rattle.iv_text.specs.Json.{json_text}
use Rattle.iv_text.specs.Spelled.{spelled}
use Rattle.iv_text.proofs.WriteLemmas.{writes_then}
use Rattle.iv_print.proofs.check.write_quoted.Goals as goal

pub returns : goal.returns
unfolding spelled json_text
returns g c =
    writes_then _ _ _ _ _ _ c.in_ok-write_all.ensures
    (writes_then _ _ _ _ _ _ c.in_ok-tell_condition.ensures c.write_all-2.ensures)
