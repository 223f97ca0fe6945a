use Rattle.iv_text.proofs.WriteLemmas.{writes_then}
use Rattle.iv_print.proofs.failure.write_failure.Goals as goal

pub returns : goal.returns
returns g c =
    writes_then _ _ _ _ _ _ c.in_ok-write_indent.ensures
    (writes_then _ _ _ _ _ _ c.in_ok-write_evaluated.ensures
    (writes_then _ _ _ _ _ _ c.in_ok-write_value_failure.ensures c.write_all.ensures))
