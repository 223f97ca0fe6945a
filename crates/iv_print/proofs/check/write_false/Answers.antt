use Rattle.iv_text.proofs.WriteLemmas.{writes_then}
use Rattle.iv_print.proofs.check.write_false.Goals as goal

pub returns : goal.returns
returns g c =
    writes_then _ _ _ _ _ _ c.in_ok-write_all.ensures
    (writes_then _ _ _ _ _ _ c.in_ok-write_condition.ensures c.write_with_values.ensures)
