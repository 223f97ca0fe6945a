use Rattle.iv_text.proofs.WriteLemmas.{writes_then}
use Rattle.iv_print.proofs.conflict.write_earlier.Goals as goal

pub returns : goal.returns
returns g c =
    writes_then _ _ _ _ _ _ c.in_ok-write_all.ensures
    (writes_then _ _ _ _ _ _ (rw c.constraints.ensures.constraints at c.in_ok-write_name.ensures)
    (writes_then _ _ _ _ _ _ c.in_ok-write_all-2.ensures
    (writes_then _ _ _ _ _ _ (rw c.from.ensures at c.in_ok-write_column.ensures)
    (writes_then _ _ _ _ _ _ c.in_ok-write_all-3.ensures c.write_value.ensures))))
