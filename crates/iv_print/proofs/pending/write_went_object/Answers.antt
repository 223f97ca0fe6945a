use Rattle.iv_text.proofs.WriteLemmas.{writes_then}
use Rattle.iv_print.proofs.pending.write_went_object.Goals as goal

pub returns : goal.returns
returns g c =
    writes_then _ _ _ _ _ _ c.in_ok-write_all.ensures
    (writes_then _ _ _ _ _ _ c.in_ok-write_key.ensures
    (writes_then _ _ _ _ _ _ (rw c.constraints.ensures.constraints at c.in_ok-write_name.ensures)
    (writes_then _ _ _ _ _ _ c.in_ok-write_asked.ensures
    (writes_then _ _ _ _ _ _ (rw c.constraint.ensures at c.in_ok-write_row_members.ensures) c.write_all-2.ensures))))
