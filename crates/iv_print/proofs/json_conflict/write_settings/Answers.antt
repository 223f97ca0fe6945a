use Rattle.iv_text.proofs.WriteLemmas.{writes_then}
use Rattle.iv_print.proofs.json_conflict.write_settings.Goals as goal

pub returns : goal.returns
returns g c =
    writes_then _ _ _ _ _ _ c.in_ok-write_member.ensures
    (writes_then _ _ _ _ _ _ (rw c.constraints.ensures.constraints at c.in_ok-write_name.ensures)
    (writes_then _ _ _ _ _ _ c.in_ok-write_member-2.ensures
    (writes_then _ _ _ _ _ _ (rw c.from.ensures at c.in_ok-write_column.ensures)
    (writes_then _ _ _ _ _ _ c.in_ok-write_member-3.ensures
    (writes_then _ _ _ _ _ _ c.in_ok-write_value.ensures
    (writes_then _ _ _ _ _ _ c.in_ok-write_member-4.ensures c.write_value-2.ensures))))))
