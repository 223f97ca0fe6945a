use Rattle.iv_text.proofs.WriteLemmas.{writes_then}
use Rattle.iv_print.proofs.json_account.write_referenced.Goals as goal

pub returns : goal.returns
returns g c =
    writes_then _ _ _ _ _ _ c.in_ok-write_member.ensures
    (writes_then _ _ _ _ _ _ c.in_ok-write_table.ensures
    (writes_then _ _ _ _ _ _ c.in_ok-write_member-2.ensures
    (writes_then _ _ _ _ _ _ c.in_ok-write_all.ensures
    (writes_then _ _ _ _ _ _ (rw c.as_slice.ensures at c.in_ok-write_columns.ensures) c.write_all-2.ensures))))
