use Rattle.iv_text.proofs.WriteLemmas.{writes_then}
use Rattle.iv_print.proofs.json_account.write_equal.Goals as goal

pub returns : goal.returns
returns g c =
    writes_then _ _ _ _ _ _ c.in_ok-write_because.ensures
    (writes_then _ _ _ _ _ _ c.in_ok-write_member.ensures
    (writes_then _ _ _ _ _ _ c.in_ok-write_number.ensures
    (writes_then _ _ _ _ _ _ c.in_ok-write_member-2.ensures (rw c.values.ensures at c.write_row.ensures))))
