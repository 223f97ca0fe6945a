use Rattle.iv_text.proofs.WriteLemmas.{writes_then}
use Rattle.iv_print.proofs.json_account.write_began.Goals as goal

pub returns : goal.returns
returns g c =
    writes_then _ _ _ _ _ _ c.in_ok-write_entry_key.ensures
    (writes_then _ _ _ _ _ _ c.in_ok-write_member.ensures
    (writes_then _ _ _ _ _ _ (rw c.from.ensures at c.in_ok-write_number.ensures)
    (writes_then _ _ _ _ _ _ c.in_ok-write_if_nothing.ensures
    (writes_then _ _ _ _ _ _ c.in_ok-write_member-2.ensures c.write_all.ensures))))
