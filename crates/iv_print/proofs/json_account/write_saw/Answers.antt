use Rattle.iv_text.proofs.WriteLemmas.{writes_then}
use Rattle.iv_print.proofs.json_account.write_saw.Goals as goal

pub returns : goal.returns
returns g c =
    writes_then _ _ _ _ _ _ c.in_ok-write_member.ensures
    (writes_then _ _ _ _ _ _ c.in_ok-write_all.ensures
    (writes_then _ _ _ _ _ _ c.in_ok-write_changes.ensures c.write_all-2.ensures))
