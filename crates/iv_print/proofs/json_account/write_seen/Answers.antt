use Rattle.iv_text.proofs.WriteLemmas.{writes_then}
use Rattle.iv_print.proofs.json_account.write_seen.Goals as goal

pub returns : goal.returns
returns g c =
    writes_then _ _ _ _ _ _ c.in_ok-write_side.ensures
    (writes_then _ _ _ _ _ _ c.in_ok-write_side-2.ensures (rw c.as_slice.ensures at c.write_saw.ensures))
