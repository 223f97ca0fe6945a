use Rattle.iv_text.proofs.WriteLemmas.{writes_then}
use Rattle.iv_print.proofs.account.write_ran.Goals as goal

pub returns : goal.returns
returns g c =
    writes_then _ _ _ _ _ _ c.in_ok-write_asked.ensures
    (writes_then _ _ _ _ _ _ c.in_ok-write_all.ensures (rw c.as_slice.ensures at c.write_changes.ensures))
