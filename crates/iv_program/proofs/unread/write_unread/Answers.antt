use Rattle.iv_text.proofs.WriteLemmas.{writes_then}
use Rattle.iv_program.proofs.unread.write_unread.Goals as goal

pub returns : goal.returns
returns g c =
    writes_then _ _ _ _ _ _ c.in_ok-write_all.ensures
    (writes_then _ _ _ _ _ _ (rw (c.as_bytes.ensures.value) at c.in_ok-write_all-2.ensures) c.write_reason.ensures)
