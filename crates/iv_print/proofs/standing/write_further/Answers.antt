use Rattle.iv_text.proofs.WriteLemmas.{writes_then}
use Rattle.iv_print.proofs.standing.write_further.Goals as goal

pub returns : goal.returns
returns g c =
    writes_then _ _ _ _ _ _ c.in_ok-write_all.ensures (rw (c.as_bytes.ensures.value, c.as_str.ensures) at c.write_all-2.ensures)
