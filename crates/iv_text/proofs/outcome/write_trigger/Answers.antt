use Rattle.iv_text.proofs.WriteLemmas.{writes_then}
use Rattle.iv_text.proofs.outcome.write_trigger.Goals as goal

pub returns : goal.returns
returns g c =
    writes_then _ _ _ _ _ _ c.in_ok-write_all.ensures (rw (c.as_bytes.ensures.value, c.trigger_in.ensures) at c.write_all-2.ensures)
