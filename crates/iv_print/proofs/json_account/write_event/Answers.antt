use Rattle.iv_text.proofs.WriteLemmas.{writes_then}
use Rattle.iv_print.proofs.json_account.write_event.Goals as goal

pub returns : goal.returns
returns g c =
    writes_then _ _ _ _ _ _ c.in_ok-write_key.ensures (rw (c.as_bytes.ensures.value, c.event_name.ensures) at c.write_json_text.ensures)
