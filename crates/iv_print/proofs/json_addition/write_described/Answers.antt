use Rattle.iv_text.proofs.WriteLemmas.{writes_then}
use Rattle.iv_print.proofs.json_addition.write_described.Goals as goal

pub returns : goal.returns
returns g c =
    writes_then _ _ _ _ _ _ c.in_ok-write_member.ensures
    (writes_then _ _ _ _ _ _ (rw (c.as_bytes.ensures.value, c.as_str.ensures) at c.in_ok-write_json_text.ensures) c.write_asked_of.ensures)
