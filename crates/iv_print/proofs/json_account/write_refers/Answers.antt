use Rattle.iv_text.proofs.WriteLemmas.{writes_then}
use Rattle.iv_print.proofs.json_account.write_refers.Goals as goal

pub returns : goal.returns
returns g c =
    writes_then _ _ _ _ _ _ (rw (c.as_bytes.ensures.value, c.reference_reason.ensures) at c.in_ok-write_because.ensures) c.write_referenced.ensures
