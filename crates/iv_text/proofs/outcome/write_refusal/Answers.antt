use Rattle.iv_text.proofs.WriteLemmas.{writes_then}
use Rattle.iv_text.proofs.outcome.write_refusal.Goals as goal

pub returns : goal.returns
returns g c =
    writes_then _ _ _ _ _ _ c.in_ok-write_all.ensures
    (writes_then _ _ _ _ _ _ (rw (c.as_bytes.ensures.value, c.cause_words.ensures) at c.in_ok-write_all-2.ensures)
    (writes_then _ _ _ _ _ _ c.in_ok-write_details.ensures
    (writes_then _ _ _ _ _ _ c.in_ok-write_inside.ensures c.write_all-3.ensures)))
