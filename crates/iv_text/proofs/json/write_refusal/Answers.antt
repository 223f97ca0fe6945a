use Rattle.iv_text.proofs.WriteLemmas.{writes_then}
use Rattle.iv_text.proofs.json.write_refusal.Goals as goal

pub returns : goal.returns
returns g c =
    writes_then _ _ _ _ _ _ c.in_ok-write_kind.ensures
    (writes_then _ _ _ _ _ _ c.in_ok-write_cause.ensures c.write_details.ensures)
