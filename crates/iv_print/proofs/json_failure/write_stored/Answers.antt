use Rattle.iv_text.proofs.WriteLemmas.{writes_then}
use Rattle.iv_print.proofs.json_failure.write_stored.Goals as goal

pub returns : goal.returns
returns g c =
    writes_then _ _ _ _ _ _ c.in_ok-write_place.ensures
    (writes_then _ _ _ _ _ _ c.in_ok-write_member.ensures (rw c.values.ensures at c.write_row.ensures))
