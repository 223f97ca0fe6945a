use Rattle.iv_text.proofs.WriteLemmas.{writes_then}
use Rattle.iv_text.proofs.json.write_cause.Goals as goal

pub returns : goal.returns
returns g c =
    writes_then _ _ _ _ _ _ c.in_ok-write_member.ensures
    (writes_then _ _ _ _ _ _ (rw (c.from.ensures, c.cause_number.ensures) at c.in_ok-write_number.ensures) (rw c.cause_name.ensures at c.write_text_member.ensures))
