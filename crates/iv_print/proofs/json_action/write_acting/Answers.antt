use Rattle.iv_text.proofs.WriteLemmas.{writes_then}
use Rattle.iv_print.proofs.json_action.write_acting.Goals as goal

pub returns : goal.returns
returns g c =
    writes_then _ _ _ _ _ _ c.in_ok-write_key.ensures
    (writes_then _ _ _ _ _ _ (rw c.constraints.ensures.constraints at c.in_ok-write_name.ensures) (rw (c.as_bytes.ensures.value, c.action_name.ensures) at c.write_text_member.ensures))
