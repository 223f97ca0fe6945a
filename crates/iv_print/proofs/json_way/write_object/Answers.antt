use Rattle.iv_text.proofs.WriteLemmas.{writes_then}
use Rattle.iv_print.proofs.json_way.write_object.Goals as goal

pub returns : goal.returns
returns g c =
    writes_then _ _ _ _ _ _ c.in_ok-write_entry_key.ensures
    (writes_then _ _ _ _ _ _ c.in_ok-write_member.ensures
    (writes_then _ _ _ _ _ _ c.in_ok-write_text.ensures c.write_all.ensures))
