use Rattle.iv_text.proofs.WriteLemmas.{writes_then}
use Rattle.iv_print.proofs.json_addition.write_not_added.Goals as goal

pub returns : goal.returns
returns g c =
    writes_then _ _ _ _ _ _ c.in_ok-write_entry_key.ensures
    (writes_then _ _ _ _ _ _ c.in_ok-write_described.ensures
    (writes_then _ _ _ _ _ _ c.in_ok-write_rows.ensures c.write_all.ensures))
