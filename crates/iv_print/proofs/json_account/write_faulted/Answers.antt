use Rattle.iv_text.proofs.WriteLemmas.{writes_then}
use Rattle.iv_print.proofs.json_account.write_faulted.Goals as goal

pub returns : goal.returns
returns g c =
    writes_then _ _ _ _ _ _ c.in_ok-write_entry_key.ensures
    (writes_then _ _ _ _ _ _ c.in_ok-write_described.ensures
    (writes_then _ _ _ _ _ _ c.in_ok-write_violation.ensures c.write_all.ensures))
