use Rattle.iv_text.proofs.WriteLemmas.{writes_then}
use Rattle.iv_print.proofs.account.write_fault.Goals as goal

pub returns : goal.returns
returns g c =
    writes_then _ _ _ _ _ _ c.in_ok-write_indent.ensures
    (writes_then _ _ _ _ _ _ c.in_ok-write_described.ensures
    (writes_then _ _ _ _ _ _ c.in_ok-write_all.ensures
    (writes_then _ _ _ _ _ _ c.in_ok-write_fault_rows.ensures c.write_all-2.ensures)))
