use Rattle.iv_text.proofs.WriteLemmas.{writes_then}
use Rattle.iv_print.proofs.account.write_action.Goals as goal

pub returns : goal.returns
returns g c =
    writes_then _ _ _ _ _ _ c.in_ok-write_indent.ensures
    (writes_then _ _ _ _ _ _ (rw c.constraints.ensures.constraints at c.in_ok-write_name.ensures)
    (writes_then _ _ _ _ _ _ (rw (c.as_bytes.ensures.value, c.action_words.ensures) at c.in_ok-write_all.ensures)
    (writes_then _ _ _ _ _ _ c.in_ok-write_numbered.ensures c.write_all-2.ensures)))
