use Rattle.iv_text.proofs.WriteLemmas.{writes_then}
use Rattle.iv_print.proofs.account.write_indent.Goals as goal

pub returns : goal.returns
returns g c = writes_then _ _ _ _ _ _ c.in_ok-write_all.ensures c.write_spaces.ensures
