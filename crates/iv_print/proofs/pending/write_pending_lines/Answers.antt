use Rattle.iv_text.proofs.WriteLemmas.{writes_then}
use Rattle.iv_print.proofs.pending.write_pending_lines.Goals as goal

pub returns : goal.returns
returns g c = writes_then _ _ _ _ _ _ c.in_ok-write_all_came.ensures c.write_all_went.ensures
