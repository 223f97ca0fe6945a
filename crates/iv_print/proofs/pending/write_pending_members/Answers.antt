use Rattle.iv_text.proofs.WriteLemmas.{writes_then}
use Rattle.iv_print.proofs.pending.write_pending_members.Goals as goal

pub returns : goal.returns
returns g c = writes_then _ _ _ _ _ _ c.in_ok-write_came_member.ensures c.write_went_member.ensures
