use Rattle.iv_text.proofs.WriteLemmas.{writes_then}
use Rattle.iv_text.proofs.outcome.write_constraint.Goals as goal

pub returns : goal.returns
returns g c = writes_then _ _ _ _ _ _ c.in_ok-write_all.ensures (rw c.constraints.ensures.constraints at c.write_name.ensures)
