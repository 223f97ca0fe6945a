use Rattle.iv_text.proofs.WriteLemmas.{writes_then}
use Rattle.iv_text.proofs.json.write_further_row.Goals as goal

pub returns : goal.returns
returns g c = writes_then _ _ _ _ _ _ c.in_ok-write_all.ensures (rw c.values.ensures at c.write_row.ensures)
