use Rattle.iv_text.proofs.WriteLemmas.{writes_then}
use Rattle.iv_text.proofs.way.write_line.Goals as goal

pub returns : goal.returns
returns g c =
    writes_then _ _ _ _ _ _ c.in_ok-write_all.ensures
    (writes_then _ _ _ _ _ _ c.in_ok-write_limit.ensures c.write_all-2.ensures)
