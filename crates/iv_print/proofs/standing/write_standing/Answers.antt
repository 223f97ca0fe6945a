use Rattle.iv_text.proofs.WriteLemmas.{writes_then}
use Rattle.iv_print.proofs.standing.write_standing.Goals as goal

pub returns : goal.returns
returns g c =
    writes_then _ _ _ _ _ _ c.in_ok-write_indent.ensures
    (writes_then _ _ _ _ _ _ c.in_ok-write_words.ensures c.write_all.ensures)
