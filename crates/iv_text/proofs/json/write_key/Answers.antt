use Rattle.iv_text.specs.Json.{key}
use Rattle.iv_text.proofs.WriteLemmas.{writes_then}
use Rattle.iv_text.proofs.json.write_key.Goals as goal

pub returns : goal.returns
unfolding key
returns g c =
    writes_then _ _ _ _ _ _ c.in_ok-write_all.ensures
    (writes_then _ _ _ _ _ _ c.in_ok-write_all-2.ensures c.write_all-3.ensures)
