use Rattle.iv_text.specs.Json.{json_text}
use Rattle.iv_text.proofs.WriteLemmas.{writes_then}
use Rattle.iv_text.proofs.json.write_json_text.Goals as goal

pub returns : goal.returns
unfolding json_text
returns g c =
    writes_then _ _ _ _ _ _ c.in_ok-write_all.ensures
    (writes_then _ _ _ _ _ _ c.in_ok-write_json_bytes.ensures c.write_all-2.ensures)
