use Rattle.iv_text.proofs.WriteLemmas.{writes_then}
use Rattle.iv_print.proofs.conflict.write_settings.Goals as goal

pub returns : goal.returns
returns g c = writes_then _ _ _ _ _ _ c.in_ok-write_earlier.ensures c.write_later.ensures
