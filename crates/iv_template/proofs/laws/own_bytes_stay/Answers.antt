use Rattle.iv_template.proofs.OwnBytes.{own_bytes}
use Rattle.iv_template.proofs.laws.own_bytes_stay.Goals as goal

pub returns : goal.returns
returns c = own_bytes
