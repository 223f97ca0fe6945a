use Rattle.iv_template.proofs.LawProofs.{one_reading}
use Rattle.iv_template.proofs.laws.a_template_has_one_reading.Goals as goal

pub returns : goal.returns
returns c = one_reading
