use Rattle.iv_template.proofs.ByHoles.{none_that_stops}
use Rattle.iv_template.proofs.laws.a_text_that_stops_is_no_template.Goals as goal

pub returns : goal.returns
returns c = none_that_stops
