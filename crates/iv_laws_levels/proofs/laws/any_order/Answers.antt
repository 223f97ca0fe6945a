use Rattle.iv_laws_levels.proofs.AnyOrder.{any_order}
use Rattle.iv_laws_levels.proofs.laws.any_order.Goals as goal

pub returns : goal.returns
returns c = any_order
