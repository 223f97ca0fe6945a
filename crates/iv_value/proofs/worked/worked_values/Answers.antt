use Rattle.std.proofs.Common.{refl}
use Rattle.iv_value.proofs.OnLiterals.{values_on_literals}
use Rattle.iv_value.proofs.worked.worked_values.Goals as goal

pub returns-clause-order : goal.returns-clause-order
unfolding values_on_literals
returns-clause-order c = (refl, refl, refl, refl, refl)

pub returns-clause-length : goal.returns-clause-length
unfolding values_on_literals
returns-clause-length c = (refl, refl, refl, refl, refl, refl)
