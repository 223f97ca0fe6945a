use Rattle.std.proofs.Common.{refl}
use Rattle.iv_expr.specs.Worked.{shape}
use Rattle.iv_expr.proofs.worked.worked_values.Goals as goal

pub returns-clause-suiting : goal.returns-clause-suiting
returns-clause-suiting c = (
  refl,
  refl,
  refl,
  refl,
  refl,
  (shape, record { ranges = (refl, tt); old = tt; new = tt; transition = λ side. tt; tables = λ table. tt }, refl),
)
