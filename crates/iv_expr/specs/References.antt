-- What borrowed results, outer ranges and the code's operators mean.
use Rattle.std.specs.Prelude.{◌≡◌, ◌⊎◌, List, [], Option, Some, None, Result, Ok, Err, ℤ, ◌+ℤ◌, ◌-ℤ◌, ◌*ℤ◌}
use Rattle.iv_expr.specs.Types.{Value, ExprFault}
use Rattle.iv_expr.specs.Types.value.{Text}
use Rattle.iv_expr.specs.Types.expr_fault.{NoMemory}
use Rattle.iv_value.specs.declared.value.ValueRef.{ValueRef}
use Rattle.iv_value.specs.References.{value_of}
use Rattle.iv_expr.specs.declared.operators.Operator.{Operator}
use Rattle.iv_expr.specs.declared.operators.Operator.TheVariants as op

-- A result whose value is borrowed, as the result.
abbrev pub result_of : {E : Type 0} → Result ValueRef E → Result Value E
result_of (Ok v) = Ok (value_of v)
result_of (Err e) = Err e

-- A result and its copy: the same, except that the copy of a text fails if an allocation fails.
abbrev pub CopyOf : Result Value ExprFault → Result Value ExprFault → Type 0
CopyOf (Ok (Text t)) copy = (copy ≡ Ok (Text t)) ⊎ (copy ≡ Err NoMemory)
CopyOf result copy = copy ≡ result

-- The ranges further out, if there are any.
abbrev pub outer : {X : Type 0} → Option (List X) → List X
outer None = []
outer (Some xs) = xs

-- The operation of an arithmetic operator.
abbrev pub operation : Operator → ℤ → ℤ → ℤ
operation op.Plus = ◌+ℤ◌
operation op.Minus = ◌-ℤ◌
operation op.Times = ◌*ℤ◌
