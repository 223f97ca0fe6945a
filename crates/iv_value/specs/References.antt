-- The value that a borrowed value is, and what a copy of it answers.
use Rattle.std.specs.Prelude.{◌≡◌, Result, Ok, IfOk}
use Rattle.std.specs.declared.alloc.AllocError.{AllocError}
use Rattle.iv_value.specs.declared.value.Value.{Value}
use Rattle.iv_value.specs.declared.value.Value.TheVariants as value
use Rattle.iv_value.specs.declared.value.ValueRef.{ValueRef}
use Rattle.iv_value.specs.declared.value.ValueRef.TheVariants as borrowed

-- A null is null, a number is itself, a borrowed text is its text.
abbrev pub value_of : ValueRef → Value
value_of borrowed.Null = value.Null
value_of (borrowed.Int z) = value.Int z
value_of (borrowed.Text t) = value.Text t.now

-- A copy is the value; only that of a text can fail, if an allocation fails.
abbrev pub Copied : Value → Result Value AllocError → Type 0
Copied (value.Text t) result = IfOk result (λ v. v ≡ value.Text t)
Copied v result = result ≡ Ok v
