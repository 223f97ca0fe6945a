-- Refusals outside any trigger, the refusal OutOfMemory, what calls that allocate answer, and the causes that faults of evaluation are.
use Rattle.std.specs.Prelude.{◌≡◌, Bool, true, false, None, Result, Ok, Err, MatchBool}
use Rattle.iv_catalogue.specs.declared.cause.Cause.{Cause}
use Rattle.iv_expr.specs.declared.tree.ExprFault.{ExprFault}
use Rattle.iv_expr.specs.declared.tree.ExprFault.TheVariants as fault
use Rattle.iv_catalogue.specs.declared.cause.Cause.TheVariants.{NumberOutOfRange, OutOfMemory, WrongShape}
use Rattle.iv_catalogue.specs.declared.cause.Refusal.{Refusal}

-- the refusal for a cause, outside any trigger
abbrev pub refusal_of : Cause → Refusal
refusal_of c = record { cause = c; trigger = None }

-- the answer that is this refusal
abbrev pub refusal_answer : {A : Type 0} → Cause → Result A Refusal
refusal_answer c = Err (refusal_of c)

-- an allocation failed
abbrev pub out_of_memory : Refusal
out_of_memory = refusal_of OutOfMemory

abbrev pub is_memory_cause : Cause → Bool
is_memory_cause OutOfMemory = true
is_memory_cause _ = false

-- the answer is OutOfMemory
abbrev pub is_memory : {A : Type 0} → Result A Refusal → Bool
is_memory (Ok a) = false
is_memory (Err r) = is_memory_cause r.cause

-- What a call that allocates answers: an Ok and an error are what the definition says; if an allocation failed, nothing is said.
abbrev pub Answers : {A B E F : Type 0} → (E → Bool) → (E → F) → (A → B) → Result A E → Result B F → Type 0
Answers no_memory error view (Ok a) said = said ≡ Ok (view a)
Answers no_memory error view (Err e) said = MatchBool (no_memory e) (Unit {0}) (said ≡ Err (error e))

-- why a statement is refused for a fault of evaluation; a resolved statement is well-typed, and a definition never runs out of memory
abbrev pub cause_of : ExprFault → Cause
cause_of fault.OutOfRange = NumberOutOfRange
cause_of fault.IllTyped = WrongShape
cause_of fault.NoMemory = OutOfMemory
