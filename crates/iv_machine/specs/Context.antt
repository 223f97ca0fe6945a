-- What a data statement runs under, and how it is refused half-way.
use Rattle.std.specs.Prelude.{ℕ, List, [], ◌∷◌, Option, Some, None, is_none, if◌then◌else◌, Result, Ok, Err}
use Rattle.iv_machine.specs.Types.{ConstraintMode, Cause, Fault, Refusal, Database}
use Rattle.iv_expr.specs.Evaluation.{and_then}
use Rattle.iv_catalogue.specs.Catalogues.{Schema}

-- The catalogue, and the mode of each constraint.
pub record Context : Type 0 where
  pub schema : Schema
  pub modes : List ConstraintMode

-- A refusal: its cause, the innermost trigger whose body or WHEN was running, and the count of row changes in the transaction when it came.
pub record Failure : Type 0 where
  pub cause : Cause
  pub trigger : Option ℕ
  pub count : ℕ

-- refused outside of any trigger, as far as is known here
abbrev pub fails : {A : Type 0} → Database → Cause → Result A Failure
fails db cause = Err (record { cause = cause; trigger = None; count = db.count })

-- a result over this database
abbrev pub over : {A : Type 0} → Database → Result A Cause → Result A Failure
over db (Ok a) = Ok a
over db (Err cause) = fails db cause

-- refused with the first fault of a list, if there is one
abbrev pub unless_first : {A : Type 0} → Database → (Fault → Cause) → List Fault → Result A Failure → Result A Failure
unless_first db cause [] result = result
unless_first db cause (fault ∷ faults) result = fails db (cause fault)

-- ---- the trigger and the count of a refusal

-- refused while this trigger runs
abbrev pub while_running : {A : Type 0} → ℕ → Result A Cause → Result A Refusal
while_running trigger (Ok a) = Ok a
while_running trigger (Err cause) = Err (record { cause = cause; trigger = Some trigger })

-- a refusal with the row changes that this database has
abbrev pub with_count : {A : Type 0} → Database → Result A Refusal → Result A Failure
with_count db (Ok a) = Ok a
with_count db (Err refusal) = Err (record { cause = refusal.cause; trigger = refusal.trigger; count = db.count })

-- a refusal that comes while this trigger runs names it, unless it came inside of another that it runs
abbrev pub inside_trigger : {A : Type 0} → ℕ → Result A Failure → Result A Failure
inside_trigger trigger (Ok a) = Ok a
inside_trigger trigger (Err failure) =
    Err (if is_none failure.trigger then record failure { trigger = Some trigger } else failure)

-- ---- one after another

-- what is made of each, in their order, or the first refusal
abbrev pub each : {A B E : Type 0} → (A → Result B E) → List A → Result (List B) E
each f [] = Ok []
each f (x ∷ xs) = and_then (f x) (λ y. and_then (each f xs) (λ ys. Ok (y ∷ ys)))

-- what each in turn makes of what the one before it left, or the first refusal
abbrev pub in_turn : {A B E : Type 0} → (A → B → Result B E) → List A → B → Result B E
in_turn f [] b = Ok b
in_turn f (x ∷ xs) b = and_then (f x b) (in_turn f xs)
