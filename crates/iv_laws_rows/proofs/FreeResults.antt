-- Results that are without a fault of types, one step after another.
use Rattle.std.proofs.Common.{◌≡◌, ℕ, true, false, List, Result, Ok, Err, refl}
use Rattle.iv_expr.specs.Evaluation.{and_then}
use Rattle.iv_laws_rows.specs.Types.{Cause, Refusal, Database}
use Rattle.iv_laws_rows.specs.Types.cause.{NumberOutOfRange, TextTooLong}
use Rattle.iv_catalogue.specs.declared.cause.Fault.{Fault}
use Rattle.iv_machine.specs.Context.{Failure, over, unless_first, while_running, with_count, inside_trigger, each, in_turn}
use Rattle.iv_laws_fitting.specs.Running.{is_of_values}
use Rattle.iv_laws_fitting.proofs.Running.{Plain}
use Rattle.iv_laws_levels.proofs.Members.{In}
use Rattle.iv_laws_rows.specs.WellTyped.{is_ill_typed}
use Rattle.iv_laws_rows.proofs.Without.{Without, counted_without, each_without, in_turn_without, inside_without, over_without, running_without, then_without, unless_without, without_refused}

-- an answer, or a refusal for another cause
abbrev pub FreeBy : {A E : Type 0} → (E → Cause) → Result A E → Type 0
FreeBy cause r = Without (λ e. is_ill_typed (cause e)) r

abbrev pub FreeCause : {A : Type 0} → Result A Cause → Type 0
FreeCause r = FreeBy (λ c. c) r

abbrev pub FreeRefusal : {A : Type 0} → Result A Refusal → Type 0
FreeRefusal r = FreeBy (λ x. x.cause) r

abbrev pub FreeFailure : {A : Type 0} → Result A Failure → Type 0
FreeFailure r = FreeBy (λ x. x.cause) r

-- ---- steps

pub then_free : {A B E : Type 0} (cause : E → Cause) (r : Result A E) (f : A → Result B E) → FreeBy cause r → ((a : A) → r ≡ Ok a → FreeBy cause (f a)) → FreeBy cause (and_then r f)
then_free cause = then_without (λ e. is_ill_typed (cause e))

pub each_free : {A B E : Type 0} (cause : E → Cause) (f : A → Result B E) (xs : List A) → ((x : A) → In x xs → FreeBy cause (f x)) → FreeBy cause (each f xs)
each_free cause = each_without (λ e. is_ill_typed (cause e))

-- one after another, if each keeps what the next asks
pub in_turn_free : {A B E : Type 0} (cause : E → Cause) (P : B → Type 0) (f : A → B → Result B E) (xs : List A)
    → ((x : A) → In x xs → (b : B) → P b → FreeBy cause (f x b)) → ((x : A) → In x xs → (b after : B) → P b → f x b ≡ Ok after → P after)
    → (b : B) → P b → FreeBy cause (in_turn f xs b)
in_turn_free cause = in_turn_without (λ e. is_ill_typed (cause e))

-- ---- from one kind of refusal to another

of_values : (c : Cause) → is_of_values c ≡ true → is_ill_typed c ≡ false
of_values NumberOutOfRange h = refl
of_values TextTooLong h = refl
of_values _ h = cc

pub plain_free : {A : Type 0} (r : Result A Cause) → Plain r → FreeCause r
plain_free (Ok a) h = tt
plain_free (Err c) h = of_values c h

pub running_free : {A : Type 0} (trigger : ℕ) (r : Result A Cause) → FreeCause r → FreeRefusal (while_running trigger r)
running_free = running_without is_ill_typed

pub counted_free : {A : Type 0} (db : Database) (r : Result A Refusal) → FreeRefusal r → FreeFailure (with_count db r)
counted_free = counted_without is_ill_typed

pub over_free : {A : Type 0} (db : Database) (r : Result A Cause) → FreeCause r → FreeFailure (over db r)
over_free = over_without is_ill_typed

pub inside_free : {A : Type 0} (trigger : ℕ) (r : Result A Failure) → FreeFailure r → FreeFailure (inside_trigger trigger r)
inside_free = inside_without is_ill_typed

pub unless_free : {A : Type 0} (db : Database) (cause : Fault → Cause) (faults : List Fault) (r : Result A Failure)
    → ((f : Fault) → is_ill_typed (cause f) ≡ false) → FreeFailure r → FreeFailure (unless_first db cause faults r)
unless_free = unless_without is_ill_typed

-- a refusal of what is free is for another cause
pub free_refused : {A E : Type 0} (cause : E → Cause) (r : Result A E) (e : E) → FreeBy cause r → r ≡ Err e → is_ill_typed (cause e) ≡ false
free_refused cause = without_refused (λ e. is_ill_typed (cause e))
