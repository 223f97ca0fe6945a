-- Results that aren't refused for lack of memory, one step after another.
use Rattle.std.proofs.Common.{◌≡◌, ℕ, false, List, [], ◌∷◌, map, Result, Ok, Err}
use Rattle.iv_laws_answers.specs.Types.{ExprFault, Cause, Fault, Refusal, Database}
use Rattle.iv_expr.specs.Evaluation.{both, and_then, all_results}
use Rattle.iv_catalogue.specs.Refusals.{is_memory_cause, cause_of}
use Rattle.iv_machine.specs.Context.{Failure, over, unless_first, with_count, inside_trigger, each, in_turn}
use Rattle.iv_laws_rows.proofs.Without.{Without, counted_without, each_without, in_turn_without, inside_without, over_without, then_without, unless_without, without_refused}

-- an answer, or a refusal for another cause
abbrev pub SparedBy : {A E : Type 0} → (E → Cause) → Result A E → Type 0
SparedBy cause r = Without (λ e. is_memory_cause (cause e)) r

abbrev pub SparedFault : {A : Type 0} → Result A ExprFault → Type 0
SparedFault r = SparedBy cause_of r

abbrev pub SparedCause : {A : Type 0} → Result A Cause → Type 0
SparedCause r = SparedBy (λ c. c) r

abbrev pub SparedRefusal : {A : Type 0} → Result A Refusal → Type 0
SparedRefusal r = SparedBy (λ x. x.cause) r

abbrev pub SparedFailure : {A : Type 0} → Result A Failure → Type 0
SparedFailure r = SparedBy (λ x. x.cause) r

-- ---- steps

pub then_spared : {A B E : Type 0} (cause : E → Cause) (r : Result A E) (f : A → Result B E) → SparedBy cause r → ((a : A) → SparedBy cause (f a))
    → SparedBy cause (and_then r f)
then_spared cause r f p q = then_without (λ e. is_memory_cause (cause e)) r f p (λ a e. q a)

pub both_spared : {A B C E : Type 0} (cause : E → Cause) (f : A → B → Result C E) (a : Result A E) (b : Result B E) → SparedBy cause a → SparedBy cause b
    → ((x : A) (y : B) → SparedBy cause (f x y)) → SparedBy cause (both f a b)
both_spared cause f (Ok a) (Ok b) p q h = h a b
both_spared cause f (Ok a) (Err e) p q h = q
both_spared cause f (Err e) b p q h = p

pub each_spared : {A B E : Type 0} (cause : E → Cause) (f : A → Result B E) → ((x : A) → SparedBy cause (f x)) → (xs : List A) → SparedBy cause (each f xs)
each_spared cause f h xs = each_without (λ e. is_memory_cause (cause e)) f xs (λ x i. h x)

pub in_turn_spared : {A B E : Type 0} (cause : E → Cause) (f : A → B → Result B E) → ((x : A) (b : B) → SparedBy cause (f x b)) → (xs : List A) (b : B)
    → SparedBy cause (in_turn f xs b)
in_turn_spared cause f h xs b = in_turn_without (λ e. is_memory_cause (cause e)) (λ _. Unit {0}) f xs (λ x i c p. h x c) (λ x i c after p e. tt) b tt

pub all_spared : {A B : Type 0} (f : A → Result B ExprFault) → ((x : A) → SparedFault (f x)) → (xs : List A) → SparedFault (all_results (map f xs))
all_spared f h [] = tt
all_spared f h (x ∷ xs) =
    then_spared cause_of (f x) (λ y. and_then (all_results (map f xs)) (λ ys. Ok (y ∷ ys))) (h x)
    (λ y. then_spared cause_of (all_results (map f xs)) (λ ys. Ok (y ∷ ys)) (all_spared f h xs) (λ ys. tt))

-- ---- from one kind of refusal to another

pub counted_spared : {A : Type 0} (db : Database) (r : Result A Refusal) → SparedRefusal r → SparedFailure (with_count db r)
counted_spared = counted_without is_memory_cause

pub over_spared : {A : Type 0} (db : Database) (r : Result A Cause) → SparedCause r → SparedFailure (over db r)
over_spared = over_without is_memory_cause

pub inside_spared : {A : Type 0} (trigger : ℕ) (r : Result A Failure) → SparedFailure r → SparedFailure (inside_trigger trigger r)
inside_spared = inside_without is_memory_cause

pub unless_spared : {A : Type 0} (db : Database) (cause : Fault → Cause) (faults : List Fault) (r : Result A Failure)
    → ((f : Fault) → is_memory_cause (cause f) ≡ false) → SparedFailure r → SparedFailure (unless_first db cause faults r)
unless_spared = unless_without is_memory_cause

-- a refusal of what is spared is for another cause
pub spared_refused : {A E : Type 0} (cause : E → Cause) (r : Result A E) (e : E) → SparedBy cause r → r ≡ Err e → is_memory_cause (cause e) ≡ false
spared_refused cause = without_refused (λ e. is_memory_cause (cause e))
