-- Results that are without refusals of some kind, one step after another. The kind is a test of what is refused with.
use Rattle.std.proofs.Common.{◌≡◌, ℕ, Bool, true, false, List, [], ◌∷◌, Some, is_none, Result, Ok, Err, if◌then◌else◌, refl, subst, inl, inr}
use Rattle.iv_expr.specs.Evaluation.{and_then}
use Rattle.iv_laws_rows.specs.Types.{Cause, Refusal, Database}
use Rattle.iv_catalogue.specs.declared.cause.Fault.{Fault}
use Rattle.iv_machine.specs.Context.{Failure, over, unless_first, while_running, with_count, inside_trigger, each, in_turn}
use Rattle.iv_laws_levels.proofs.Members.{In}

-- an answer, or a refusal of another kind
abbrev pub Without : {A E : Type 0} → (E → Bool) → Result A E → Type 0
Without test (Ok a) = Unit {0}
Without test (Err e) = test e ≡ false

-- ---- steps

pub then_without : {A B E : Type 0} (test : E → Bool) (r : Result A E) (f : A → Result B E) → Without test r → ((a : A) → r ≡ Ok a → Without test (f a)) → Without test (and_then r f)
then_without test (Ok a) f p q = q a refl
then_without test (Err e) f p q = p

pub each_without : {A B E : Type 0} (test : E → Bool) (f : A → Result B E) (xs : List A) → ((x : A) → In x xs → Without test (f x)) → Without test (each f xs)
each_without test f [] h = tt
each_without test f (x ∷ xs) h =
    then_without test (f x) (λ y. and_then (each f xs) (λ ys. Ok (y ∷ ys))) (h x (inl refl))
    (λ y e. then_without test (each f xs) (λ ys. Ok (y ∷ ys)) (each_without test f xs (λ z i. h z (inr i))) (λ ys g. tt))

-- one after another, if each keeps what the next asks
pub in_turn_without : {A B E : Type 0} (test : E → Bool) (P : B → Type 0) (f : A → B → Result B E) (xs : List A)
    → ((x : A) → In x xs → (b : B) → P b → Without test (f x b)) → ((x : A) → In x xs → (b after : B) → P b → f x b ≡ Ok after → P after)
    → (b : B) → P b → Without test (in_turn f xs b)
in_turn_without test P f [] h keeps b p = tt
in_turn_without test P f (x ∷ xs) h keeps b p =
    then_without test (f x b) (in_turn f xs) (h x (inl refl) b p)
    (λ after e. in_turn_without test P f xs (λ y i. h y (inr i)) (λ y i. keeps y (inr i)) after (keeps x (inl refl) b after p e))

-- ---- from one kind of refusal to another

pub running_without : {A : Type 0} (test : Cause → Bool) (trigger : ℕ) (r : Result A Cause) → Without test r → Without (λ (x : Refusal). test x.cause) (while_running trigger r)
running_without test trigger (Ok a) h = tt
running_without test trigger (Err c) h = h

pub counted_without : {A : Type 0} (test : Cause → Bool) (db : Database) (r : Result A Refusal) → Without (λ x. test x.cause) r → Without (λ (x : Failure). test x.cause) (with_count db r)
counted_without test db (Ok a) h = tt
counted_without test db (Err c) h = h

pub over_without : {A : Type 0} (test : Cause → Bool) (db : Database) (r : Result A Cause) → Without test r → Without (λ (x : Failure). test x.cause) (over db r)
over_without test db (Ok a) h = tt
over_without test db (Err c) h = h

pub inside_without : {A : Type 0} (test : Cause → Bool) (trigger : ℕ) (r : Result A Failure) → Without (λ x. test x.cause) r → Without (λ (x : Failure). test x.cause) (inside_trigger trigger r)
inside_without test trigger (Ok a) h = tt
inside_without test trigger (Err f) h =
    elim (is_none f.trigger) as (λ b. test (if b then record f { trigger = Some trigger } else f).cause ≡ false) [ true ↦ h | false ↦ h ]

pub unless_without : {A : Type 0} (test : Cause → Bool) (db : Database) (cause : Fault → Cause) (faults : List Fault) (r : Result A Failure)
    → ((f : Fault) → test (cause f) ≡ false) → Without (λ x. test x.cause) r → Without (λ (x : Failure). test x.cause) (unless_first db cause faults r)
unless_without test db cause [] r h p = p
unless_without test db cause (f ∷ faults) r h p = h f

-- a refusal of such a result is of another kind
pub without_refused : {A E : Type 0} (test : E → Bool) (r : Result A E) (e : E) → Without test r → r ≡ Err e → test e ≡ false
without_refused test r e h is = subst (Without test) is h
