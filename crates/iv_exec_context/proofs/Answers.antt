-- A step that is refused is the refusal of the whole.
use Rattle.std.proofs.Common.{◌≡◌, Bool, true, false, Result, Err, MatchBool, Some, ap, ℕ}
use Rattle.iv_expr.specs.Evaluation.{and_then}
use Rattle.iv_catalogue.specs.Refusals.{is_memory_cause}
use Rattle.iv_catalogue.specs.declared.cause.Cause.{Cause}
use Rattle.iv_catalogue.specs.declared.cause.Refusal.{Refusal}
use Rattle.iv_machine.specs.Context.{while_running}

-- what holds, holds unless an allocation failed
pub anyway : (b : Bool) (P : Type 0) → P → MatchBool b (Unit {0}) P
anyway true P p = tt
anyway false P p = p

pub unless_memory : (b : Bool) (P Q : Type 0) → (P → Q) → MatchBool b (Unit {0}) P → MatchBool b (Unit {0}) Q
unless_memory true P Q f p = tt
unless_memory false P Q f p = f p

pub cause_then : {A B : Type 0} (cause : Cause) (said : Result A Cause) (f : A → Result B Cause)
    → MatchBool (is_memory_cause cause) (Unit {0}) (said ≡ Err cause) → MatchBool (is_memory_cause cause) (Unit {0}) (and_then said f ≡ Err cause)
cause_then cause said f h = unless_memory (is_memory_cause cause) (said ≡ Err cause) (and_then said f ≡ Err cause) (λ e. ap (λ r. and_then r f) e) h

pub cause_exact : {A : Type 0} (cause : Cause) (said : Result A Cause) → said ≡ Err cause → MatchBool (is_memory_cause cause) (Unit {0}) (said ≡ Err cause)
cause_exact cause said e = anyway (is_memory_cause cause) (said ≡ Err cause) e

pub while_running_answers : {A : Type 0} (trigger : ℕ) (cause : Cause) (said : Result A Cause)
    → MatchBool (is_memory_cause cause) (Unit {0}) (said ≡ Err cause)
    → MatchBool (is_memory_cause cause) (Unit {0}) (while_running trigger said ≡ Err (record { cause = cause; trigger = Some trigger }))
while_running_answers trigger cause said h =
    unless_memory (is_memory_cause cause) (said ≡ Err cause) (while_running trigger said ≡ Err (record { cause = cause; trigger = Some trigger })) (λ e. ap (while_running trigger) e) h

pub refusal_then : {A B : Type 0} (r : Refusal) (said : Result A Refusal) (f : A → Result B Refusal)
    → MatchBool (is_memory_cause r.cause) (Unit {0}) (said ≡ Err r) → MatchBool (is_memory_cause r.cause) (Unit {0}) (and_then said f ≡ Err r)
refusal_then r said f h = unless_memory (is_memory_cause r.cause) (said ≡ Err r) (and_then said f ≡ Err r) (λ e. ap (λ x. and_then x f) e) h
