-- A refusal that is told on as it is.
use Rattle.std.proofs.Common.{◌≡◌, ℕ, Result, Ok, Err, MatchBool, IsErrAnd, subst, sym}
use Rattle.iv_catalogue.specs.Refusals.{is_memory_cause}
use Rattle.iv_catalogue.specs.declared.cause.Refusal.{Refusal}
use Rattle.iv_machine.specs.Context.{Failure}
use Rattle.iv_laws_rows.specs.Changing.{AnswersAt, UnlessMemory}

pub told_on : {A B : Type 0} (view : A → B) (count : ℕ) (r : Result A Refusal) (e : Refusal) (said : Result B Failure) → IsErrAnd r (λ y. y ≡ e)
    → MatchBool (is_memory_cause e.cause) (Unit {0}) (said ≡ Err (record { cause = e.cause; trigger = e.trigger; count = count })) → AnswersAt view count r said
told_on view count (Ok a) e said h m = absurd h
told_on view count (Err y) e said h m =
    subst (λ (x : Refusal). MatchBool (is_memory_cause x.cause) (Unit {0}) (said ≡ Err (record { cause = x.cause; trigger = x.trigger; count = count }))) (sym h) m

-- what holds unless an allocation failed
pub told_unless : {A : Type 0} (r : Result A Refusal) (e : Refusal) (P : Type 0) → IsErrAnd r (λ y. y ≡ e) → MatchBool (is_memory_cause e.cause) (Unit {0}) P → UnlessMemory r P
told_unless (Ok a) e P h m = absurd h
told_unless (Err y) e P h m = subst (λ (x : Refusal). MatchBool (is_memory_cause x.cause) (Unit {0}) P) (sym h) m
