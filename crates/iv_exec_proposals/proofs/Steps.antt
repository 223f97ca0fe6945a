-- A call after another, under the relation for failed allocations.
use Rattle.std.proofs.Common.{◌≡◌, ◌∙◌, refl, Result, Ok, Err, MatchBool, IsErrAnd, List, ◌∷◌, ap, sym, subst}
use Rattle.iv_value.specs.declared.value.Value.{Value}
use Rattle.iv_expr.specs.Scopes.{Scope, within}
use Rattle.iv_expr.specs.Evaluation.{and_then}
use Rattle.iv_catalogue.specs.Refusals.{is_memory_cause}
use Rattle.iv_catalogue.specs.declared.cause.Cause.{Cause}
use Rattle.iv_exec_context.specs.Answering.{AnswersCause}
use Rattle.iv_exec_context.proofs.Answers.{unless_memory, cause_exact}

-- what is answered of one text is answered of the same in other words
pub answers_as : {A B : Type 0} (view : A → B) (r : Result A Cause) (said other : Result B Cause) → said ≡ other
    → AnswersCause view r said → AnswersCause view r other
answers_as {B = B} view r said other e h = subst (λ (s : Result B Cause). AnswersCause view r s) e h

-- the first step is done, and the next one answers
pub after_ok : {A B C : Type 0} (view : A → B) (r : Result A Cause) (said : Result B Cause) (x : Result C Cause) (k : C → Result B Cause) (a : C)
    → said ≡ and_then x k → x ≡ Ok a → AnswersCause view r (k a) → AnswersCause view r said
after_ok {C = C} view r said x k a e o h = answers_as view r (k a) said (sym (e ∙ ap (λ (y : Result C Cause). and_then y k) o)) h

-- the first step is refused, and so is the whole
pub after_err : {B C : Type 0} (said : Result B Cause) (x : Result C Cause) (k : C → Result B Cause) (cause : Cause)
    → said ≡ and_then x k → MatchBool (is_memory_cause cause) (Unit {0}) (x ≡ Err cause) → MatchBool (is_memory_cause cause) (Unit {0}) (said ≡ Err cause)
after_err {C = C} said x k cause e h =
    unless_memory (is_memory_cause cause) (x ≡ Err cause) (said ≡ Err cause) (λ o. e ∙ ap (λ (y : Result C Cause). and_then y k) o) h

-- a refusal that is told on as it is
pub told_on : {A B : Type 0} (view : A → B) (r : Result A Cause) (cause : Cause) (said : Result B Cause) → IsErrAnd r (λ y. y ≡ cause)
    → MatchBool (is_memory_cause cause) (Unit {0}) (said ≡ Err cause) → AnswersCause view r said
told_on view (Ok a) cause said h m = absurd h
told_on view (Err y) cause said h m = subst (λ (x : Cause). MatchBool (is_memory_cause x) (Unit {0}) (said ≡ Err x)) (sym h) m

pub refused_as : {A : Type 0} (r : Result A Cause) (cause : Cause) → IsErrAnd r (λ y. y ≡ cause) → r ≡ Err cause
refused_as (Ok a) cause h = absurd h
refused_as (Err y) cause h = ap (λ x. Err x) h

-- a refusal as it is, of what allocates nothing
pub exactly : {B : Type 0} (said : Result B Cause) (cause : Cause) → said ≡ Err cause → MatchBool (is_memory_cause cause) (Unit {0}) (said ≡ Err cause)
exactly said cause e = cause_exact cause said e

-- the scope at a row, as code makes it
pub scope_at : (s o : Scope) (ranges : List (List Value)) (lent row : List Value) → o ≡ record { ranges = ranges; frame = s.frame; rows = s.rows } → ranges ≡ lent ∷ s.ranges → lent ≡ row → o ≡ within s row
scope_at s o ranges lent row e f h =
    e ∙ ap (λ (r : List (List Value)). record { ranges = r; frame = s.frame; rows = s.rows }) f
    ∙ ap (λ (v : List Value). record { ranges = v ∷ s.ranges; frame = s.frame; rows = s.rows }) h

pub then_again : {A B C : Type 0} (r : Result A Cause) (f : A → B) (k : B → Result C Cause) → and_then (and_then r (λ a. Ok (f a))) k ≡ and_then r (λ a. k (f a))
then_again (Ok a) f k = refl
then_again (Err e) f k = refl

pub then_then : {A B C : Type 0} (r : Result A Cause) (f : A → Result B Cause) (g : B → Result C Cause) → and_then r (λ a. and_then (f a) g) ≡ and_then (and_then r f) g
then_then (Ok a) f g = refl
then_then (Err e) f g = refl
