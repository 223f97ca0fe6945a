-- A step that is refused is the refusal of the whole.
use Rattle.std.proofs.Common.{◌≡◌, refl, ℕ, true, false, if◌then◌else◌, Some, None, is_none, Result, Ok, Err, MatchBool, ap, subst, ◌∙◌}
use Rattle.iv_expr.specs.Evaluation.{and_then}
use Rattle.iv_catalogue.specs.Refusals.{is_memory_cause}
use Rattle.iv_catalogue.specs.declared.cause.Cause.{Cause}
use Rattle.iv_catalogue.specs.declared.cause.Refusal.{Refusal}
use Rattle.iv_machine.specs.declared.database.Database.{Database}
use Rattle.iv_machine.specs.Context.{Failure, over, inside_trigger}
use Rattle.iv_exec_context.proofs.Answers.{anyway, unless_memory}
use Rattle.iv_laws_rows.specs.Changing.{AnswersAt}
use Rattle.iv_exec_level.specs.Steps.{innermost}

-- what is answered of one text is answered of the same in other words
pub answers_as : {A B : Type 0} (view : A → B) (count : ℕ) (r : Result A Refusal) (said other : Result B Failure) → said ≡ other → AnswersAt view count r said → AnswersAt view count r other
answers_as {B = B} view count r said other e h = subst (λ (x : Result B Failure). AnswersAt view count r x) e h

pub refused_then : {A B : Type 0} (r : Refusal) (f : Failure) (said : Result A Failure) (g : A → Result B Failure)
    → MatchBool (is_memory_cause r.cause) (Unit {0}) (said ≡ Err f) → MatchBool (is_memory_cause r.cause) (Unit {0}) (and_then said g ≡ Err f)
refused_then r f said g h = unless_memory (is_memory_cause r.cause) (said ≡ Err f) (and_then said g ≡ Err f) (λ e. ap (λ x. and_then x g) e) h

-- a cause over a database
pub over_refused : {A B : Type 0} (db : Database) (cause : Cause) (said : Result A Cause) (g : A → Result B Failure) → said ≡ Err cause
    → MatchBool (is_memory_cause cause) (Unit {0}) (and_then (over db said) g ≡ Err (record { cause = cause; trigger = None; count = db.count }))
over_refused db cause said g e =
    anyway (is_memory_cause cause) (and_then (over db said) g ≡ Err (record { cause = cause; trigger = None; count = db.count })) (ap (λ x. and_then (over db x) g) e)

-- ---- a refusal that names the trigger

pub inside_ok : {A : Type 0} (trigger : ℕ) (said : Result A Failure) (x : A) → said ≡ Ok x → inside_trigger trigger said ≡ Ok x
inside_ok trigger said x e = ap (inside_trigger trigger) e

inside_is : {A : Type 0} (trigger : ℕ) (f : Failure) → inside_trigger {A = A} trigger (Err f) ≡ Err (record { cause = f.cause; trigger = innermost trigger f.trigger; count = f.count })
inside_is {A} trigger f =
    elim (is_none f.trigger) as (λ b. ◌≡◌ {A = Result A Failure} (Err (if b then record f { trigger = Some trigger } else f)) (Err (record { cause = f.cause; trigger = if b then Some trigger else f.trigger; count = f.count }))) [ true ↦ refl | false ↦ refl ]

pub inside_refused : {A : Type 0} (trigger : ℕ) (r : Refusal) (count : ℕ) (said : Result A Failure)
    → MatchBool (is_memory_cause r.cause) (Unit {0}) (said ≡ Err (record { cause = r.cause; trigger = r.trigger; count = count }))
    → MatchBool (is_memory_cause r.cause) (Unit {0}) (inside_trigger trigger said ≡ Err (record { cause = r.cause; trigger = innermost trigger r.trigger; count = count }))
inside_refused trigger r count said h =
    unless_memory (is_memory_cause r.cause) (said ≡ Err (record { cause = r.cause; trigger = r.trigger; count = count }))
    (inside_trigger trigger said ≡ Err (record { cause = r.cause; trigger = innermost trigger r.trigger; count = count }))
    (λ e. ap (inside_trigger trigger) e ∙ inside_is trigger (record { cause = r.cause; trigger = r.trigger; count = count })) h
