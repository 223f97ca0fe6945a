-- A state that is reached refuses for a wrong shape only what resolution does.
use Rattle.std.proofs.Common.{◌≡◌, refl, ◌-◌, true, ◌∙◌, Option, Some, None, Result, Ok, Err, sym, ap}
use Rattle.std.proofs.lemmas.Bool.{true≢false}
use Rattle.iv_expr.specs.Scopes.{no_frame}
use Rattle.iv_catalogue.specs.Refusals.{refusal_of, refusal_answer}
use Rattle.iv_machine.specs.declared.answer.Answer.{Answer}
use Rattle.iv_machine.specs.Levels.{level}
use Rattle.iv_machine.specs.Machine.{State, empty_state, is_open, context_of, query_outcome, plan_outcome, resolution_outcome, occasion_of, transaction_cause, outcome_unless}
use Rattle.iv_resolution.specs.Bound.{bound}
use Rattle.iv_resolution.specs.Resolution.{least, refused_or_planned, resolution}
use Rattle.iv_laws_fitting.proofs.Plans.{changes_fit, queries_fit}
use Rattle.iv_laws_rows.specs.WellTyped.{is_ill_typed}
use Rattle.iv_laws_rows.proofs.FittingFrames.{plain_statements_fit}
use Rattle.iv_laws_rows.proofs.FreeLevels.{levels_are_well_typed}
use Rattle.iv_step.specs.Step.{step, run}
use Rattle.iv_laws_answers.specs.Types.{Statement, Cause, Refusal, Plan}
use Rattle.iv_laws_answers.specs.Types.plan
use Rattle.iv_laws_answers.specs.Types.cause.{WrongShape}
use Rattle.iv_laws_answers.specs.Shapes.{WrongShapesAreOfResolution}
use Rattle.iv_laws_answers.proofs.FittingStates.{Fitting, all_fitting}
use Rattle.iv_laws_answers.proofs.Outcomes.{IsOfEvaluation, Without, schema_without, transaction_without, occasion_without, level_without, without_refused}
use Rattle.iv_laws_answers.proofs.QueryTypes.{queries_are_well_typed}

shape_is_of_evaluation : IsOfEvaluation is_ill_typed
shape_is_of_evaluation = record {
  in_transaction = refl;
  no_transaction = refl;
  active = refl;
  savepoint = refl;
  deferrable = λ id. refl;
  violation = λ f. refl;
  commit = λ f. refl;
  added = λ row. refl;
}

-- ---- what resolution accepts

plan_shaped : (s : State) (st : Statement) (p : Plan) → Fitting s → resolution s.schema st ≡ Ok p → Without is_ill_typed (plan_outcome s p).answer
plan_shaped s st (plan.Schema p) h e = schema_without is_ill_typed shape_is_of_evaluation s p
plan_shaped s st (plan.Change d) h e =
    level_without is_ill_typed s (level (s.limits.depth - 1) (context_of s) d no_frame s.database s.limits.changes)
    (λ failure is.
    levels_are_well_typed (s.limits.depth - 1) (context_of s) d no_frame s.database s.limits.changes failure h.reached.suits h.reached.reachable.now.numbered
    h.rows.now (plain_statements_fit s.schema.tables d (changes_fit s.schema st d h.reached.suits.tables e)) is)
plan_shaped s st (plan.Query q) h e = by (query_outcome s q).answer refl
  where
    by : (r : Result Answer Refusal) → (query_outcome s q).answer ≡ r → Without is_ill_typed r
    by (Ok a) is = tt
    by (Err refusal) is =
        ap (λ (x : Refusal). is_ill_typed x.cause)
        (queries_are_well_typed s q refusal (queries_fit s.schema st q h.reached.suits.tables e) h.rows.now is)
plan_shaped s st (plan.Transaction p) h e = transaction_without is_ill_typed shape_is_of_evaluation s p

-- ---- what resolution refuses

err_same : {A : Type 0} (x y : Refusal) → ◌≡◌ {A = Result A Refusal} (Err x) (Err y) → x ≡ y
err_same x y e = cc

abbrev refused : Refusal → Result Plan Refusal
refused x = Err x

-- a refusal of resolution is outside any trigger
resolved_outside : (o : Option Cause) (p : Plan) (x : Refusal) → refused_or_planned o p ≡ Err x → x ≡ refusal_of x.cause
resolved_outside None p x e = cc
resolved_outside (Some cause) p x e =
    let same : refusal_of cause ≡ x = err_same {A = Plan} (refusal_of cause) x e in sym same ∙ ap refusal_of (ap (λ (y : Refusal). y.cause) same)

of_resolution : (s : State) (st : Statement) (refusal : Refusal) → Fitting s → (step s st).answer ≡ Err refusal → refusal.cause ≡ WrongShape
    → resolution s.schema st ≡ refusal_answer WrongShape
of_resolution s st refusal h e is = by (transaction_cause (is_open s) (occasion_of st)) (resolution s.schema st) refl refl e
  where
    ill : is_ill_typed refusal.cause ≡ true
    ill = ap is_ill_typed is

    by : (o : Option Cause) (r : Result Plan Refusal) → transaction_cause (is_open s) (occasion_of st) ≡ o → resolution s.schema st ≡ r
        → (outcome_unless s o (resolution_outcome s r)).answer ≡ Err refusal → r ≡ refusal_answer WrongShape
    by (Some cause) r t q f =
        absurd (true≢false (sym ill ∙ ap (λ (x : Refusal). is_ill_typed x.cause) (sym (err_same {A = Answer} (refusal_of cause) refusal f))
        ∙ occasion_without is_ill_typed shape_is_of_evaluation (is_open s) (occasion_of st) cause t))
    by None (Ok p) t q f =
        absurd (true≢false (sym ill ∙ without_refused is_ill_typed (plan_outcome s p).answer refusal (plan_shaped s st p h q) f))
    by None (Err x) t q f =
        let same : x ≡ refusal = err_same {A = Answer} x refusal f in
        ap refused (resolved_outside (least s.schema st) (bound s.schema st) x q ∙ ap refusal_of (ap (λ (y : Refusal). y.cause) same ∙ is))

pub wrong_shapes_are_of_resolution : WrongShapesAreOfResolution
wrong_shapes_are_of_resolution limits sts st refusal e is =
    of_resolution (run (empty_state limits) sts).1 st refusal (all_fitting limits sts) e is
