-- No statement is answered by OutOfMemory, in any state.
use Rattle.std.proofs.Common.{◌≡◌, refl, ℕ, ◌-◌, Bool, true, false, ◌||◌, [], ◌∷◌, length, pos, ◌∙◌, ap, cond, Some, None, Result, Ok, Err}
use Rattle.std.specs.List.{list_any}
use Rattle.iv_value.specs.declared.value.Value.TheVariants.{Int}
use Rattle.iv_expr.specs.Evaluation.{and_then}
use Rattle.iv_expr.specs.Scopes.{no_frame, scope_of, table_rows}
use Rattle.iv_catalogue.specs.declared.plan.Outputs.{Outputs}
use Rattle.iv_catalogue.specs.declared.plan.QueryPlan.TheVariants as query
use Rattle.iv_catalogue.specs.Refusals.{is_memory_cause, is_memory}
use Rattle.iv_machine.specs.declared.answer.Answer.{Answer}
use Rattle.iv_machine.specs.declared.answer.Answer.TheVariants.{Rows}
use Rattle.iv_machine.specs.Context.{each}
use Rattle.iv_machine.specs.Levels.{level}
use Rattle.iv_machine.specs.Machine.{State, is_open, context_of, rows_meant, output_row, rows_answer, count_answer, plan_outcome, resolution_outcome, occasion_of}
use Rattle.iv_resolution.specs.Bound.{bound}
use Rattle.iv_resolution.specs.Resolution.{is_unknown, is_duplicate, is_faulty, is_misshaped, is_beyond_limits, refused_or_planned, resolution}
use Rattle.iv_step.specs.Step.{step, run}
use Rattle.iv_laws_answers.specs.Types.{StoredRow, Cond, Refusal, Plan}
use Rattle.iv_laws_answers.specs.Types.plan
use Rattle.iv_laws_answers.specs.Types.cause.{Unknown, Duplicate, SchemaFault, WrongShape, Limit}
use Rattle.iv_laws_answers.specs.Answers.{ResolutionsWantNoMemory, PlansWantNoMemory, StepsWantNoMemory, RunsWantNoMemory}
use Rattle.iv_laws_answers.proofs.Spared.{SparedCause, then_spared, each_spared, spared_refused}
use Rattle.iv_laws_answers.proofs.SparedValues.{results_spared, where_spared}
use Rattle.iv_laws_answers.proofs.SparedLevels.{levels_want_no_memory}
use Rattle.iv_laws_answers.proofs.Outcomes.{IsOfEvaluation, Without, schema_without, transaction_without, unless_without, answer_without, level_without}

memory_is_of_evaluation : IsOfEvaluation is_memory_cause
memory_is_of_evaluation = record {
  in_transaction = refl;
  no_transaction = refl;
  active = refl;
  savepoint = refl;
  deferrable = λ id. refl;
  violation = λ f. refl;
  commit = λ f. refl;
  added = λ row. refl;
}

-- ---- SELECT

meant_spared : (s : State) (table : ℕ) (filter : Cond) → SparedCause (rows_meant s table filter)
meant_spared s table filter = where_spared (λ (r : StoredRow). r.values) (scope_of no_frame s.database.rows) filter (table_rows s.database.rows table)

rows_spared : (s : State) (table : ℕ) (listed : Outputs) (filter : Cond) → SparedCause (rows_answer s table listed filter)
rows_spared s table listed filter =
    let scope = scope_of no_frame s.database.rows in
    then_spared (λ c. c) (rows_meant s table filter)
    (λ rows. and_then (each (λ r. output_row scope listed r.values) rows) (λ values. Ok (Rows values))) (meant_spared s table filter)
    (λ rows.
    then_spared (λ c. c) (each (λ r. output_row scope listed r.values) rows) (λ values. Ok (Rows values))
    (each_spared (λ c. c) (λ r. output_row scope listed r.values) (λ r. results_spared scope listed r.values) rows) (λ values. tt))

count_spared : (s : State) (table : ℕ) (filter : Cond) → SparedCause (count_answer s table filter)
count_spared s table filter =
    then_spared (λ c. c) (rows_meant s table filter) (λ rows. Ok (Rows ((Int (pos (length rows)) ∷ []) ∷ []))) (meant_spared s table filter) (λ rows. tt)

-- ---- statements

plan_spared : (s : State) (p : Plan) → Without is_memory_cause (plan_outcome s p).answer
plan_spared s (plan.Schema p) = schema_without is_memory_cause memory_is_of_evaluation s p
plan_spared s (plan.Change d) =
    level_without is_memory_cause s (level (s.limits.depth - 1) (context_of s) d no_frame s.database s.limits.changes)
    (λ failure e. levels_want_no_memory (s.limits.depth - 1) (context_of s) d no_frame s.database s.limits.changes failure e)
plan_spared s (plan.Query (query.Rows table listed filter)) =
    answer_without is_memory_cause s (rows_answer s table listed filter)
    (λ cause e. spared_refused (λ c. c) (rows_answer s table listed filter) cause (rows_spared s table listed filter) e)
plan_spared s (plan.Query (query.Count table filter)) =
    answer_without is_memory_cause s (count_answer s table filter)
    (λ cause e. spared_refused (λ c. c) (count_answer s table filter) cause (count_spared s table filter) e)
plan_spared s (plan.Transaction p) = transaction_without is_memory_cause memory_is_of_evaluation s p

-- which of the five causes of resolution are deserved
abbrev refused_by : Bool → Bool → Bool → Bool → Bool → Plan → Result Plan Refusal
refused_by a b c d e p =
    refused_or_planned
    (cond a (Some Unknown) (cond b (Some Duplicate) (cond c (Some SchemaFault) (cond d (Some WrongShape) (cond e (Some Limit) None))))) p

five_spared : (a b c d e : Bool) (p : Plan) → is_memory (refused_by a b c d e p) ≡ false
five_spared true b c d e p = refl
five_spared false true c d e p = refl
five_spared false false true d e p = refl
five_spared false false false true e p = refl
five_spared false false false false true p = refl
five_spared false false false false false p = refl

pub resolutions_want_no_memory : ResolutionsWantNoMemory
resolutions_want_no_memory c st =
    five_spared (is_unknown c st) (is_duplicate c st) (is_faulty c st) (is_misshaped c st) (is_beyond_limits c st) (bound c st)

not_memory : (r : Result Answer Refusal) → Without is_memory_cause r → is_memory r ≡ false
not_memory (Ok a) h = refl
not_memory (Err r) h = h

resolution_spared : (s : State) (r : Result Plan Refusal) → is_memory r ≡ false → Without is_memory_cause (resolution_outcome s r).answer
resolution_spared s (Ok p) h = plan_spared s p
resolution_spared s (Err r) h = h

pub plans_want_no_memory : PlansWantNoMemory
plans_want_no_memory s p = not_memory (plan_outcome s p).answer (plan_spared s p)

pub steps_want_no_memory : StepsWantNoMemory
steps_want_no_memory s st =
    not_memory (step s st).answer
    (unless_without is_memory_cause memory_is_of_evaluation s (is_open s) (occasion_of st) (resolution_outcome s (resolution s.schema st))
    (λ none. resolution_spared s (resolution s.schema st) (resolutions_want_no_memory s.schema st)))

pub runs_want_no_memory : RunsWantNoMemory
runs_want_no_memory s [] = refl
runs_want_no_memory s (st ∷ sts) =
    ap (λ b. b || list_any is_memory (run (step s st).state sts).0) (steps_want_no_memory s st) ∙ runs_want_no_memory (step s st).state sts
