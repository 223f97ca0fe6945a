-- What is told of a query is what failed in it.
use Rattle.std.proofs.Common.{◌≡◌, ◌∙◌, ◌⊎◌, inl, inr, refl, Bool, true, false, List, [], ◌∷◌, length, pos, Result, Ok, Err, MatchBool, None, ap, sym, subst}
use Rattle.iv_value.specs.declared.value.Value.{Value}
use Rattle.iv_value.specs.declared.value.Value.TheVariants.{Int}
use Rattle.iv_expr.specs.Scopes.{no_frame, scope_of, table_rows}
use Rattle.iv_catalogue.specs.Refusals.{is_memory_cause, out_of_memory, refusal_answer}
use Rattle.iv_catalogue.specs.declared.cause.Cause.{Cause}
use Rattle.iv_catalogue.specs.declared.plan.QueryPlan.{QueryPlan}
use Rattle.iv_catalogue.specs.declared.plan.QueryPlan.TheVariants as query
use Rattle.iv_state.specs.Types.{Answer, Refusal}
use Rattle.iv_machine.specs.declared.answer.Answer.TheVariants.{Rows}
use Rattle.iv_machine.specs.Context.{each}
use Rattle.iv_machine.specs.Machine.{State, answer_outcome, output_row}
use Rattle.iv_machine.specs.Proposals.{matching_rows}
use Rattle.iv_expr.specs.Evaluation.{and_then}
use Rattle.iv_exec_proposals.specs.Selections.{rows_selected}
use Rattle.iv_account.specs.declared.entry.Entry.{Entry}
use Rattle.iv_account.specs.Accounts.{failure_told, told_or}
use Rattle.iv_account.specs.Failures.{query_failure}
use Rattle.iv_account.specs.Sessions.{query_told}
use Rattle.iv_account.specs.Telling.{Account, and_told}
use Rattle.iv_laws_rows.specs.Changing.{UnlessMemory}
use Rattle.iv_state.proofs.Told.{always, nothing_told}

-- what is told of an answer is what is told of its rows
module _ (s : State) (failed : Cause → List Entry) where
  abbrev of_answer : Result Answer Cause → List Entry
  of_answer r = told_or (answer_outcome s r).answer (λ refusal. failed refusal.cause) (λ _. [])

  abbrev of_rows : Result (List (List Value)) Cause → List Entry
  of_rows r = told_or r failed (λ _. [])

  of_selection : {X : Type 0} (m : Result X Cause) (f : X → Result (List (List Value)) Cause)
      → of_answer (and_then m (λ x. and_then (f x) (λ values. Ok (Rows values)))) ≡ of_rows (and_then m f)
  of_selection (Err cause) f = refl
  of_selection (Ok x) f = by (f x)
    where
      by : (r : Result (List (List Value)) Cause) → of_answer (and_then r (λ values. Ok (Rows values))) ≡ of_rows r
      by (Ok values) = refl
      by (Err cause) = refl

  of_count : {X : Type 0} (m : Result X Cause) (k : X → List (List Value))
      → of_answer (and_then m (λ x. Ok (Rows (k x)))) ≡ of_rows (and_then m (λ x. Ok (k x)))
  of_count (Ok x) k = refl
  of_count (Err cause) k = refl

selection_told : (s : State) (q : QueryPlan)
    → query_told s q ≡ told_or (rows_selected s.database.rows q) (λ cause. failure_told cause (query_failure s.database.rows q)) (λ _. [])
selection_told s (query.Rows table outputs filter) =
    of_selection s (λ cause. failure_told cause (query_failure s.database.rows (query.Rows table outputs filter)))
    (matching_rows (scope_of no_frame s.database.rows) filter (table_rows s.database.rows table))
    (each (λ r. output_row (scope_of no_frame s.database.rows) outputs r.values))
selection_told s (query.Count table filter) =
    of_count s (λ cause. failure_told cause (query_failure s.database.rows (query.Count table filter)))
    (matching_rows (scope_of no_frame s.database.rows) filter (table_rows s.database.rows table))
    (λ found. (Int (pos (length found)) ∷ []) ∷ [])

module _ (s : State) (q : QueryPlan) where
  -- by what it selects
  told_by : (selected : Result (List (List Value)) Cause) → rows_selected s.database.rows q ≡ selected
      → query_told s q ≡ told_or selected (λ cause. failure_told cause (query_failure s.database.rows q)) (λ _. [])
  told_by selected e =
      selection_told s q
      ∙ ap (λ (x : Result (List (List Value)) Cause). told_or x (λ cause. failure_told cause (query_failure s.database.rows q)) (λ _. [])) e

  -- rows are selected, and nothing is told
  pub selected_untold : (rows : List (List Value)) (r : Result Answer Refusal) (old new : Account) → rows_selected s.database.rows q ≡ Ok rows → new ≡ old
      → UnlessMemory r (new ≡ and_told old (query_told s q))
  selected_untold rows r old new e same = always r (new ≡ and_told old (query_told s q)) (same ∙ nothing_told old (query_told s q) (told_by (Ok rows) e))

  -- the query is refused, and what failed is told
  pub refused_told : (cause : Cause) (r : Result Answer Refusal) (old new : Account)
      → MatchBool (is_memory_cause cause) (Unit {0}) (rows_selected s.database.rows q ≡ Err cause)
      → (r ≡ refusal_answer cause) ⊎ (r ≡ Err out_of_memory)
      → UnlessMemory r (new ≡ and_told old (failure_told cause (query_failure s.database.rows q)))
      → UnlessMemory r (new ≡ and_told old (query_told s q))
  refused_told cause (Ok a) old new selected (inl e) told = cc
  refused_told cause (Ok a) old new selected (inr e) told = cc
  refused_told cause (Err x) old new selected (inr e) told =
      subst (λ (y : Refusal). UnlessMemory {A = Answer} (Err y) (new ≡ and_told old (query_told s q))) (let same : out_of_memory ≡ x = cc in same) tt
  refused_told cause (Err x) old new selected (inl e) told = by (is_memory_cause x.cause) same told
    where
      is : x.cause ≡ cause
      is = let y : x ≡ record { cause = cause; trigger = None } = cc in ap (λ (z : Refusal). z.cause) y

      same : is_memory_cause x.cause ≡ is_memory_cause cause
      same = ap is_memory_cause is

      by : (b : Bool) → b ≡ is_memory_cause cause → MatchBool b (Unit {0}) (new ≡ and_told old (failure_told cause (query_failure s.database.rows q)))
          → MatchBool b (Unit {0}) (new ≡ and_told old (query_told s q))
      by true now p = tt
      by false now p =
          let fault : rows_selected s.database.rows q ≡ Err cause = subst (λ (b : Bool). MatchBool b (Unit {0}) (rows_selected s.database.rows q ≡ Err cause)) (sym now) selected in
          p ∙ ap (and_told old) (sym (told_by (Err cause) fault))

-- what was answered and told, in other words
pub as_answered : (r said : Result Answer Refusal) (account told old : Account) (entries : List Entry) → r ≡ said → account ≡ told
    → UnlessMemory said (told ≡ and_told old entries) → UnlessMemory r (account ≡ and_told old entries)
as_answered r said account told old entries e f h =
    subst (λ (x : Result Answer Refusal). UnlessMemory x (account ≡ and_told old entries)) (sym e)
    (subst (λ (y : Account). UnlessMemory said (y ≡ and_told old entries)) (sym f) h)
