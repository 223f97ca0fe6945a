-- One statement after another, of which some may fail for lack of memory.
use Rattle.std.proofs.Common.{◌≡◌, Bool, true, false, not, cond, List, [], ◌∷◌, ◌++◌, filter, length, Result, refl, sym, ap, ◌∙◌, append-nil, append_assoc, length-append, arith, MatchBool}
use Rattle.iv_session.specs.Types.{Statement, Refusal, Answer}
use Rattle.iv_catalogue.specs.Refusals.{is_memory}
use Rattle.iv_machine.specs.Machine.{State, MemoryRefused}
use Rattle.iv_step.specs.Step.{Executes, run, step}
use Rattle.iv_session.specs.RunningAll.{IsRunOf, has_memory, supplied_statements}

abbrev Answered : Type 0
Answered = Result Answer Refusal

-- ---- lists with one more

filter_more : {A : Type 0} (p : A → Bool) (xs : List A) (x : A) → filter p (xs ++ x ∷ []) ≡ filter p xs ++ cond (p x) (x ∷ []) []
filter_more p [] x = refl
filter_more p (y ∷ xs) x =
    elim (p y) as (λ b. cond b (y ∷ filter p (xs ++ x ∷ [])) (filter p (xs ++ x ∷ [])) ≡ cond b (y ∷ filter p xs) (filter p xs) ++ cond (p x) (x ∷ []) []) [
      | true ↦ ap (λ l. y ∷ l) (filter_more p xs x)
      | false ↦ filter_more p xs x
    ]

supplied_grows : (sts : List Statement) (rs : List Answered) (st : Statement) (r : Answered) → length rs ≡ length sts
    → supplied_statements (sts ++ st ∷ []) (rs ++ r ∷ []) ≡ supplied_statements sts rs ++ cond (is_memory r) [] (st ∷ [])
supplied_grows [] [] st r h = refl
supplied_grows [] (x ∷ rs) st r h = absurd (omega (arith, h))
supplied_grows (t ∷ sts) [] st r h = absurd (omega (arith, h))
supplied_grows (t ∷ sts) (x ∷ rs) st r h =
    let fewer : length rs ≡ length sts = omega (arith, h) in
    elim (is_memory x) as (λ b. cond b (supplied_statements (sts ++ st ∷ []) (rs ++ r ∷ [])) (t ∷ supplied_statements (sts ++ st ∷ []) (rs ++ r ∷ []))
    ≡ cond b (supplied_statements sts rs) (t ∷ supplied_statements sts rs) ++ cond (is_memory r) [] (st ∷ [])) [
      | true ↦ supplied_grows sts rs st r fewer
      | false ↦ ap (λ l. t ∷ l) (supplied_grows sts rs st r fewer)
    ]

answers_more : (s : State) (sts : List Statement) (st : Statement) → (run s (sts ++ st ∷ [])).0 ≡ (run s sts).0 ++ (step (run s sts).1 st).answer ∷ []
answers_more s [] st = refl
answers_more s (t ∷ sts) st = ap (λ l. (step s t).answer ∷ l) (answers_more (step s t).state sts st)

state_more : (s : State) (sts : List Statement) (st : Statement) → (run s (sts ++ st ∷ [])).1 ≡ (step (run s sts).1 st).state
state_more s [] st = refl
state_more s (t ∷ sts) st = state_more (step s t).state sts st

-- ---- a loop over statements

-- these ran, and the rest is left
pub record Ran (old now : State) (all rest : List Statement) (outcomes : List Answered) : Type 0 where
  pub done : List Statement
  pub split : all ≡ done ++ rest
  pub each : length outcomes ≡ length done
  pub answers : filter has_memory outcomes ≡ (run old (supplied_statements done outcomes)).0
  pub state : now ≡ (run old (supplied_statements done outcomes)).1

pub ran_none : (s : State) (all : List Statement) → Ran s s all all []
ran_none s all = record { done = []; split = refl; each = refl; answers = refl; state = refl }

pub ran_more : (old now new : State) (all left rest : List Statement) (st : Statement) (outcomes : List Answered) (r : Answered)
    → Ran old now all left outcomes → left ≡ st ∷ rest → Executes now st r new → Ran old new all rest (outcomes ++ r ∷ [])
ran_more old now new all left rest st outcomes r w e x = by (is_memory r) refl x where
  sup : List Statement
  sup = supplied_statements w.done outcomes

  split : all ≡ (w.done ++ st ∷ []) ++ rest
  split = w.split ∙ ap (λ l. w.done ++ l) e ∙ sym (append_assoc w.done (st ∷ []) rest)

  each : length (outcomes ++ r ∷ []) ≡ length (w.done ++ st ∷ [])
  each = omega (arith, w.each, length-append outcomes (r ∷ []), length-append w.done (st ∷ []))

  grown : (b : Bool) → is_memory r ≡ b → supplied_statements (w.done ++ st ∷ []) (outcomes ++ r ∷ []) ≡ sup ++ cond b [] (st ∷ [])
  grown b h = supplied_grows w.done outcomes st r w.each ∙ ap (λ x. sup ++ cond x [] (st ∷ [])) h

  kept : (b : Bool) → is_memory r ≡ b → filter has_memory (outcomes ++ r ∷ []) ≡ filter has_memory outcomes ++ cond (not b) (r ∷ []) []
  kept b h = filter_more has_memory outcomes r ∙ ap (λ x. filter has_memory outcomes ++ cond (not x) (r ∷ []) []) h

  by : (b : Bool) → is_memory r ≡ b → MatchBool b (MemoryRefused now st r new) ((r ≡ (step now st).answer) × (new ≡ (step now st).state)) → Ran old new all rest (outcomes ++ r ∷ [])
  by true h x = record {
    done = w.done ++ st ∷ [];
    split = split;
    each = each;
    answers = kept true h ∙ append-nil (filter has_memory outcomes) ∙ w.answers ∙ ap (λ l. (run old l).0) (sym (append-nil sup)) ∙ ap (λ l. (run old l).0) (sym (grown true h));
    state = x.0 ∙ w.state ∙ ap (λ l. (run old l).1) (sym (append-nil sup)) ∙ ap (λ l. (run old l).1) (sym (grown true h));
  }
  by false h x = record {
    done = w.done ++ st ∷ [];
    split = split;
    each = each;
    answers = kept false h ∙ ap (λ l. l ++ r ∷ []) w.answers ∙ ap (λ a. (run old sup).0 ++ a ∷ []) (x.0 ∙ ap (λ s. (step s st).answer) w.state)
        ∙ sym (answers_more old sup st) ∙ ap (λ l. (run old l).0) (sym (grown false h));
    state = x.1 ∙ ap (λ s. (step s st).state) w.state ∙ sym (state_more old sup st) ∙ ap (λ l. (run old l).1) (sym (grown false h));
  }

pub ran_all : (old now : State) (all rest : List Statement) (outcomes : List Answered) → Ran old now all rest outcomes → rest ≡ [] → IsRunOf old all outcomes now
ran_all old now all rest outcomes w e =
    let whole : w.done ≡ all = sym (w.split ∙ ap (λ l. w.done ++ l) e ∙ append-nil w.done) in
    record {
      each = w.each ∙ ap length whole;
      answers = w.answers ∙ ap (λ l. (run old (supplied_statements l outcomes)).0) whole;
      state = w.state ∙ ap (λ l. (run old (supplied_statements l outcomes)).1) whole;
    }
