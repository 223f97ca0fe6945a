-- What failed is found in what a statement proposes, in a SET, in a WHEN and in a query.
use Rattle.std.proofs.Common.{◌≡◌, refl, ◌∙◌, ap, sym, subst, ℕ, ◌+◌, pos, Bool, true, false, if◌then◌else◌, Option, Some, None, is_some, List, [], ◌∷◌, map, filter_map, Result, Ok, Err}
use Rattle.std.specs.Prelude.{zip, length, chars, nat_le}
use Rattle.std.specs.List.{enumerate_from}
use Rattle.iv_value.specs.declared.value.Value.{Value}
use Rattle.iv_value.specs.declared.value.Value.TheVariants.{Null, Int, Text}
use Rattle.iv_value.specs.declared.value.Truth.{Truth}
use Rattle.iv_value.specs.declared.value.Kind.{Kind}
use Rattle.iv_value.specs.declared.value.Kind.TheVariants.{Integer, Varchar}
use Rattle.iv_value.specs.declared.value.Fit.{Fit}
use Rattle.iv_value.specs.declared.value.Fit.TheVariants.{Yes, WrongKind, TooLong}
use Rattle.iv_value.specs.Truths.{is_true}
use Rattle.iv_value.specs.Values.{fit_of}
use Rattle.iv_expr.specs.declared.row.StoredRow.{StoredRow}
use Rattle.iv_expr.specs.declared.row.Change.{Change}
use Rattle.iv_expr.specs.declared.tree.Cond.{Cond}
use Rattle.iv_expr.specs.declared.tree.Expr.{Expr}
use Rattle.iv_expr.specs.declared.tree.Expr.TheVariants.{Literal}
use Rattle.iv_expr.specs.declared.tree.ExprFault.{ExprFault}
use Rattle.iv_expr.specs.declared.tree.ExprFault.TheVariants.{OutOfRange, IllTyped, NoMemory}
use Rattle.iv_expr.specs.declared.tree.Range.{Range}
use Rattle.iv_expr.specs.declared.tree.Range.TheVariants.{Table, Transition}
use Rattle.iv_expr.specs.declared.tree.Side.{Side}
use Rattle.iv_expr.specs.Evaluation.{and_then, truth, value}
use Rattle.iv_expr.specs.Scopes.{Frame, Scope, contents, no_frame, range_rows, scope_of, side_of, table_rows, transition_rows, within}
use Rattle.iv_catalogue.specs.Refusals.{cause_of}
use Rattle.iv_catalogue.specs.declared.catalogue.Column.{Column}
use Rattle.iv_catalogue.specs.declared.cause.Cause.{Cause}
use Rattle.iv_catalogue.specs.declared.cause.Cause.TheVariants.{WrongShape, TextTooLong}
use Rattle.iv_catalogue.specs.declared.cause.Refusal.{Refusal}
use Rattle.iv_catalogue.specs.declared.plan.DataStatement.{DataStatement}
use Rattle.iv_catalogue.specs.declared.plan.DataStatement.TheVariants as data_statement
use Rattle.iv_catalogue.specs.declared.plan.InsertColumns.{InsertColumns}
use Rattle.iv_catalogue.specs.declared.plan.InsertColumns.TheVariants as columns
use Rattle.iv_catalogue.specs.declared.plan.InsertRows.{InsertRows}
use Rattle.iv_catalogue.specs.declared.plan.InsertRows.TheVariants as rows
use Rattle.iv_catalogue.specs.declared.plan.Outputs.{Outputs}
use Rattle.iv_catalogue.specs.declared.plan.Outputs.TheVariants as outputs
use Rattle.iv_catalogue.specs.declared.plan.QueryPlan.{QueryPlan}
use Rattle.iv_catalogue.specs.declared.plan.QueryPlan.TheVariants as query
use Rattle.iv_catalogue.specs.declared.plan.Setting.{Setting}
use Rattle.iv_catalogue.specs.declared.plan.Trigger.{Trigger}
use Rattle.iv_machine.specs.declared.answer.Answer.{Answer}
use Rattle.iv_machine.specs.declared.answer.Answer.TheVariants.{Rows}
use Rattle.iv_machine.specs.declared.database.Database.{Database}
use Rattle.iv_machine.specs.Context.{Context, each}
use Rattle.iv_machine.specs.Proposals.{column_at, deletion, element_where_true, holds, insertion, insertion_of, matching_rows, outputs_of, proposed_changes, proposed_insertions, proposed_wave, row_of_values, set_columns, stored_value, stored_values, update_of, value_for_column, values_by_column, where_true, with_cause, with_columns}
use Rattle.iv_machine.specs.BeforeTriggers.{change_after_set, change_frame, with_new_value}
use Rattle.iv_machine.specs.Machine.{State, answer_outcome, count_answer, output_row, query_outcome, rows_answer}
use Rattle.iv_account.specs.declared.failure.EvaluatedFor.{EvaluatedFor}
use Rattle.iv_account.specs.declared.failure.EvaluatedFor.TheVariants as part
use Rattle.iv_account.specs.declared.failure.FailedEvaluation.{FailedEvaluation}
use Rattle.iv_account.specs.declared.failure.RowAtHand.TheVariants as hand
use Rattle.iv_account.specs.declared.failure.ValueFailure.{ValueFailure}
use Rattle.iv_account.specs.declared.failure.ValueFailure.TheVariants as failed
use Rattle.iv_account.specs.Accounts.{tells_failure}
use Rattle.iv_account.specs.Disagreements.{first_of}
use Rattle.iv_account.specs.Failures.{at_row, by_column, column_failure, condition_failure, expression_failure, if_at_fault, if_true_at, insertion_failure, insertions_failure, is_true_at, items_failure, of_part, or_else, output_expressions, proposal_failure, query_failure, rows_failure, selection_failure, set_failure, set_pairs, stored_failure, stored_rows, stored_side, text_failure, tuple_failure, update_failure, values_failure, variables, when_failure, where_failure}
use Rattle.iv_account.proofs.Equals.{AllOn, searched_on}
use Rattle.iv_laws_answers.specs.FailureLaws.{ProposalFailuresAreFound, QueryFailuresAreFound, SetFailuresAreFound, WhenFailuresAreFound}
use Rattle.iv_laws_answers.proofs.FailuresFound.{at_fault, condition_fails, expression_fails, made_refused, some_first, some_further, some_here, some_later, some_mapped}

-- ---- causes

-- a cause for which nothing is told isn't this one
apart : (cause other : Cause) → tells_failure cause ≡ true → tells_failure other ≡ false → other ≡ cause → ⊥
apart cause other told untold e = let both : false ≡ true = sym untold ∙ ap tells_failure e ∙ told in cc

refused_apart : {A : Type 0} (cause other : Cause) → tells_failure cause ≡ true → tells_failure other ≡ false → ◌≡◌ {A = Result A Cause} (Err other) (Err cause) → ⊥
refused_apart cause other told untold h = apart cause other told untold (let e : other ≡ cause = cc in e)

-- only a number out of range is a fault that is told
is_out_of_range : {A : Type 0} (fault : ExprFault) (cause : Cause) → tells_failure cause ≡ true → ◌≡◌ {A = Result A Cause} (Err (cause_of fault)) (Err cause) → fault ≡ OutOfRange
is_out_of_range OutOfRange cause told h = refl
is_out_of_range {A = A} IllTyped cause told h = absurd (refused_apart {A = A} cause (cause_of IllTyped) told refl h)
is_out_of_range {A = A} NoMemory cause told h = absurd (refused_apart {A = A} cause (cause_of NoMemory) told refl h)

-- ---- values

-- a text that its column doesn't hold
column_fails : (o : Option Column) (v : Value) (cause : Cause) → tells_failure cause ≡ true → value_for_column o v ≡ Err cause → is_some (column_failure o v) ≡ true
column_fails None v cause told h = absurd (refused_apart {A = Value} cause WrongShape told refl h)
column_fails (Some column) v cause told h = by v column.kind h
  where
    by : (v : Value) (kind : Kind)
        → elim (fit_of v kind) as (λ _. Result Value Cause) [ Yes ↦ Ok v | WrongKind ↦ Err WrongShape | TooLong ↦ Err TextTooLong ] ≡ Err cause
        → is_some (text_failure v kind) ≡ true
    by Null kind h = cc
    by (Int a) Integer h = cc
    by (Int a) (Varchar n) h = absurd (refused_apart {A = Value} cause WrongShape told refl h)
    by (Text t) Integer h = absurd (refused_apart {A = Value} cause WrongShape told refl h)
    by (Text t) (Varchar n) h = by_length (nat_le (length (chars t)) n) h
      where
        by_length : (b : Bool)
            → elim (if b then Yes else TooLong) as (λ _. Result Value Cause) [ Yes ↦ Ok (Text t) | WrongKind ↦ Err WrongShape | TooLong ↦ Err TextTooLong ] ≡ Err cause
            → is_some (if b then None else Some (failed.TooLong n (length (chars t)))) ≡ true
        by_length true h = cc
        by_length false h = refl

module _ (w : Context) (s : Scope) (table : ℕ) (cause : Cause) (told : tells_failure cause ≡ true) where
  pub stored_fails : (column : ℕ) (e : Expr) → stored_value w table column (value s e) ≡ Err cause → is_some (stored_failure w.schema s table column e) ≡ true
  stored_fails column e h = by (value s e) refl h
    where
      by : (r : Result Value ExprFault) → value s e ≡ r → and_then (with_cause r) (value_for_column (column_at w.schema table column)) ≡ Err cause
          → is_some (elim r as (λ _. Option ValueFailure) [ Ok v ↦ column_failure (column_at w.schema table column) v | Err fault ↦ expression_failure s e ]) ≡ true
      by (Ok v) is h = column_fails (column_at w.schema table column) v cause told h
      by (Err fault) is h = expression_fails s e (is ∙ ap (λ f. Err f) (is_out_of_range {A = Value} fault cause told h))

  -- each of these values for its column
  abbrev step : ℕ × Result Value ExprFault → Result (ℕ × Value) Cause
  step p = and_then (stored_value w table p.0 p.1) (λ v. Ok (p.0, v))

  abbrev fails : ℕ × Expr → Option (EvaluatedFor × ValueFailure)
  fails p = of_part (part.Column table p.0) (stored_failure w.schema s table p.0 p.1)

  abbrev evaluated : ℕ × Expr → ℕ × Result Value ExprFault
  evaluated p = (p.0, value s p.1)

  pub values_fail : (pairs : List (ℕ × Expr)) → stored_values w table (map evaluated pairs) ≡ Err cause → is_some (values_failure w.schema s table pairs) ≡ true
  values_fail [] h = cc
  values_fail (p ∷ pairs) h = by (step (evaluated p)) refl h (values_fail pairs)
    where
      by : (r : Result (ℕ × Value) Cause) → step (evaluated p) ≡ r
          → and_then r (λ y. and_then (each step (map evaluated pairs)) (λ ys. Ok (y ∷ ys))) ≡ Err cause
          → (each step (map evaluated pairs) ≡ Err cause → is_some (first_of fails pairs) ≡ true)
          → is_some (first_of fails (p ∷ pairs)) ≡ true
      by (Err e) is h ih =
          let same : e ≡ cause = cc in
          some_here fails p pairs
          (some_mapped (λ f. (part.Column table p.0, f)) (stored_failure w.schema s table p.0 p.1)
          (stored_fails p.0 p.1 (made_refused (stored_value w table p.0 (value s p.1)) (λ v. (p.0, v)) cause (is ∙ ap (λ x. Err x) same))))
      by (Ok y) is h ih = some_further fails p pairs (ih (made_refused (each step (map evaluated pairs)) (λ ys. y ∷ ys) cause h))

  -- the values of an INSERT, each for its column
  in_order : (n : ℕ) (es : List Expr) → enumerate_from n (map (value s) es) ≡ map evaluated (enumerate_from n es)
  in_order n [] = refl
  in_order n (e ∷ es) = ap (λ l. (n, value s e) ∷ l) (in_order (n + 1) es)

  in_list : (places : List ℕ) (es : List Expr) → zip places (map (value s) es) ≡ map evaluated (zip places es)
  in_list [] es = refl
  in_list (place ∷ places) [] = refl
  in_list (place ∷ places) (e ∷ es) = ap (λ l. (place, value s e) ∷ l) (in_list places es)

  by_columns : (listed : InsertColumns) (es : List Expr) → values_by_column listed (map (value s) es) ≡ map evaluated (by_column listed es)
  by_columns columns.All es = in_order 0 es
  by_columns (columns.Listed places) es = in_list places es

  pub insertion_fails : (listed : InsertColumns) (es : List Expr) → insertion_of w table listed (map (value s) es) ≡ Err cause
      → is_some (values_failure w.schema s table (by_column listed es)) ≡ true
  insertion_fails listed es h =
      values_fail (by_column listed es)
      (ap (stored_values w table) (sym (by_columns listed es))
      ∙ made_refused (stored_values w table (values_by_column listed (map (value s) es))) (λ pairs. insertion table (row_of_values w.schema table listed pairs)) cause h)

-- ---- one after another

each_fails : {A B F : Type 0} (f : A → Result B Cause) (g : A → Option F) (cause : Cause) → ((x : A) → f x ≡ Err cause → is_some (g x) ≡ true)
    → (xs : List A) → each f xs ≡ Err cause → is_some (first_of g xs) ≡ true
each_fails f g cause fails [] h = cc
each_fails {B = B} f g cause fails (x ∷ xs) h = by (f x) refl h (each_fails f g cause fails xs)
  where
    by : (r : Result B Cause) → f x ≡ r → and_then r (λ y. and_then (each f xs) (λ ys. Ok (y ∷ ys))) ≡ Err cause
        → (each f xs ≡ Err cause → is_some (first_of g xs) ≡ true) → is_some (first_of g (x ∷ xs)) ≡ true
    by (Err e) is h ih = let same : e ≡ cause = cc in some_here g x xs (fails x (is ∙ ap (λ c. Err c) same))
    by (Ok y) is h ih = some_further g x xs (ih (made_refused (each f xs) (λ ys. y ∷ ys) cause h))

-- ---- rows where a condition is true

-- each row is so
abbrev AllAre : (StoredRow → Type 0) → List StoredRow → Type 0
AllAre Is [] = Unit {0}
AllAre Is (r ∷ rows) = Is r × AllAre Is rows

all_on : (t : ℕ) (rows : List StoredRow) → AllOn t rows → AllAre (λ r. r.table ≡ t) rows
all_on t [] on = tt
all_on t (r ∷ rows) on = (on.0, all_on t rows on.1)

all_any : (rows : List StoredRow) → AllAre (λ r. Unit {0}) rows
all_any [] = tt
all_any (r ∷ rows) = (tt, all_any rows)

module _ (s : Scope) (c : Cond) (cause : Cause) (told : tells_failure cause ≡ true) where
  holds_fails : (row : List Value) → holds (within s row) c ≡ Err cause → truth (within s row) c ≡ Err OutOfRange
  holds_fails row h = by (truth (within s row) c) refl h
    where
      by : (r : Result Truth ExprFault) → truth (within s row) c ≡ r
          → elim r as (λ _. Result Bool Cause) [ Ok t ↦ Ok (is_true t) | Err fault ↦ Err (cause_of fault) ] ≡ Err cause → truth (within s row) c ≡ Err OutOfRange
      by (Ok t) is h = cc
      by (Err fault) is h = is ∙ ap (λ f. Err f) (is_out_of_range {A = Bool} fault cause told h)

  where_fails_at : (r : StoredRow) → holds (within s r.values) c ≡ Err cause → is_some (where_failure s c r) ≡ true
  where_fails_at r h =
      let e : truth (within s r.values) c ≡ Err OutOfRange = holds_fails r.values h in
      let o : Option ValueFailure = if_at_fault (truth (within s r.values) c) (condition_failure (within s r.values) c) in
      some_mapped (λ f. record { row = hand.Row r; part = f.0; failure = f.1 }) (of_part part.Where o)
      (some_mapped (λ f. (part.Where, f)) o
      (at_fault (truth (within s r.values) c) (condition_failure (within s r.values) c) OutOfRange e (condition_fails (within s r.values) c e)))

  true_there : (r : StoredRow) (b : Bool) → holds (within s r.values) c ≡ Ok b → is_true_at s c r ≡ b
  true_there r b h = by (truth (within s r.values) c) h
    where
      by : (x : Result Truth ExprFault)
          → elim x as (λ _. Result Bool Cause) [ Ok t ↦ Ok (is_true t) | Err fault ↦ Err (cause_of fault) ] ≡ Ok b
          → elim x as (λ _. Bool) [ Ok t ↦ is_true t | Err fault ↦ false ] ≡ b
      by (Ok t) h = cc
      by (Err fault) h = cc

  -- the machine takes each row as this
  module _ {X : Type 0} (as_taken : StoredRow → X) (row_of : X → List Value) (same : (r : StoredRow) → row_of (as_taken r) ≡ r.values) where
    abbrev asks : X → Result (X × Bool) Cause
    asks x = and_then (holds (within s (row_of x)) c) (λ b. Ok (x, b))

    asked_at : (r : StoredRow) (x : Result Bool Cause) → holds (within s (row_of (as_taken r))) c ≡ x → holds (within s r.values) c ≡ x
    asked_at r x h = ap (λ row. holds (within s row) c) (sym (same r)) ∙ h

    -- the condition fails at some row
    condition_first : (rows : List StoredRow) → each asks (map as_taken rows) ≡ Err cause → is_some (first_of (where_failure s c) rows) ≡ true
    condition_first [] h = cc
    condition_first (r ∷ rows) h = by (holds (within s (row_of (as_taken r))) c) refl h (condition_first rows)
      where
        by : (x : Result Bool Cause) → holds (within s (row_of (as_taken r))) c ≡ x
            → and_then (and_then x (λ b. Ok (as_taken r, b))) (λ y. and_then (each asks (map as_taken rows)) (λ ys. Ok (y ∷ ys))) ≡ Err cause
            → (each asks (map as_taken rows) ≡ Err cause → is_some (first_of (where_failure s c) rows) ≡ true)
            → is_some (first_of (where_failure s c) (r ∷ rows)) ≡ true
        by (Err e) is h ih =
            let now : e ≡ cause = cc in
            some_here (where_failure s c) r rows (where_fails_at r (asked_at r (Err cause) (is ∙ ap (λ y. Err y) now)))
        by (Ok b) is h ih = some_further (where_failure s c) r rows (ih (made_refused (each asks (map as_taken rows)) (λ ys. (as_taken r, b) ∷ ys) cause h))

    pub where_fails : (rows : List StoredRow) (xs : List X) → map as_taken rows ≡ xs → where_true row_of s c xs ≡ Err cause
        → is_some (first_of (where_failure s c) rows) ≡ true
    where_fails rows xs taken h =
        condition_first rows
        (made_refused (each asks (map as_taken rows)) (λ pairs. filter_map element_where_true pairs) cause (ap (where_true row_of s c) taken ∙ h))

    -- and makes something of those where the condition is true
    module _ {B : Type 0} (make : X → Result B Cause) (made : StoredRow → Option FailedEvaluation) (Is : StoredRow → Type 0)
        (fails : (r : StoredRow) → Is r → make (as_taken r) ≡ Err cause → is_some (made r) ≡ true) where
      -- what is made of some row where it is true fails
      then_made : (rows : List StoredRow) → AllAre Is rows → (pairs : List (X × Bool)) → each asks (map as_taken rows) ≡ Ok pairs
          → each make (filter_map element_where_true pairs) ≡ Err cause → is_some (first_of (if_true_at s c made) rows) ≡ true
      then_made [] all pairs is h =
          let none : pairs ≡ [] = cc in
          let never : each make (filter_map element_where_true []) ≡ Err cause = ap (λ (l : List (X × Bool)). each make (filter_map element_where_true l)) (sym none) ∙ h in
          cc
      then_made (r ∷ rows) all pairs is h = by (holds (within s (row_of (as_taken r))) c) refl is (then_made rows all.1)
        where
          made_here : (b : Bool) → holds (within s r.values) c ≡ Ok b → b ≡ true → is_some (made r) ≡ true → is_some (if_true_at s c made r) ≡ true
          made_here b held so some = ap (λ x. is_some (if x then made r else None)) (true_there r b held ∙ so) ∙ some

          by_make : (ys : List (X × Bool)) → each asks (map as_taken rows) ≡ Ok ys → holds (within s r.values) c ≡ Ok true
              → ((ys : List (X × Bool)) → each asks (map as_taken rows) ≡ Ok ys → each make (filter_map element_where_true ys) ≡ Err cause → is_some (first_of (if_true_at s c made) rows) ≡ true)
              → (x : Result B Cause) → make (as_taken r) ≡ x
              → and_then x (λ y. and_then (each make (filter_map element_where_true ys)) (λ zs. Ok (y ∷ zs))) ≡ Err cause
              → is_some (first_of (if_true_at s c made) (r ∷ rows)) ≡ true
          by_make ys rest held ih (Err e) is h =
              let now : e ≡ cause = cc in
              some_here (if_true_at s c made) r rows (made_here true held refl (fails r all.0 (is ∙ ap (λ y. Err y) now)))
          by_make ys rest held ih (Ok y) is h =
              some_further (if_true_at s c made) r rows
              (ih ys rest (made_refused (each make (filter_map element_where_true ys)) (λ zs. y ∷ zs) cause h))

          at : (ys : List (X × Bool)) → each asks (map as_taken rows) ≡ Ok ys → (b : Bool) → holds (within s r.values) c ≡ Ok b
              → ((ys : List (X × Bool)) → each asks (map as_taken rows) ≡ Ok ys → each make (filter_map element_where_true ys) ≡ Err cause → is_some (first_of (if_true_at s c made) rows) ≡ true)
              → each make (filter_map element_where_true ((as_taken r, b) ∷ ys)) ≡ Err cause → is_some (first_of (if_true_at s c made) (r ∷ rows)) ≡ true
          at ys rest false held ih h = some_further (if_true_at s c made) r rows (ih ys rest h)
          at ys rest true held ih h = by_make ys rest held ih (make (as_taken r)) refl h

          by_rest : (b : Bool) → holds (within s r.values) c ≡ Ok b → ((ys : List (X × Bool)) → each asks (map as_taken rows) ≡ Ok ys → each make (filter_map element_where_true ys) ≡ Err cause → is_some (first_of (if_true_at s c made) rows) ≡ true) → (x : Result (List (X × Bool)) Cause) → each asks (map as_taken rows) ≡ x
              → and_then x (λ ys. Ok ((as_taken r, b) ∷ ys)) ≡ Ok pairs → is_some (first_of (if_true_at s c made) (r ∷ rows)) ≡ true
          by_rest b held ih (Err e) rest is = cc
          by_rest b held ih (Ok ys) rest is =
              let these : (as_taken r, b) ∷ ys ≡ pairs = cc in
              at ys rest b held ih (ap (λ (l : List (X × Bool)). each make (filter_map element_where_true l)) these ∙ h)

          by : (x : Result Bool Cause) → holds (within s (row_of (as_taken r))) c ≡ x
              → and_then (and_then x (λ b. Ok (as_taken r, b))) (λ y. and_then (each asks (map as_taken rows)) (λ ys. Ok (y ∷ ys))) ≡ Ok pairs
              → ((ys : List (X × Bool)) → each asks (map as_taken rows) ≡ Ok ys → each make (filter_map element_where_true ys) ≡ Err cause → is_some (first_of (if_true_at s c made) rows) ≡ true)
              → is_some (first_of (if_true_at s c made) (r ∷ rows)) ≡ true
          by (Err e) now is ih = cc
          by (Ok b) now is ih = by_rest b (asked_at r (Ok b) now) ih (each asks (map as_taken rows)) refl is

      pub rows_fail : (rows : List StoredRow) → AllAre Is rows → (xs : List X) → map as_taken rows ≡ xs
          → and_then (where_true row_of s c xs) (each make) ≡ Err cause → is_some (rows_failure s c made rows) ≡ true
      rows_fail rows all xs taken h =
          by (each asks (map as_taken rows)) refl
          (ap (λ (l : List X). and_then (where_true row_of s c l) (each make)) taken ∙ h)
        where
          by : (x : Result (List (X × Bool)) Cause) → each asks (map as_taken rows) ≡ x
              → and_then (and_then x (λ pairs. Ok (filter_map element_where_true pairs))) (each make) ≡ Err cause → is_some (rows_failure s c made rows) ≡ true
          by (Err e) is h =
              let now : e ≡ cause = cc in
              some_first (first_of (where_failure s c) rows) (first_of (if_true_at s c made) rows) (condition_first rows (is ∙ ap (λ y. Err y) now))
          by (Ok pairs) is h =
              some_later (first_of (where_failure s c) rows) (first_of (if_true_at s c made) rows) (then_made rows all pairs is h)

-- ---- what a statement proposes

same_rows : (rows : List StoredRow) → map (λ r. r) rows ≡ rows
same_rows [] = refl
same_rows (r ∷ rows) = ap (λ l. r ∷ l) (same_rows rows)

-- the rows of a range, with their numbers and without
sides_are : (side : Side) (changes : List Change) → map (λ r. r.values) (filter_map (stored_side side) changes) ≡ filter_map (side_of side) changes
sides_are side [] = refl
sides_are side (c ∷ changes) = by (side_of side c) refl (sides_are side changes)
  where
    by : (o : Option (List Value)) → side_of side c ≡ o
        → map (λ r. r.values) (filter_map (stored_side side) changes) ≡ filter_map (side_of side) changes
        → map (λ r. r.values) (filter_map (stored_side side) (c ∷ changes)) ≡ filter_map (side_of side) (c ∷ changes)
    by None e ih = rw e ih
    by (Some v) e ih = rw e (ap (λ (l : List (List Value)). v ∷ l) ih)

rows_are : (s : Scope) (range : Range) → map (λ (r : StoredRow). r.values) (stored_rows s range) ≡ range_rows s range
rows_are s (Table t) = refl
rows_are s (Transition side) = sides_are side s.frame.transition

-- what a query gives of a row, as the values of expressions
literals_are : (s : Scope) (row : List Value) → map (λ v. Ok v) row ≡ map (value s) (map Literal row)
literals_are s [] = refl
literals_are s (v ∷ row) = ap (λ (l : List (Result Value ExprFault)). Ok v ∷ l) (literals_are s row)

outputs_are : (s : Scope) (x : Outputs) (row : List Value) → outputs_of s x row ≡ map (value (within s row)) (output_expressions x row)
outputs_are s outputs.Star row = literals_are (within s row) row
outputs_are s (outputs.Values es) row = refl

-- a SET list, as the machine evaluates it
settings_are : (s : Scope) (settings : List Setting)
    → map {B = ℕ × Result Value ExprFault} (λ (x : Setting). (x.column, value s x.value)) settings
    ≡ map {B = ℕ × Result Value ExprFault} (λ (p : ℕ × Expr). (p.0, value s p.1)) (set_pairs settings)
settings_are s [] = refl
settings_are s (x ∷ settings) = ap (λ (l : List (ℕ × Result Value ExprFault)). (x.column, value s x.value) ∷ l) (settings_are s settings)

module _ (w : Context) (s : Scope) (cause : Cause) (told : tells_failure cause ≡ true) where
  tuple_fails : (table : ℕ) (listed : InsertColumns) (tuple : List Expr) → insertion_of w table listed (map (value s) tuple) ≡ Err cause
      → is_some (tuple_failure w.schema s table listed tuple) ≡ true
  tuple_fails table listed tuple h =
      some_mapped (λ f. record { row = variables s.frame; part = f.0; failure = f.1 }) (values_failure w.schema s table (by_column listed tuple))
      (insertion_fails w s table cause told listed tuple h)

  row_fails : (table : ℕ) (listed : InsertColumns) (x : Outputs) (r : StoredRow) → Unit {0} → insertion_of w table listed (outputs_of s x r.values) ≡ Err cause
      → is_some (insertion_failure w.schema s table listed x r) ≡ true
  row_fails table listed x r _ h =
      some_mapped (λ f. record { row = hand.Source r; part = f.0; failure = f.1 })
      (values_failure w.schema (within s r.values) table (by_column listed (output_expressions x r.values)))
      (insertion_fails w (within s r.values) table cause told listed (output_expressions x r.values)
      (ap (insertion_of w table listed) (sym (outputs_are s x r.values)) ∙ h))

  insertions_fail : (table : ℕ) (listed : InsertColumns) (source : InsertRows) → proposed_insertions w s table listed source ≡ Err cause
      → is_some (insertions_failure w.schema s table listed source) ≡ true
  insertions_fail table listed (rows.Values tuples) h =
      each_fails (λ tuple. insertion_of w table listed (map (value s) tuple)) (tuple_failure w.schema s table listed) cause (tuple_fails table listed) tuples h
  insertions_fail table listed (rows.Query x range filter) h =
      rows_fail s filter cause told (λ (r : StoredRow). r.values) (λ (row : List Value). row) (λ r. refl)
      (λ row. insertion_of w table listed (outputs_of s x row)) (insertion_failure w.schema s table listed x) (λ r. Unit {0}) (row_fails table listed x)
      (stored_rows s range) (all_any (stored_rows s range)) (range_rows s range) (rows_are s range) h

  update_fails : (table : ℕ) (settings : List Setting) (r : StoredRow) → r.table ≡ table → update_of w s settings r ≡ Err cause
      → is_some (update_failure w.schema s table settings r) ≡ true
  update_fails table settings r on h =
      some_mapped (λ f. record { row = hand.Row r; part = f.0; failure = f.1 }) (values_failure w.schema (within s r.values) table (set_pairs settings))
      (subst (λ (t : ℕ). is_some (values_failure w.schema (within s r.values) t (set_pairs settings)) ≡ true) on
      (values_fail w (within s r.values) r.table cause told (set_pairs settings)
      (ap (stored_values w r.table) (sym (settings_are (within s r.values) settings))
      ∙ made_refused (stored_values w r.table (map (λ x. (x.column, value (within s r.values) x.value)) settings))
      (λ pairs. record { table = r.table; row = r.number; old = Some r.values; new = Some (with_columns r.values pairs) }) cause h)))

module _ (w : Context) (db : Database) (frame : Frame) (cause : Cause) (told : tells_failure cause ≡ true) where
  abbrev scope : Scope
  scope = scope_of frame db.rows

  changes_fail : (d : DataStatement) → proposed_changes w db frame d ≡ Err cause → is_some (proposal_failure w.schema db.rows frame d) ≡ true
  changes_fail (data_statement.Insert table listed source) h = insertions_fail w scope cause told table listed source h
  changes_fail (data_statement.Update table settings filter) h =
      rows_fail scope filter cause told (λ (r : StoredRow). r) (λ r. r.values) (λ r. refl)
      (update_of w scope settings) (update_failure w.schema scope table settings) (λ r. r.table ≡ table) (update_fails w scope cause told table settings)
      (table_rows db.rows table) (all_on table (table_rows db.rows table) (searched_on None table db.rows)) (table_rows db.rows table) (same_rows (table_rows db.rows table)) h
  changes_fail (data_statement.Delete table filter) h =
      where_fails scope filter cause told (λ (r : StoredRow). r) (λ r. r.values) (λ r. refl) (table_rows db.rows table) (table_rows db.rows table)
      (same_rows (table_rows db.rows table))
      (made_refused (matching_rows scope filter (table_rows db.rows table)) (λ found. map deletion found) cause h)

pub proposal_failures_are_found : ProposalFailuresAreFound
proposal_failures_are_found w db frame d cause h told =
    changes_fail w db frame cause told d
    (made_refused (proposed_changes w db frame d) (λ changes. record { changes = changes; columns = set_columns d }) cause h)

-- ---- triggers

pub when_failures_are_found : WhenFailuresAreFound
when_failures_are_found rows t frame fault h told =
    let s : Scope = scope_of frame rows in
    some_mapped (λ f. record { row = variables frame; part = f.0; failure = f.1 }) (of_part (part.When t.id) (condition_failure s t.when))
    (some_mapped (λ f. (part.When t.id, f)) (condition_failure s t.when)
    (condition_fails s t.when (h ∙ ap (λ x. Err x) (is_out_of_range {A = Truth} fault (cause_of fault) told refl))))

pub set_failures_are_found : SetFailuresAreFound
set_failures_are_found w rows x c cause h told =
    let s : Scope = scope_of (change_frame c) rows in
    let o : Option ValueFailure = stored_failure w.schema s c.table x.column x.value in
    some_mapped (λ f. record { row = variables (change_frame c); part = f.0; failure = f.1 }) (of_part (part.Column c.table x.column) o)
    (some_mapped (λ f. (part.Column c.table x.column, f)) o
    (stored_fails w s c.table cause told x.column x.value
    (made_refused (stored_value w c.table x.column (value s x.value)) (λ v. with_new_value c x.column v) cause h)))

-- ---- queries

module _ (s : Scope) (cause : Cause) (told : tells_failure cause ≡ true) where
  abbrev item_fails : ℕ × Expr → Option (EvaluatedFor × ValueFailure)
  item_fails p = of_part (part.Item p.0) (expression_failure s p.1)

  items_fail : (n : ℕ) (es : List Expr) → each with_cause (map (value s) es) ≡ Err cause → is_some (first_of item_fails (enumerate_from n es)) ≡ true
  items_fail n [] h = cc
  items_fail n (e ∷ es) h = by (value s e) refl h (items_fail (n + 1) es)
    where
      by : (r : Result Value ExprFault) → value s e ≡ r
          → and_then (with_cause r) (λ y. and_then (each with_cause (map (value s) es)) (λ ys. Ok (y ∷ ys))) ≡ Err cause
          → (each with_cause (map (value s) es) ≡ Err cause → is_some (first_of item_fails (enumerate_from (n + 1) es)) ≡ true)
          → is_some (first_of item_fails (enumerate_from n (e ∷ es))) ≡ true
      by (Err fault) is h ih =
          some_here item_fails (n, e) (enumerate_from (n + 1) es)
          (some_mapped (λ f. (part.Item n, f)) (expression_failure s e)
          (expression_fails s e (is ∙ ap (λ x. Err x) (is_out_of_range {A = List Value} fault cause told h))))
      by (Ok v) is h ih =
          some_further item_fails (n, e) (enumerate_from (n + 1) es) (ih (made_refused (each with_cause (map (value s) es)) (λ ys. v ∷ ys) cause h))

copies_never : (row : List Value) (cause : Cause) → each with_cause (map (λ v. Ok v) row) ≡ Err cause → ⊥
copies_never [] cause h = cc
copies_never (v ∷ row) cause h = copies_never row cause (made_refused (each with_cause (map (λ v. Ok v) row)) (λ ys. v ∷ ys) cause h)

module _ (s : Scope) (cause : Cause) (told : tells_failure cause ≡ true) where
  selection_fails : (x : Outputs) (r : StoredRow) → Unit {0} → output_row s x r.values ≡ Err cause → is_some (selection_failure s x r) ≡ true
  selection_fails outputs.Star r _ h = absurd (copies_never r.values cause h)
  selection_fails (outputs.Values es) r _ h =
      some_mapped (λ f. record { row = hand.Row r; part = f.0; failure = f.1 }) (items_failure (within s r.values) (outputs.Values es))
      (items_fail (within s r.values) cause told 1 es h)

-- a step after two, and a step of which another result is made
then_answered : {A B C : Type 0} (r : Result A Cause) (f : A → Result B Cause) (k : B → C) (cause : Cause)
    → and_then r (λ a. and_then (f a) (λ b. Ok (k b))) ≡ Err cause → and_then r f ≡ Err cause
then_answered (Ok a) f k cause h = made_refused (f a) k cause h
then_answered {B = B} {C = C} (Err e) f k cause h = let same : e ≡ cause = cc in ap (λ x. Err x) same

module _ (s : State) (refusal : Refusal) (told : tells_failure refusal.cause ≡ true) where
  abbrev state_scope : Scope
  state_scope = scope_of no_frame s.database.rows

  refused_for : (r : Result Answer Cause) → (answer_outcome s r).answer ≡ Err refusal → r ≡ Err refusal.cause
  refused_for (Ok a) h = cc
  refused_for (Err cause) h = let same : record { cause = cause; trigger = None } ≡ refusal = cc in ap (λ (x : Refusal). Err x.cause) same

  query_fails : (q : QueryPlan) → (query_outcome s q).answer ≡ Err refusal → is_some (query_failure s.database.rows q) ≡ true
  query_fails (query.Rows table x filter) h =
      rows_fail state_scope filter refusal.cause told (λ (r : StoredRow). r) (λ r. r.values) (λ r. refl)
      (λ r. output_row state_scope x r.values) (selection_failure state_scope x) (λ r. Unit {0}) (selection_fails state_scope refusal.cause told x)
      (table_rows s.database.rows table) (all_any (table_rows s.database.rows table)) (table_rows s.database.rows table) (same_rows (table_rows s.database.rows table))
      (then_answered (matching_rows state_scope filter (table_rows s.database.rows table)) (each (λ r. output_row state_scope x r.values)) (λ values. Rows values) refusal.cause
      (refused_for (rows_answer s table x filter) h))
  query_fails (query.Count table filter) h =
      where_fails state_scope filter refusal.cause told (λ (r : StoredRow). r) (λ r. r.values) (λ r. refl) (table_rows s.database.rows table) (table_rows s.database.rows table)
      (same_rows (table_rows s.database.rows table))
      (made_refused (matching_rows state_scope filter (table_rows s.database.rows table)) (λ found. Rows ((Int (pos (length found)) ∷ []) ∷ [])) refusal.cause
      (refused_for (count_answer s table filter) h))

pub query_failures_are_found : QueryFailuresAreFound
query_failures_are_found s q refusal h told = query_fails s refusal told q h
