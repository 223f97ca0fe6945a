-- What failed is found wherever a statement is refused for it: of an expression and a condition by cases on the tree, of a statement row by
-- row in the order in which the machine evaluates.
use Rattle.std.proofs.Common.{◌≡◌, refl, ◌∙◌, ap, sym, subst, ℕ, suc, ◌+◌, ℤ, Bool, true, false, ◌||◌, if◌then◌else◌, Option, Some, None, is_some, option_map, List, [], ◌∷◌, map, filter_map, Result, Ok, Err}
use Rattle.std.specs.Prelude.{slice_get}
use Rattle.std.specs.List.{list_any}
use Rattle.std.specs.declared.cmp.Ordering.{Ordering}
use Rattle.iv_value.specs.declared.value.Value.{Value}
use Rattle.iv_value.specs.declared.value.Value.TheVariants.{Null, Int, Text}
use Rattle.iv_value.specs.declared.value.Truth.{Truth}
use Rattle.iv_value.specs.declared.value.Truth.TheVariants.{Unknown}
use Rattle.iv_value.specs.declared.value.Kind.{Kind}
use Rattle.iv_value.specs.declared.value.Kind.TheVariants.{Integer, Varchar}
use Rattle.iv_value.specs.declared.value.Fit.{Fit}
use Rattle.iv_value.specs.declared.value.Fit.TheVariants.{Yes, WrongKind, TooLong}
use Rattle.iv_value.specs.Truths.{truth_and, truth_not, truth_of, truth_or, is_true}
use Rattle.iv_value.specs.Values.{checked, fit_of, is_null, order}
use Rattle.iv_expr.specs.declared.row.StoredRow.{StoredRow}
use Rattle.iv_expr.specs.declared.row.Change.{Change}
use Rattle.iv_expr.specs.declared.tree.Comparison.{Comparison}
use Rattle.iv_expr.specs.declared.tree.Cond.{Cond}
use Rattle.iv_expr.specs.declared.tree.Cond.TheVariants.{Always, Compare, IsNull}
use Rattle.iv_expr.specs.declared.tree.Expr.{Expr}
use Rattle.iv_expr.specs.declared.tree.Expr.TheVariants.{Literal, Column, Variable}
use Rattle.iv_expr.specs.declared.tree.ExprFault.{ExprFault}
use Rattle.iv_expr.specs.declared.tree.ExprFault.TheVariants.{OutOfRange, IllTyped, NoMemory}
use Rattle.iv_expr.specs.Evaluation.{accepts, all_results, and_then, any_true, arithmetic, both, column_of, comparison_of, number_of, truth, value}
use Rattle.iv_expr.specs.Scopes.{Scope, variable_of, within, range_rows}
use Rattle.iv_expr.specs.Trees.{plus, minus, times, not_c, and_c, or_c, exists_c}
use Rattle.iv_account.specs.declared.failure.Operator.{Operator}
use Rattle.iv_account.specs.declared.failure.Operator.TheVariants as operator
use Rattle.iv_account.specs.declared.failure.ValueFailure.{ValueFailure}
use Rattle.iv_account.specs.declared.failure.ValueFailure.TheVariants as failed
use Rattle.iv_account.specs.Disagreements.{first_of}
use Rattle.iv_account.specs.Failures.{condition_failure, expression_failure, if_at_fault, in_parts, nothing, operation, or_else, out_of_range}

-- ---- what is there

-- an error is one of every kind of result
err_again : {A B E : Type 0} (e x : E) → ◌≡◌ {A = Result A E} (Err e) (Err x) → ◌≡◌ {A = Result B E} (Err e) (Err x)
err_again e x h = let i : e ≡ x = cc in ap (λ y. Err y) i

-- a step of which another result is made is refused as it is
pub made_refused : {A B E : Type 0} (r : Result A E) (k : A → B) (x : E) → and_then r (λ a. Ok (k a)) ≡ Err x → r ≡ Err x
made_refused (Ok a) k x h = cc
made_refused (Err e) k x h = err_again e x h

pub some_first : {A : Type 0} (a b : Option A) → is_some a ≡ true → is_some (or_else a b) ≡ true
some_first (Some a) b h = refl
some_first None b h = cc

pub some_later : {A : Type 0} (a b : Option A) → is_some b ≡ true → is_some (or_else a b) ≡ true
some_later (Some a) b h = refl
some_later None b h = h

pub some_mapped : {A B : Type 0} (f : A → B) (o : Option A) → is_some o ≡ true → is_some (option_map f o) ≡ true
some_mapped f (Some a) h = refl
some_mapped f None h = cc

module _ {A B : Type 0} (f : A → Option B) (x : A) (xs : List A) where
  pub some_here : is_some (f x) ≡ true → is_some (first_of f (x ∷ xs)) ≡ true
  some_here h = by (f x) refl h
    where
      by : (o : Option B) → f x ≡ o → is_some o ≡ true → is_some (first_of f (x ∷ xs)) ≡ true
      by None e h = cc
      by (Some b) e h = rw e refl

  pub some_further : is_some (first_of f xs) ≡ true → is_some (first_of f (x ∷ xs)) ≡ true
  some_further h = by (f x) refl
    where
      by : (o : Option B) → f x ≡ o → is_some (first_of f (x ∷ xs)) ≡ true
      by None e = rw e h
      by (Some b) e = rw e refl

pub at_fault : {A E F : Type 0} (r : Result A E) (o : Option F) (e : E) → r ≡ Err e → is_some o ≡ true → is_some (if_at_fault r o) ≡ true
at_fault (Ok a) o e is h = cc
at_fault (Err x) o e is h = h

-- ---- expressions

number_fails : (op : Operator) (a b : Value) → arithmetic (operation op) a b ≡ Err OutOfRange → is_some (out_of_range op a b) ≡ true
number_fails op (Int a) (Int b) h = by (checked (operation op a b)) h
  where
    by : (o : Option ℤ) → number_of o ≡ Err OutOfRange
        → is_some (elim o as (λ _. Option ValueFailure) [ Some z ↦ None | None ↦ Some (failed.OutOfRange a op b) ]) ≡ true
    by None h = refl
    by (Some z) h = cc
number_fails op Null (Int b) h = cc
number_fails op (Int a) Null h = cc
number_fails op Null Null h = cc
number_fails op Null (Text b) h = cc
number_fails op (Int a) (Text b) h = cc
number_fails op (Text a) Null h = cc
number_fails op (Text a) (Int b) h = cc
number_fails op (Text a) (Text b) h = cc

module _ (op : Operator) (fa fb : Option ValueFailure) where
  parts_fail : (ra rb : Result Value ExprFault) → (ra ≡ Err OutOfRange → is_some fa ≡ true) → (rb ≡ Err OutOfRange → is_some fb ≡ true)
      → both (arithmetic (operation op)) ra rb ≡ Err OutOfRange → is_some (in_parts ra rb fa fb (out_of_range op)) ≡ true
  parts_fail (Err e) rb ha hb h = ha h
  parts_fail (Ok a) (Err e) ha hb h = hb h
  parts_fail (Ok a) (Ok b) ha hb h = number_fails op a b h

column_never : (row : Option (List Value)) (c : ℕ) → column_of row c ≡ Err OutOfRange → ⊥
column_never None c h = cc
column_never (Some row) c h = by (slice_get row c) h
  where
    by : (o : Option Value) → elim o as (λ _. Result Value ExprFault) [ Some v ↦ Ok v | None ↦ Err IllTyped ] ≡ Err OutOfRange → ⊥
    by (Some v) h = cc
    by None h = cc

pub expression_fails : (s : Scope) (e : Expr) → value s e ≡ Err OutOfRange → is_some (expression_failure s e) ≡ true
expression_fails s (Literal v) h = cc
expression_fails s (Column range c) h = absurd (column_never (slice_get s.ranges range) c h)
expression_fails s (Variable side c) h = absurd (column_never (variable_of s side) c h)
expression_fails s (plus a b) h =
    parts_fail operator.Plus (expression_failure s a) (expression_failure s b) (value s a) (value s b) (expression_fails s a) (expression_fails s b) h
expression_fails s (minus a b) h =
    parts_fail operator.Minus (expression_failure s a) (expression_failure s b) (value s a) (value s b) (expression_fails s a) (expression_fails s b) h
expression_fails s (times a b) h =
    parts_fail operator.Times (expression_failure s a) (expression_failure s b) (value s a) (value s b) (expression_fails s a) (expression_fails s b) h

-- ---- conditions

compare_never : (op : Comparison) (a b : Value) → comparison_of op a b ≡ Err OutOfRange → ⊥
compare_never op a b h = by (order a b) (is_null a || is_null b) h
  where
    by : (o : Option Ordering) (b : Bool)
        → elim o as (λ _. Result Truth ExprFault) [ Some x ↦ Ok (truth_of (accepts op x)) | None ↦ if b then Ok Unknown else Err IllTyped ] ≡ Err OutOfRange → ⊥
    by (Some x) b h = cc
    by None true h = cc
    by None false h = cc

ok_never : (t : Truth) → ◌≡◌ {A = Result Truth ExprFault} (Ok t) (Err OutOfRange) → ⊥
ok_never t h = cc

module _ {A C : Type 0} (f : A → A → Result C ExprFault) (never : (a b : A) → f a b ≡ Err OutOfRange → ⊥) (fa fb : Option ValueFailure) where
  either_fails : (ra rb : Result A ExprFault) → (ra ≡ Err OutOfRange → is_some fa ≡ true) → (rb ≡ Err OutOfRange → is_some fb ≡ true)
      → both f ra rb ≡ Err OutOfRange → is_some (in_parts ra rb fa fb nothing) ≡ true
  either_fails (Err e) rb ha hb h = ha (err_again e OutOfRange h)
  either_fails (Ok a) (Err e) ha hb h = hb (err_again e OutOfRange h)
  either_fails (Ok a) (Ok b) ha hb h = absurd (never a b h)

module _ (f : List Value → Result Truth ExprFault) (g : List Value → Option ValueFailure)
    (fails : (row : List Value) → f row ≡ Err OutOfRange → is_some (g row) ≡ true) where
  results_fail : (rows : List (List Value)) → all_results (map f rows) ≡ Err OutOfRange → is_some (first_of (λ row. if_at_fault (f row) (g row)) rows) ≡ true
  results_fail [] h = cc
  results_fail (row ∷ rows) h = by (f row) refl h (results_fail rows)
    where
      by : (r : Result Truth ExprFault) → f row ≡ r → and_then r (λ x. and_then (all_results (map f rows)) (λ xs. Ok (x ∷ xs))) ≡ Err OutOfRange
          → (all_results (map f rows) ≡ Err OutOfRange → is_some (first_of (λ row. if_at_fault (f row) (g row)) rows) ≡ true)
          → is_some (first_of (λ row. if_at_fault (f row) (g row)) (row ∷ rows)) ≡ true
      by (Err e) is h ih =
          let here : f row ≡ Err OutOfRange = is ∙ err_again e OutOfRange h in
          some_here (λ row. if_at_fault (f row) (g row)) row rows (at_fault (f row) (g row) OutOfRange here (fails row here))
      by (Ok t) is h ih =
          some_further (λ row. if_at_fault (f row) (g row)) row rows (ih (made_refused (all_results (map f rows)) (λ xs. t ∷ xs) OutOfRange h))

pub condition_fails : (s : Scope) (c : Cond) → truth s c ≡ Err OutOfRange → is_some (condition_failure s c) ≡ true
condition_fails s Always h = cc
condition_fails s (Compare op a b) h =
    either_fails (comparison_of op) (compare_never op) (expression_failure s a) (expression_failure s b) (value s a) (value s b)
    (expression_fails s a) (expression_fails s b) h
condition_fails s (IsNull a) h = expression_fails s a (made_refused (value s a) (λ v. truth_of (is_null v)) OutOfRange h)
condition_fails s (not_c a) h = condition_fails s a (made_refused (truth s a) truth_not OutOfRange h)
condition_fails s (and_c a b) h =
    either_fails (λ x y. Ok (truth_and x y)) (λ x y e. ok_never (truth_and x y) e) (condition_failure s a) (condition_failure s b) (truth s a) (truth s b)
    (condition_fails s a) (condition_fails s b) h
condition_fails s (or_c a b) h =
    either_fails (λ x y. Ok (truth_or x y)) (λ x y e. ok_never (truth_or x y) e) (condition_failure s a) (condition_failure s b) (truth s a) (truth s b)
    (condition_fails s a) (condition_fails s b) h
condition_fails s (exists_c range a) h =
    results_fail (λ row. truth (within s row) a) (λ row. condition_failure (within s row) a) (λ row. condition_fails (within s row) a) (range_rows s range)
    (made_refused (all_results (map (λ row. truth (within s row) a) (range_rows s range))) (λ truths. truth_of (list_any is_true truths)) OutOfRange h)
