-- What a query selects of rows.
use Rattle.std.proofs.Common.{◌≡◌, ◌∙◌, refl, Result, Ok, Err, List, [], ◌∷◌, map, ap, sym, pos, length, map-id}
use Rattle.iv_value.specs.declared.value.Value.{Value}
use Rattle.iv_value.specs.declared.value.Value.TheVariants.{Int}
use Rattle.iv_expr.specs.declared.row.StoredRow.{StoredRow}
use Rattle.iv_expr.specs.declared.tree.Expr.{Expr}
use Rattle.iv_expr.specs.Evaluation.{and_then, value}
use Rattle.iv_expr.specs.Scopes.{Scope, within, scope_of, no_frame, table_rows, contents}
use Rattle.iv_catalogue.specs.declared.cause.Cause.{Cause}
use Rattle.iv_catalogue.specs.declared.plan.Outputs.TheVariants.{Star, Values}
use Rattle.iv_catalogue.specs.declared.plan.QueryPlan.TheVariants as query
use Rattle.iv_machine.specs.declared.answer.Answer.TheVariants.{Rows}
use Rattle.iv_machine.specs.Context.{each}
use Rattle.iv_machine.specs.Machine.{output_row, answer_outcome}
use Rattle.iv_machine.specs.Proposals.{with_cause, matching_rows}
use Rattle.iv_exec_proposals.specs.Selections.{QueriesSelect, output_at}
use Rattle.iv_exec_proposals.proofs.Collecting.{each_same, collected}
use Rattle.iv_exec_proposals.specs.Steps.{all_added, rows_counted}
use Rattle.iv_exec_proposals.proofs.FoundRows.{rows_found}
use Rattle.iv_expr.specs.declared.tree.Cond.{Cond}
use Rattle.std.proofs.Common.{ℕ}
use Rattle.iv_exec_proposals.proofs.Steps.{then_then, after_ok}
use Rattle.iv_exec_context.specs.Answering.{AnswersCause}

pub each_ok : {A B E : Type 0} (f : A → B) (xs : List A) → each {E = E} (λ x. Ok (f x)) xs ≡ Ok (map f xs)
each_ok f [] = refl
each_ok {B = B} {E = E} f (x ∷ xs) = ap (λ (r : Result (List B) E). and_then r (λ ys. Ok (f x ∷ ys))) (each_ok f xs)

each_mapped : {A B C E : Type 0} (f : B → Result C E) (g : A → B) (xs : List A) → each f (map g xs) ≡ each (λ x. f (g x)) xs
each_mapped f g [] = refl
each_mapped {C = C} {E = E} f g (x ∷ xs) = ap (λ (r : Result (List C) E). and_then (f (g x)) (λ y. and_then r (λ ys. Ok (y ∷ ys)))) (each_mapped f g xs)

star : (scope : Scope) (row : List Value) → output_row scope Star row ≡ Ok row
star scope row = each_mapped with_cause (λ (v : Value). Ok v) row ∙ each_ok (λ v. v) row ∙ ap (λ r. Ok r) (map-id row)

-- the whole rows
pub stars : (scope : Scope) (rows : List (List Value)) → each (output_row scope Star) rows ≡ Ok rows
stars scope rows = each_same (output_row scope Star) (λ row. Ok row) (star scope) rows ∙ each_ok (λ row. row) rows ∙ ap (λ r. Ok r) (map-id rows)

-- the row of outputs one after another is that of all of them
pub output_made : (scope o : Scope) (es : List Expr) (row : List Value) → o ≡ within scope row → all_added (λ e. with_cause (value o e)) es ≡ output_at scope es row
unfolding output_at
output_made scope o es row e =
    ap (λ (s : Scope). all_added (λ e. with_cause (value s e)) es) e ∙ collected (λ e. with_cause (value (within scope row) e)) es

-- values of expressions
pub values : (scope : Scope) (es : List Expr) (rows : List (List Value))
    → all_added (output_at scope es) rows ≡ each (output_row scope (Values es)) rows
unfolding output_at
values scope es rows =
    collected (output_at scope es) rows
    ∙ each_same (output_at scope es) (output_row scope (Values es))
    (λ row. sym (each_mapped with_cause (value (within scope row)) es)) rows

after_contents : {B : Type 0} (r : Result (List StoredRow) Cause) (f : List Value → Result B Cause) → and_then (and_then r (λ found. Ok (contents found))) (each f) ≡ and_then r (each (λ x. f x.values))
after_contents (Ok found) f = each_mapped f (λ (x : StoredRow). x.values) found
after_contents (Err c) f = refl

-- what is made of the contents of rows is made of the rows
pub of_contents : {A B : Type 0} (view : A → List B) (answer : Result A Cause) (r : Result (List StoredRow) Cause) (f : List Value → Result B Cause) (found : List (List Value))
    → and_then r (λ found. Ok (contents found)) ≡ Ok found → AnswersCause view answer (each f found) → AnswersCause view answer (and_then r (each (λ x. f x.values)))
of_contents view answer r f found e h =
    after_ok view answer (and_then r (each (λ x. f x.values))) (and_then r (λ found. Ok (contents found))) (each f) found (sym (after_contents r f)) e h

-- one row of one value
abbrev pub one_value : Value → List (List Value)
one_value v = (v ∷ []) ∷ []

of_count : (r : Result (List StoredRow) Cause) → and_then (and_then (and_then r (λ found. Ok (length found))) (λ n. Ok (Int (pos n)))) (λ v. Ok (one_value v)) ≡ and_then r (λ found. Ok (one_value (Int (pos (length found)))))
of_count (Ok found) = refl
of_count (Err e) = refl

pub count_shown : (scope : Scope) (filter : Cond) (rows : List StoredRow)
    → and_then (matching_rows scope filter rows) (λ found. Ok (one_value (Int (pos (length found))))) ≡ and_then (and_then (rows_counted scope filter rows) (λ n. Ok (Int (pos n)))) (λ v. Ok (one_value v))
count_shown scope filter rows =
    sym (ap (λ (r : Result ℕ Cause). and_then (and_then r (λ n. Ok (Int (pos n)))) (λ v. Ok (one_value v))) (rows_found scope filter rows) ∙ of_count (matching_rows scope filter rows))

pub select : QueriesSelect
select s (query.Rows table outputs filter) =
    ap (answer_outcome s)
    (then_then (matching_rows (scope_of no_frame s.database.rows) filter (table_rows s.database.rows table))
    (each (λ (r : StoredRow). output_row (scope_of no_frame s.database.rows) outputs r.values)) (λ rows. Ok (Rows rows)))
select s (query.Count table filter) =
    ap (answer_outcome s)
    (then_then (matching_rows (scope_of no_frame s.database.rows) filter (table_rows s.database.rows table))
    (λ found. Ok ((Int (pos (length found)) ∷ []) ∷ [])) (λ rows. Ok (Rows rows)))
