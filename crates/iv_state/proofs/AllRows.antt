-- What a query of all rows of a table gives.
use Rattle.std.proofs.Common.{◌≡◌, ℕ, Bool, true, false, List, [], ◌∷◌, ◌∙◌, Result, Ok, Err, IfErr, IfOk, MatchBool, refl, sym, ap, map, filter_map}
use Rattle.iv_value.specs.declared.value.Value.{Value}
use Rattle.iv_expr.specs.declared.row.StoredRow.{StoredRow}
use Rattle.iv_expr.specs.declared.tree.Cond.TheVariants.{Always}
use Rattle.iv_expr.specs.Scopes.{Scope, contents, no_frame, scope_of, table_rows, within}
use Rattle.iv_expr.specs.Evaluation.{and_then}
use Rattle.iv_catalogue.specs.declared.cause.Cause.{Cause}
use Rattle.iv_catalogue.specs.declared.plan.Outputs.TheVariants.{Star}
use Rattle.iv_catalogue.specs.declared.plan.QueryPlan.TheVariants as query
use Rattle.iv_catalogue.specs.Refusals.{is_memory_cause}
use Rattle.iv_machine.specs.Context.{each}
use Rattle.iv_machine.specs.Machine.{output_row}
use Rattle.iv_machine.specs.Proposals.{element_where_true, holds, matching_rows, with_cause}
use Rattle.iv_exec_context.specs.Answering.{AnswersCause}
use Rattle.iv_exec_proposals.specs.Selections.{rows_selected}

abbrev Marked : Type 0
Marked = StoredRow × Bool

each_true : (s : Scope) (rows : List StoredRow)
    → ◌≡◌ {A = Result (List Marked) Cause} (each (λ (x : StoredRow). and_then (holds (within s x.values) Always) (λ b. Ok (x, b))) rows) (Ok (map (λ (x : StoredRow). (x, true)) rows))
each_true s [] = refl
each_true s (r ∷ rows) = ap (λ (o : Result (List Marked) Cause). and_then o (λ ys. Ok ((r, true) ∷ ys))) (each_true s rows)

all_kept : (rows : List StoredRow) → filter_map element_where_true (map (λ (x : StoredRow). (x, true)) rows) ≡ rows
all_kept [] = refl
all_kept (r ∷ rows) = ap (λ xs. r ∷ xs) (all_kept rows)

all_match : (s : Scope) (rows : List StoredRow) → matching_rows s Always rows ≡ Ok rows
all_match s rows =
    ap (λ (o : Result (List Marked) Cause). and_then o (λ pairs. Ok (filter_map element_where_true pairs))) (each_true s rows) ∙ ap Ok (all_kept rows)

values_given : (values : List Value) → each {E = Cause} with_cause (map Ok values) ≡ Ok values
values_given [] = refl
values_given (v ∷ values) = ap (λ (o : Result (List Value) Cause). and_then o (λ vs. Ok (v ∷ vs))) (values_given values)

rows_given : (s : Scope) (rows : List StoredRow) → each (λ (r : StoredRow). output_row s Star r.values) rows ≡ Ok (contents rows)
rows_given s [] = refl
rows_given s (r ∷ rows) =
    ap (λ (o : Result (List Value) Cause). and_then o (λ y. and_then (each (λ (x : StoredRow). output_row s Star x.values) rows) (λ ys. Ok (y ∷ ys)))) (values_given r.values)
    ∙ ap (λ (o : Result (List (List Value)) Cause). and_then o (λ ys. Ok (r.values ∷ ys))) (rows_given s rows)

all_selected : (rows : List StoredRow) (table : ℕ) → rows_selected rows (query.Rows table Star Always) ≡ Ok (contents (table_rows rows table))
all_selected rows table =
    let s : Scope = scope_of no_frame rows in
    ap (λ (o : Result (List StoredRow) Cause). and_then o (each (λ (r : StoredRow). output_row s Star r.values))) (all_match s (table_rows rows table))
    ∙ rows_given s (table_rows rows table)

no_error : {A : Type 0} (a : A) (e : Cause) → ◌≡◌ {A = Result A Cause} (Ok a) (Err e) → ⊥
no_error a e h = cc

is_true : (b : Bool) {P : Type 0} → (P → ⊥) → MatchBool b (Unit {0}) P → b ≡ true
is_true true f h = refl
is_true false f h = absurd (f h)

same_rows : (a b : List (List Value)) → ◌≡◌ {A = Result (List (List Value)) Cause} (Ok a) (Ok b) → a ≡ b
same_rows a b e = cc

pub rows_are : (rows : List StoredRow) (table : ℕ) (r : Result (List (List Value)) Cause)
    → AnswersCause (λ (x : List (List Value)). x) r (rows_selected rows (query.Rows table Star Always)) → IfOk r (λ x. x ≡ contents (table_rows rows table))
rows_are rows table (Ok found) h = same_rows found _ (sym h ∙ all_selected rows table)
rows_are rows table (Err e) h = tt {0}

pub memory_is : (rows : List StoredRow) (table : ℕ) (r : Result (List (List Value)) Cause)
    → AnswersCause (λ (x : List (List Value)). x) r (rows_selected rows (query.Rows table Star Always)) → IfErr r (λ e. is_memory_cause e ≡ true)
memory_is rows table (Ok found) h = tt {0}
memory_is rows table (Err e) h = is_true (is_memory_cause e) (λ said. no_error (contents (table_rows rows table)) e (sym (all_selected rows table) ∙ said)) h
