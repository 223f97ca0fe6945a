-- A SELECT that suits is refused only for a number out of range.
use Rattle.std.proofs.Common.{◌≡◌, refl, ℕ, zero, suc, Bool, true, ◌&&◌, ◌==◌, List, [], ◌∷◌, ◌∙◌, map, filter_map, length, pos, Option, Some, None, is_some, Result, Ok, Err, slice_get, sym, ap}
use Rattle.std.specs.List.{list_all}
use Rattle.std.proofs.lemmas.Bool.{eqb-true, and_parts}
use Rattle.iv_value.specs.declared.value.Kind.{Kind}
use Rattle.iv_value.specs.declared.value.Truth.{Truth}
use Rattle.iv_value.specs.declared.value.Value.{Value}
use Rattle.iv_value.specs.declared.value.Value.TheVariants.{Int}
use Rattle.iv_value.specs.Truths.{is_true}
use Rattle.iv_expr.specs.Evaluation.{value, truth, and_then}
use Rattle.iv_expr.specs.Scopes.{Scope, no_frame, scope_of, within, table_rows}
use Rattle.iv_expr.specs.Suiting.{Sort, Shape, shape_within, sort_of, suits, row_suits, HasShape}
use Rattle.iv_expr.proofs.Suiting.{Sorted, Fine, value_sorted, truth_fine}
use Rattle.iv_catalogue.specs.declared.plan.Outputs.{Outputs}
use Rattle.iv_catalogue.specs.declared.plan.Outputs.TheVariants as outputs
use Rattle.iv_catalogue.specs.declared.plan.QueryPlan.TheVariants as query
use Rattle.iv_catalogue.specs.Refusals.{cause_of, refusal_of}
use Rattle.iv_machine.specs.declared.answer.Answer.{Answer}
use Rattle.iv_machine.specs.declared.answer.Answer.TheVariants.{Rows}
use Rattle.iv_machine.specs.Context.{each}
use Rattle.iv_machine.specs.Machine.{State, empty_state, answer_outcome, rows_meant, output_row, rows_answer, count_answer}
use Rattle.iv_machine.specs.Proposals.{with_cause, holds, element_where_true}
use Rattle.iv_laws_fitting.specs.PlanShapes.{table_kinds, plain_shape, is_there, has_sort, listed_suit}
use Rattle.iv_laws_fitting.proofs.Plans.{queries_fit}
use Rattle.iv_laws_fitting.proofs.Running.{within_shape, where_kept}
use Rattle.iv_laws_levels.proofs.Members.{all_in, of_filter}
use Rattle.iv_laws_rows.specs.RowFits.{row_fits, rows_fit}
use Rattle.iv_laws_rows.proofs.FittingFrames.{values_have_kinds, table_rows_suit}
use Rattle.iv_laws_rows.proofs.MoreMembers.{at_in}
use Rattle.iv_step.specs.Step.{run}
use Rattle.iv_laws_answers.specs.Types.{StoredRow, Expr, Cond, ExprFault, Table, Cause, Refusal}
use Rattle.iv_laws_answers.specs.Types.cause.{NumberOutOfRange}
use Rattle.iv_laws_answers.specs.Shapes.{QueriesAreWellTyped, ReachedQueriesAreWellTyped}
use Rattle.iv_laws_answers.proofs.FittingStates.{Fitting, all_fitting}

-- an answer, or a number is out of range
abbrev InRange : {A : Type 0} → Result A Cause → Type 0
InRange (Ok a) = Unit {0}
InRange (Err cause) = cause ≡ NumberOutOfRange

then_in_range : {A B : Type 0} (r : Result A Cause) (f : A → Result B Cause) → InRange r → ((a : A) → r ≡ Ok a → InRange (f a)) → InRange (and_then r f)
then_in_range (Ok a) f p q = q a refl
then_in_range (Err c) f p q = p

each_in_range : {A B : Type 0} (f : A → Result B Cause) (xs : List A) → ((j : ℕ) (x : A) → slice_get xs j ≡ Some x → InRange (f x)) → InRange (each f xs)
each_in_range f [] h = tt
each_in_range f (x ∷ xs) h =
    then_in_range (f x) (λ y. and_then (each f xs) (λ ys. Ok (y ∷ ys))) (h zero x refl)
    (λ y e. then_in_range (each f xs) (λ ys. Ok (y ∷ ys)) (each_in_range f xs (λ j. h (suc j))) (λ ys g. tt))

-- ---- values and conditions

sorted_in_range : (k : Option Sort) (r : Result Value ExprFault) → Sorted k r → is_some k ≡ true → InRange (with_cause r)
sorted_in_range None r p h = absurd cc
sorted_in_range (Some k) (Ok v) p h = tt
sorted_in_range (Some k) (Err e) p h = ap cause_of p

holds_in_range : (shape : Shape) (s : Scope) (c : Cond) → HasShape s shape → suits shape c ≡ true → InRange (holds s c)
holds_in_range shape s c h g = by (truth s c) (truth_fine shape s c h g)
  where
    by : (r : Result Truth ExprFault) → Fine r → InRange (elim r as (λ x. Result Bool Cause) [ Ok t ↦ Ok (is_true t) | Err fault ↦ Err (cause_of fault) ])
    by (Ok t) f = tt
    by (Err e) f = ap cause_of f

-- ---- what is selected of a row

abbrev well : Value → Result Value ExprFault
well v = Ok v

abbrev told : Result Value ExprFault → Result Value Cause
told r = with_cause r

star_in_range : (row : List Value) → InRange (each told (map well row))
star_in_range [] = tt
star_in_range (v ∷ row) = then_in_range (each told (map well row)) (λ ys. Ok (v ∷ ys)) (star_in_range row) (λ ys e. tt)

values_in_range : (shape : Shape) (s : Scope) (es : List Expr) → HasShape s shape → list_all (has_sort shape) es ≡ true → InRange (each told (map (value s) es))
values_in_range shape s [] h g = tt
values_in_range shape s (e ∷ es) h g =
    let p = and_parts (has_sort shape e) (list_all (has_sort shape) es) g in
    then_in_range (told (value s e)) (λ y. and_then (each told (map (value s) es)) (λ ys. Ok (y ∷ ys)))
    (sorted_in_range (sort_of shape e) (value s e) (value_sorted shape s e h) p.0)
    (λ y q. then_in_range (each told (map (value s) es)) (λ ys. Ok (y ∷ ys)) (values_in_range shape s es h p.1) (λ ys r. tt))

output_in_range : (shape : Shape) (s : Scope) (kinds : List Kind) (listed : Outputs) (row : List Value) → HasShape s shape → row_suits kinds row ≡ true
    → listed_suit (shape_within shape kinds) listed ≡ true → InRange (output_row s listed row)
output_in_range shape s kinds outputs.Star row h p g = star_in_range row
output_in_range shape s kinds (outputs.Values es) row h p g =
    values_in_range (shape_within shape kinds) (within s row) es (within_shape s shape kinds row h p) g

-- ---- rows

plain_has_shape : (tables : List Table) (rows : List StoredRow) → rows_fit tables rows ≡ true → HasShape (scope_of no_frame rows) (plain_shape tables)
plain_has_shape tables rows fit = record { ranges = tt; old = tt; new = tt; transition = λ side. tt; tables = λ t. table_rows_suit tables t rows fit }

-- a row of a table has the kinds of its columns
row_has_kinds : (tables : List Table) (rows : List StoredRow) (t j : ℕ) (r : StoredRow) → rows_fit tables rows ≡ true → slice_get (table_rows rows t) j ≡ Some r
    → row_suits (table_kinds tables t) r.values ≡ true
row_has_kinds tables rows t j r fit g =
    let own = of_filter (λ (x : StoredRow). x.table == t) r rows (at_in (table_rows rows t) j r g) in
    ap (λ n. row_suits (table_kinds tables n) r.values) (sym (eqb-true r.table t own.1))
    ∙ values_have_kinds tables r.table r.values (all_in (row_fits tables) r rows fit own.0)

module _ (s : State) (fit : rows_fit s.schema.tables s.database.rows ≡ true) (t : ℕ) (filter : Cond) where
  abbrev tables : List Table
  tables = s.schema.tables

  abbrev scope : Scope
  scope = scope_of no_frame s.database.rows

  abbrev kinds : List Kind
  kinds = table_kinds s.schema.tables t

  abbrev around : Shape
  around = shape_within (plain_shape s.schema.tables) kinds

  has_shape : HasShape scope (plain_shape tables)
  has_shape = plain_has_shape tables s.database.rows fit

  kinds_at : (j : ℕ) (r : StoredRow) → slice_get (table_rows s.database.rows t) j ≡ Some r → row_suits kinds r.values ≡ true
  kinds_at j r g = row_has_kinds tables s.database.rows t j r fit g

  meant_in_range : suits around filter ≡ true → InRange (rows_meant s t filter)
  meant_in_range w =
      then_in_range (each (λ (r : StoredRow). and_then (holds (within scope r.values) filter) (λ b. Ok (r, b))) (table_rows s.database.rows t))
      (λ pairs. Ok (filter_map element_where_true pairs))
      (each_in_range (λ (r : StoredRow). and_then (holds (within scope r.values) filter) (λ b. Ok (r, b))) (table_rows s.database.rows t)
      (λ j r g.
      then_in_range (holds (within scope r.values) filter) (λ b. Ok (r, b))
      (holds_in_range around (within scope r.values) filter (within_shape scope (plain_shape tables) kinds r.values has_shape (kinds_at j r g)) w) (λ b e. tt)))
      (λ pairs e. tt)

  rows_in_range : (listed : Outputs) → listed_suit around listed ≡ true → suits around filter ≡ true → InRange (rows_answer s t listed filter)
  rows_in_range listed l w =
      then_in_range (rows_meant s t filter) (λ rows. and_then (each (λ r. output_row scope listed r.values) rows) (λ values. Ok (Rows values)))
      (meant_in_range w)
      (λ rows e.
      then_in_range (each (λ r. output_row scope listed r.values) rows) (λ values. Ok (Rows values))
      (each_in_range (λ r. output_row scope listed r.values) rows
      (λ j r g.
      let kept = where_kept (λ (x : StoredRow). x.values) scope filter (table_rows s.database.rows t) rows e j r g in
      output_in_range (plain_shape tables) scope kinds listed r.values has_shape (kinds_at kept.0 r kept.1) l))
      (λ values q. tt))

  count_in_range : suits around filter ≡ true → InRange (count_answer s t filter)
  count_in_range w =
      then_in_range (rows_meant s t filter) (λ rows. Ok (Rows ((Int (pos (length rows)) ∷ []) ∷ []))) (meant_in_range w) (λ rows e. tt)

-- ---- the answer

answered : (a : Answer) (x : Refusal) → ◌≡◌ {A = Result Answer Refusal} (Ok a) (Err x) → ⊥
answered a x e = cc

same_refusal : (x y : Refusal) → ◌≡◌ {A = Result Answer Refusal} (Err x) (Err y) → x ≡ y
same_refusal x y e = cc

refused_in_range : (s : State) (r : Result Answer Cause) (refusal : Refusal) → InRange r → (answer_outcome s r).answer ≡ Err refusal
    → refusal ≡ refusal_of NumberOutOfRange
refused_in_range s (Ok a) refusal h e = absurd (answered a refusal e)
refused_in_range s (Err c) refusal h e = sym (same_refusal (refusal_of c) refusal e) ∙ ap refusal_of h

pub queries_are_well_typed : QueriesAreWellTyped
queries_are_well_typed s (query.Rows t listed filter) refusal w fit e =
    let shape = shape_within (plain_shape s.schema.tables) (table_kinds s.schema.tables t) in
    let p = and_parts (is_there s.schema.tables t) (listed_suit shape listed && suits shape filter) w in
    let q = and_parts (listed_suit shape listed) (suits shape filter) p.1 in
    refused_in_range s (rows_answer s t listed filter) refusal (rows_in_range s fit t filter listed q.0 q.1) e
queries_are_well_typed s (query.Count t filter) refusal w fit e =
    let shape = shape_within (plain_shape s.schema.tables) (table_kinds s.schema.tables t) in
    let p = and_parts (is_there s.schema.tables t) (suits shape filter) w in
    refused_in_range s (count_answer s t filter) refusal (count_in_range s fit t filter p.1) e

pub reached_queries_are_well_typed : ReachedQueriesAreWellTyped
reached_queries_are_well_typed limits sts st q refusal is e =
    let s : State = (run (empty_state limits) sts).1 in
    let h : Fitting s = all_fitting limits sts in
    queries_are_well_typed s q refusal (queries_fit s.schema st q h.reached.suits.tables is) h.rows.now e
