-- Values that are put in place one after another make the row that the machine makes of all of them.
use Rattle.std.proofs.Common.{◌≡◌, ◌∙◌, refl, ℕ, ◌+◌, suc, Result, Ok, Err, Option, Some, None, List, [], ◌∷◌, ◌++◌, map, fold, zip, slice_get, slice_set, ap, sym, arith, append_assoc, append-nil}
use Rattle.std.specs.List.{enumerate_from}
use Rattle.iv_value.specs.declared.value.Value.{Value}
use Rattle.iv_expr.specs.declared.tree.ExprFault.{ExprFault}
use Rattle.iv_expr.specs.Evaluation.{value, and_then}
use Rattle.iv_expr.specs.Scopes.{Scope, within}
use Rattle.iv_expr.specs.declared.row.Change.{Change}
use Rattle.iv_expr.specs.declared.row.StoredRow.{StoredRow}
use Rattle.iv_catalogue.specs.declared.cause.Cause.{Cause}
use Rattle.iv_catalogue.specs.declared.plan.InsertColumns.{InsertColumns}
use Rattle.iv_catalogue.specs.declared.plan.InsertColumns.TheVariants as columns
use Rattle.iv_catalogue.specs.declared.plan.Setting.{Setting}
use Rattle.iv_machine.specs.Context.{Context, in_turn}
use Rattle.iv_machine.specs.Proposals.{stored_value, stored_values, values_by_column, row_of_values, with_columns, defaults_of, insertion, insertion_of, update_of}
use Rattle.iv_exec_proposals.specs.Placements.{placed_at, row_made, setting_placed}
use Rattle.iv_exec_proposals.proofs.FoundRows.{then_same}
use Rattle.iv_exec_proposals.proofs.Steps.{then_again}

-- how a value is put into its column
abbrev Put : Type 0
Put = List Value → ℕ → Value → List Value

abbrev step : Context → ℕ → Put → ℕ × Result Value ExprFault → List Value → Result (List Value) Cause
step context table put p row = and_then (stored_value context table p.0 p.1) (λ v. Ok (put row p.0 v))

abbrev all_put : Put → Result (List (ℕ × Value)) Cause → List Value → Result (List Value) Cause
all_put put pairs row = and_then pairs (λ ps. Ok (fold (λ r p. put r p.0 p.1) row ps))

one_stored : (put : Put) (c : ℕ) (r : Result Value Cause) (rest : Result (List (ℕ × Value)) Cause) (left : List Value → Result (List Value) Cause) (row : List Value)
    → ((more : List Value) → left more ≡ all_put put rest more)
    → and_then (and_then r (λ v. Ok (put row c v))) left ≡ all_put put (and_then (and_then r (λ v. Ok (c, v))) (λ y. and_then rest (λ ys. Ok (y ∷ ys)))) row
one_stored put c (Err e) rest left row ih = refl
one_stored put c (Ok v) (Ok ps) left row ih = ih (put row c v)
one_stored put c (Ok v) (Err e) left row ih = ih (put row c v)

stored_in_turn : (context : Context) (table : ℕ) (put : Put) (pairs : List (ℕ × Result Value ExprFault)) (row : List Value)
    → in_turn (step context table put) pairs row ≡ all_put put (stored_values context table pairs) row
stored_in_turn context table put [] row = refl
stored_in_turn context table put (p ∷ pairs) row =
    one_stored put p.0 (stored_value context table p.0 p.1) (stored_values context table pairs) (in_turn (step context table put) pairs) row
    (stored_in_turn context table put pairs)

-- ---- UPDATE

done_then : {B : Type 0} (r : Result B Cause) (f g : B → Result B Cause) → ((b : B) → f b ≡ g b) → and_then r f ≡ and_then r g
done_then (Ok b) f g e = e b
done_then (Err c) f g e = refl

in_turn_mapped : {A C B : Type 0} (f : C → B → Result B Cause) (g : A → C) (xs : List A) (b : B) → in_turn (λ x. f (g x)) xs b ≡ in_turn f (map g xs) b
in_turn_mapped f g [] b = refl
in_turn_mapped f g (x ∷ xs) b = done_then (f (g x) b) (in_turn (λ x. f (g x)) xs) (in_turn f (map g xs)) (in_turn_mapped f g xs)

pub settings_placed : (context : Context) (table : ℕ) (scope : Scope) (settings : List Setting) (row : List Value)
    → in_turn (setting_placed context table scope) settings row
    ≡ and_then (stored_values context table (map (λ s. (s.column, value scope s.value)) settings)) (λ pairs. Ok (with_columns row pairs))
settings_placed context table scope settings row =
    in_turn_mapped (step context table slice_set) (λ (s : Setting). (s.column, value scope s.value)) settings row
    ∙ stored_in_turn context table slice_set (map (λ (s : Setting). (s.column, value scope s.value)) settings) row

-- ---- all columns

fold_mapped : (ps : List (ℕ × Value)) (done : List Value) → fold (λ (r : List Value) (p : ℕ × Value). r ++ p.1 ∷ []) done ps ≡ done ++ map (λ p. p.1) ps
fold_mapped [] done = sym (append-nil done)
fold_mapped (p ∷ ps) done = fold_mapped ps (done ++ p.1 ∷ []) ∙ append_assoc done (p.1 ∷ []) (map (λ p. p.1) ps)

all_made : (context : Context) (table : ℕ) (values : List (Result Value ExprFault))
    → row_made context table columns.All values
    ≡ and_then (stored_values context table (values_by_column columns.All values)) (λ pairs. Ok (row_of_values context.schema table columns.All pairs))
all_made context table values =
    stored_in_turn context table (λ row c v. row ++ v ∷ []) (enumerate_from 0 values) []
    ∙ then_same (stored_values context table (enumerate_from 0 values)) (λ ps. fold (λ (r : List Value) (p : ℕ × Value). r ++ p.1 ∷ []) [] ps) (λ ps. map (λ p. p.1) ps)
    (λ ps. fold_mapped ps [])

-- ---- listed columns

-- from a place on, these are what is got
abbrev Follows : (ℕ → Option ℕ) → ℕ → List ℕ → Type 0
Follows get k [] = (i : ℕ) → get (k + i) ≡ None
Follows get k (c ∷ cs) = (get k ≡ Some c) × Follows get (k + 1) cs

follows : (get : ℕ → Option ℕ) (k : ℕ) (rest : List ℕ) → ((i : ℕ) → get (k + i) ≡ slice_get rest i) → Follows get k rest
follows get k [] h = h
follows get k (c ∷ cs) h =
    let none : k + 0 ≡ k = omega arith in
    (ap get (sym none) ∙ h 0, follows get (k + 1) cs (λ i. (let one : (k + 1) + i ≡ k + suc i = omega arith in ap get one ∙ h (suc i))))

listed_in_turn : (context : Context) (table : ℕ) (places : List ℕ) (get : ℕ → Option ℕ) (values : List (Result Value ExprFault)) (k : ℕ) (rest : List ℕ) (row : List Value) → Follows get k rest
    → in_turn (λ s. placed_at context table (columns.Listed places) (get s.0) s.1) (enumerate_from k values) row
    ≡ in_turn (step context table slice_set) (zip rest values) row
listed_in_turn context table places get [] k [] row h = refl
listed_in_turn context table places get [] k (c ∷ cs) row h = refl
listed_in_turn context table places get (v ∷ vs) k [] row h =
    let left : List Value → Result (List Value) Cause = in_turn (λ s. placed_at context table (columns.Listed places) (get s.0) s.1) (enumerate_from (k + 1) vs) in
    let none : k + 0 ≡ k = omega arith in
    ap (λ (o : Option ℕ). and_then (placed_at context table (columns.Listed places) o v row) left) (ap get (sym none) ∙ h 0)
    ∙ listed_in_turn context table places get vs (k + 1) [] row (λ i. (let one : (k + 1) + i ≡ k + suc i = omega arith in ap get one ∙ h (suc i)))
    ∙ nothing vs
  where
    nothing : (vs : List (Result Value ExprFault)) → in_turn (step context table slice_set) (zip [] vs) row ≡ Ok row
    nothing vs = refl
listed_in_turn context table places get (v ∷ vs) k (c ∷ cs) row h =
    let left : List Value → Result (List Value) Cause = in_turn (λ s. placed_at context table (columns.Listed places) (get s.0) s.1) (enumerate_from (k + 1) vs) in
    ap (λ (o : Option ℕ). and_then (placed_at context table (columns.Listed places) o v row) left) h.0
    ∙ done_then (step context table slice_set (c, v) row) left (in_turn (step context table slice_set) (zip cs vs))
    (λ more. listed_in_turn context table places get vs (k + 1) cs more h.1)

listed_made : (context : Context) (table : ℕ) (places : List ℕ) (values : List (Result Value ExprFault))
    → row_made context table (columns.Listed places) values
    ≡ and_then (stored_values context table (values_by_column (columns.Listed places) values)) (λ pairs. Ok (row_of_values context.schema table (columns.Listed places) pairs))
listed_made context table places values =
    listed_in_turn context table places (slice_get places) values 0 places (defaults_of context.schema table)
    (follows (slice_get places) 0 places (λ i. (let none : 0 + i ≡ i = omega arith in ap (slice_get places) none)))
    ∙ stored_in_turn context table slice_set (zip places values) (defaults_of context.schema table)

pub made : (context : Context) (table : ℕ) (listed : InsertColumns) (values : List (Result Value ExprFault))
    → row_made context table listed values
    ≡ and_then (stored_values context table (values_by_column listed values)) (λ pairs. Ok (row_of_values context.schema table listed pairs))
made context table columns.All values = all_made context table values
made context table (columns.Listed places) values = listed_made context table places values

-- the insertion of the row that is made
pub inserted : (context : Context) (table : ℕ) (listed : InsertColumns) (values : List (Result Value ExprFault))
    → and_then (row_made context table listed values) (λ row. Ok (insertion table row)) ≡ insertion_of context table listed values
inserted context table listed values =
    ap (λ (r : Result (List Value) Cause). and_then r (λ row. Ok (insertion table row))) (made context table listed values)
    ∙ then_again (stored_values context table (values_by_column listed values)) (λ pairs. row_of_values context.schema table listed pairs) (λ row. Ok (insertion table row))

-- the change of a row to a new one
abbrev pub changed_to : StoredRow → List Value → Change
changed_to row new = record { table = row.table; row = row.number; old = Some row.values; new = Some new }

-- the update of a row is the change to the row with its columns set
pub update_made : (context : Context) (scope : Scope) (settings : List Setting) (row : StoredRow)
    → update_of context scope settings row ≡ and_then (in_turn (setting_placed context row.table (within scope row.values)) settings row.values) (λ new. Ok (changed_to row new))
update_made context scope settings row =
    sym (ap (λ (r : Result (List Value) Cause). and_then r (λ new. Ok (changed_to row new))) (settings_placed context row.table (within scope row.values) settings row.values)
    ∙ then_again (stored_values context row.table (map (λ s. (s.column, value (within scope row.values) s.value)) settings)) (with_columns row.values) (λ new. Ok (changed_to row new)))
