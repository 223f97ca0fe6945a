-- The rows where a condition is true, found one after another, are those that the machine means.
use Rattle.std.proofs.Common.{◌≡◌, ◌∙◌, refl, ℕ, ◌+◌, Bool, true, false, if◌then◌else◌, Result, Ok, Err, Option, Some, None, List, [], ◌∷◌, ◌++◌, map, fold, length, filter_map, ap, sym, append_assoc, append-nil, arith, map-id}
use Rattle.std.specs.List.{cons_option}
use Rattle.iv_value.specs.declared.value.Value.{Value}
use Rattle.iv_expr.specs.declared.row.StoredRow.{StoredRow}
use Rattle.iv_expr.specs.declared.row.Change.{Change}
use Rattle.iv_expr.specs.declared.tree.Cond.{Cond}
use Rattle.iv_expr.specs.declared.tree.Side.{Side}
use Rattle.iv_expr.specs.Evaluation.{and_then}
use Rattle.iv_expr.specs.Scopes.{Scope, within, side_of, transition_rows, contents}
use Rattle.iv_catalogue.specs.declared.cause.Cause.{Cause}
use Rattle.iv_machine.specs.Context.{each, in_turn}
use Rattle.iv_machine.specs.Proposals.{holds, element_where_true, where_true, matching_rows}
use Rattle.iv_exec_proposals.specs.Steps.{where_holds, numbers_taken, rows_counted, row_taken, side_taken, sides_taken}

-- what is chosen of pairs
abbrev chosen : {A B : Type 0} → (A → B → B) → Result (List (A × Bool)) Cause → B → Result B Cause
chosen add pairs b = and_then (and_then pairs (λ ps. Ok (filter_map element_where_true ps))) (λ found. Ok (fold (λ b x. add x b) b found))

-- one more pair
abbrev paired : {A : Type 0} → A → Result Bool Cause → Result (List (A × Bool)) Cause → Result (List (A × Bool)) Cause
paired x h rest = and_then (and_then h (λ b. Ok (x, b))) (λ y. and_then rest (λ ys. Ok (y ∷ ys)))

one_more : {A B : Type 0} (add : A → B → B) (x : A) (b : B) (left : B → Result B Cause) (h : Result Bool Cause) (rest : Result (List (A × Bool)) Cause)
    → ((c : B) → left c ≡ chosen add rest c)
    → and_then (and_then h (λ t. Ok (if t then add x b else b))) left ≡ chosen add (paired x h rest) b
one_more add x b left (Err e) rest ih = refl
one_more add x b left (Ok true) (Ok ps) ih = ih (add x b)
one_more add x b left (Ok true) (Err e) ih = ih (add x b)
one_more add x b left (Ok false) (Ok ps) ih = ih b
one_more add x b left (Ok false) (Err e) ih = ih b

-- what is done at those where the condition is true, one after another, is done at all that were found
pub where_found : {A B : Type 0} (row_of : A → List Value) (add : A → B → B) (scope : Scope) (filter : Cond) (xs : List A) (b : B)
    → in_turn (λ x. where_holds scope filter (row_of x) (add x)) xs b
    ≡ and_then (where_true row_of scope filter xs) (λ found. Ok (fold (λ b x. add x b) b found))
where_found row_of add scope filter [] b = refl
where_found row_of add scope filter (x ∷ xs) b =
    one_more add x b (in_turn (λ x. where_holds scope filter (row_of x) (add x)) xs) (holds (within scope (row_of x)) filter)
    (each (λ x. and_then (holds (within scope (row_of x)) filter) (λ b. Ok (x, b))) xs)
    (where_found row_of add scope filter xs)

-- ---- what is folded

fold_mapped : {A B : Type 0} (f : A → B) (xs : List A) (done : List B) → fold (λ b x. b ++ f x ∷ []) done xs ≡ done ++ map f xs
fold_mapped f [] done = sym (append-nil done)
fold_mapped f (x ∷ xs) done = fold_mapped f xs (done ++ f x ∷ []) ∙ append_assoc done (f x ∷ []) (map f xs)

fold_counted : {A : Type 0} (xs : List A) (n : ℕ) → fold (λ b x. b + 1) n xs ≡ n + length xs
fold_counted [] n = omega arith
fold_counted (x ∷ xs) n =
    let i = fold_counted xs (n + 1) in
    let s : (n + 1) + length xs ≡ n + length (x ∷ xs) = omega arith in
    i ∙ s

pub then_same : {A B : Type 0} (r : Result A Cause) (f g : A → B) → ((a : A) → f a ≡ g a) → and_then r (λ a. Ok (f a)) ≡ and_then r (λ a. Ok (g a))
then_same (Ok a) f g e = ap (λ x. Ok x) (e a)
then_same (Err c) f g e = refl

-- ---- by number

pub numbers_found : (scope : Scope) (filter : Cond) (rows : List StoredRow)
    → numbers_taken scope filter rows ≡ and_then (matching_rows scope filter rows) (λ found. Ok (map (λ r. r.number) found))
numbers_found scope filter rows =
    where_found (λ (r : StoredRow). r.values) (λ r (f : List ℕ). f ++ r.number ∷ []) scope filter rows []
    ∙ then_same (matching_rows scope filter rows) (λ found. fold (λ (b : List ℕ) (r : StoredRow). b ++ r.number ∷ []) [] found) (λ found. map (λ r. r.number) found)
    (λ found. fold_mapped (λ (r : StoredRow). r.number) found [])

pub rows_found : (scope : Scope) (filter : Cond) (rows : List StoredRow)
    → rows_counted scope filter rows ≡ and_then (matching_rows scope filter rows) (λ found. Ok (length found))
rows_found scope filter rows =
    where_found (λ (r : StoredRow). r.values) (λ r (n : ℕ). n + 1) scope filter rows 0
    ∙ then_same (matching_rows scope filter rows) (λ found. fold (λ (b : ℕ) (r : StoredRow). b + 1) 0 found) (λ found. length found)
    (λ found. (let none : 0 + length found ≡ length found = omega arith in fold_counted found 0 ∙ none))

-- ---- rows of transition tables

done_then : {B : Type 0} (r : Result B Cause) (f g : B → Result B Cause) → ((b : B) → f b ≡ g b) → and_then r f ≡ and_then r g
done_then (Ok b) f g e = e b
done_then (Err c) f g e = refl

one_side : (scope : Scope) (filter : Cond) (o : Option (List Value)) (rest : List (List Value)) (left : List (List Value) → Result (List (List Value)) Cause)
    → ((f : List (List Value)) → left f ≡ in_turn (row_taken scope filter) rest f) → (found : List (List Value))
    → and_then (side_taken scope filter o found) left ≡ in_turn (row_taken scope filter) (cons_option o rest) found
one_side scope filter None rest left ih found = ih found
one_side scope filter (Some row) rest left ih found = done_then (row_taken scope filter row found) left (in_turn (row_taken scope filter) rest) ih

sides_in_turn : (scope : Scope) (filter : Cond) (side : Side) (changes : List Change) (found : List (List Value))
    → in_turn (λ c. side_taken scope filter (side_of side c)) changes found ≡ in_turn (row_taken scope filter) (transition_rows side changes) found
sides_in_turn scope filter side [] found = refl
sides_in_turn scope filter side (c ∷ changes) found =
    one_side scope filter (side_of side c) (transition_rows side changes) (in_turn (λ c. side_taken scope filter (side_of side c)) changes)
    (sides_in_turn scope filter side changes) found

pub sides_found : (scope : Scope) (filter : Cond) (side : Side) (changes : List Change)
    → sides_taken scope filter side changes ≡ where_true (λ (r : List Value). r) scope filter (transition_rows side changes)
sides_found scope filter side changes =
    sides_in_turn scope filter side changes []
    ∙ where_found (λ (r : List Value). r) (λ r (f : List (List Value)). f ++ r ∷ []) scope filter (transition_rows side changes) []
    ∙ then_same (where_true (λ (r : List Value). r) scope filter (transition_rows side changes)) (λ found. fold (λ (b : List (List Value)) (r : List Value). b ++ r ∷ []) [] found) (λ found. found)
    (λ found. fold_mapped (λ (r : List Value). r) found [] ∙ map-id found)
    ∙ whole (where_true (λ (r : List Value). r) scope filter (transition_rows side changes))
  where
    whole : (r : Result (List (List Value)) Cause) → and_then r (λ found. Ok found) ≡ r
    whole (Ok found) = refl
    whole (Err e) = refl

-- ---- the contents of rows

not_ok : {U : Type 0} (e : Cause) (u : U) → ◌≡◌ {A = Result U Cause} (Err e) (Ok u) → ⊥
not_ok e u h = cc

one_content : {A C : Type 0} (f : A → C) (x : A) (h : Result Bool Cause) (rest : Result (List (A × Bool)) Cause) (others : Result (List (C × Bool)) Cause)
    → and_then others (λ ps. Ok (filter_map element_where_true ps)) ≡ and_then (and_then rest (λ ps. Ok (filter_map element_where_true ps))) (λ found. Ok (map f found))
    → and_then (paired (f x) h others) (λ ps. Ok (filter_map element_where_true ps))
    ≡ and_then (and_then (paired x h rest) (λ ps. Ok (filter_map element_where_true ps))) (λ found. Ok (map f found))
one_content f x (Err e) rest others ih = refl
one_content f x (Ok true) (Err e) (Err e') ih = ih
one_content f x (Ok false) (Err e) (Err e') ih = ih
one_content f x (Ok true) (Ok ps) (Ok qs) ih = ap (λ r. and_then r (λ ys. Ok (f x ∷ ys))) ih
one_content f x (Ok false) (Ok ps) (Ok qs) ih = ih
one_content f x (Ok true) (Ok ps) (Err e') ih = absurd (not_ok e' _ ih)
one_content f x (Ok true) (Err e) (Ok qs) ih = absurd (not_ok e _ (sym ih))
one_content f x (Ok false) (Ok ps) (Err e') ih = absurd (not_ok e' _ ih)
one_content f x (Ok false) (Err e) (Ok qs) ih = absurd (not_ok e _ (sym ih))

-- the contents of the rows that are found are found among the contents
pub contents_found : (scope : Scope) (filter : Cond) (rows : List StoredRow)
    → where_true (λ (r : List Value). r) scope filter (contents rows) ≡ and_then (matching_rows scope filter rows) (λ found. Ok (contents found))
contents_found scope filter [] = refl
contents_found scope filter (r ∷ rows) =
    one_content (λ (r : StoredRow). r.values) r (holds (within scope r.values) filter)
    (each (λ (x : StoredRow). and_then (holds (within scope x.values) filter) (λ b. Ok (x, b))) rows)
    (each (λ (x : List Value). and_then (holds (within scope x) filter) (λ b. Ok (x, b))) (contents rows))
    (contents_found scope filter rows)
