-- What is made of the rows that were found, taken by their numbers.
use Rattle.std.proofs.Common.{◌≡◌, ◌∙◌, refl, ℕ, ◌<◌, ◌==◌, Bool, true, false, cond, Result, Ok, Err, MatchBool, Option, Some, List, [], ◌∷◌, map, filter, filter_map, ap, sym, arith}
use Rattle.std.proofs.lemmas.Bool.Decides.{nat_tests}
use Rattle.iv_expr.specs.declared.row.StoredRow.{StoredRow}
use Rattle.iv_expr.specs.declared.tree.Cond.{Cond}
use Rattle.iv_expr.specs.Evaluation.{and_then}
use Rattle.iv_expr.specs.Scopes.{Scope, Rises, within, table_rows}
use Rattle.iv_expr.proofs.Scan.{above_low}
use Rattle.iv_catalogue.specs.Refusals.{is_memory_cause}
use Rattle.iv_catalogue.specs.declared.cause.Cause.{Cause}
use Rattle.iv_machine.specs.Context.{each, in_turn}
use Rattle.iv_machine.specs.Databases.{row_at}
use Rattle.iv_machine.specs.Proposals.{holds, element_where_true, matching_rows}
use Rattle.iv_exec_context.specs.Answering.{AnswersCause}
use Rattle.iv_exec_context.proofs.Answers.{unless_memory}
use Rattle.iv_exec_proposals.specs.Steps.{numbers_taken, added, added_of_row, added_of_numbers}
use Rattle.iv_exec_proposals.proofs.Collecting.{collected}
use Rattle.iv_exec_proposals.proofs.FoundRows.{numbers_found}
use Rattle.iv_exec_proposals.proofs.SelectedRows.{each_ok}
use Rattle.iv_exec_proposals.proofs.Steps.{answers_as}

-- each is the row of its number among these
abbrev pub Held : List StoredRow → List StoredRow → Type 0
Held rows [] = Unit {0}
Held rows (x ∷ xs) = (row_at rows x.number ≡ Some x) × Held rows xs

abbrev pub HeldIn : List StoredRow → Result (List StoredRow) Cause → Type 0
HeldIn rows (Ok found) = Held rows found
HeldIn rows (Err e) = Unit {0}

below : (r : StoredRow) (rs xs : List StoredRow) → Rises r.number xs → Held rs xs → Held (r ∷ rs) xs
below r rs [] h k = tt
below r rs (x ∷ xs) h k =
    let up : r.number < x.number = h.0 in
    let other : (r.number == x.number) ≡ false = grind (arith, nat_tests) in
    (ap (λ b. cond b (Some r) (row_at rs x.number)) other ∙ k.0, below r rs xs (above_low r.number x.number xs (omega (arith, up)) h.2) k.1)

held_all : (low : ℕ) (rs : List StoredRow) → Rises low rs → Held rs rs
held_all low [] h = tt
held_all low (r ∷ rs) h =
    let same : (r.number == r.number) ≡ true = grind (arith, nat_tests) in
    (ap (λ b. cond b (Some r) (row_at rs r.number)) same, below r rs rs h.2 (held_all r.number rs h.2))

held_filter : (rows : List StoredRow) (p : StoredRow → Bool) (xs : List StoredRow) → Held rows xs → Held rows (filter p xs)
held_filter rows p [] h = tt
held_filter rows p (x ∷ xs) h = elim (p x) as (λ b. Held rows (cond b (x ∷ filter p xs) (filter p xs))) [
  | true ↦ (h.0, held_filter rows p xs h.1)
  | false ↦ held_filter rows p xs h.1
]

-- what is found of pairs
abbrev found_of : Result (List (StoredRow × Bool)) Cause → Result (List StoredRow) Cause
found_of pairs = and_then pairs (λ ps. Ok (filter_map element_where_true ps))

one_held : (rows : List StoredRow) (x : StoredRow) (h : Result Bool Cause) (rest : Result (List (StoredRow × Bool)) Cause)
    → row_at rows x.number ≡ Some x → HeldIn rows (found_of rest)
    → HeldIn rows (found_of (and_then (and_then h (λ b. Ok (x, b))) (λ y. and_then rest (λ ys. Ok (y ∷ ys)))))
one_held rows x (Err e) rest k i = tt
one_held rows x (Ok true) (Ok ps) k i = (k, i)
one_held rows x (Ok true) (Err e) k i = tt
one_held rows x (Ok false) (Ok ps) k i = i
one_held rows x (Ok false) (Err e) k i = tt

held_found : (rows : List StoredRow) (scope : Scope) (filter : Cond) (xs : List StoredRow) → Held rows xs → HeldIn rows (matching_rows scope filter xs)
held_found rows scope filter [] h = tt
held_found rows scope filter (x ∷ xs) h =
    one_held rows x (holds (within scope x.values) filter)
    (each (λ (r : StoredRow). and_then (holds (within scope r.values) filter) (λ b. Ok (r, b))) xs)
    h.0 (held_found rows scope filter xs h.1)

done_then : {B : Type 0} (r : Result B Cause) (f g : B → Result B Cause) → ((b : B) → f b ≡ g b) → and_then r f ≡ and_then r g
done_then (Ok b) f g e = e b
done_then (Err c) f g e = refl

made_of_numbers : {B : Type 0} (f : StoredRow → Result B Cause) (rows found : List StoredRow) (made : List B) → Held rows found
    → in_turn (λ n. added_of_row f (row_at rows n)) (map (λ r. r.number) found) made ≡ in_turn (added f) found made
made_of_numbers f rows [] made h = refl
made_of_numbers {B = B} f rows (r ∷ found) made h =
    ap (λ (o : Option StoredRow). and_then (added_of_row f o made) (in_turn (λ n. added_of_row f (row_at rows n)) (map (λ r. r.number) found))) h.0
    ∙ done_then (added f r made) (in_turn (λ n. added_of_row f (row_at rows n)) (map (λ r. r.number) found)) (in_turn (added f) found)
    (λ (more : List B). made_of_numbers f rows found more h.1)

made_of_found : {B : Type 0} (f : StoredRow → Result B Cause) (rows : List StoredRow) (matching : Result (List StoredRow) Cause) → HeldIn rows matching
    → and_then (and_then matching (λ found. Ok (map (λ r. r.number) found))) (added_of_numbers f rows) ≡ and_then matching (each f)
made_of_found f rows (Ok found) h = made_of_numbers f rows found [] h ∙ collected f found
made_of_found f rows (Err e) h = refl

by_numbers : {B : Type 0} (f : StoredRow → Result B Cause) (scope : Scope) (filter : Cond) (t : ℕ) → Rises 0 scope.rows
    → and_then (numbers_taken scope filter (table_rows scope.rows t)) (added_of_numbers f scope.rows)
    ≡ and_then (matching_rows scope filter (table_rows scope.rows t)) (each f)
by_numbers f scope filter t h =
    ap (λ (r : Result (List ℕ) Cause). and_then r (added_of_numbers f scope.rows)) (numbers_found scope filter (table_rows scope.rows t))
    ∙ made_of_found f scope.rows (matching_rows scope filter (table_rows scope.rows t))
    (held_found scope.rows scope filter (table_rows scope.rows t) (held_filter scope.rows (λ r. r.table == t) scope.rows (held_all 0 scope.rows h)))

found_by_numbers : {B : Type 0} (f : StoredRow → Result B Cause) (scope : Scope) (filter : Cond) (t : ℕ) (rows : List StoredRow) (numbers : List ℕ)
    → Rises 0 scope.rows → scope.rows ≡ rows → numbers_taken scope filter (table_rows scope.rows t) ≡ Ok numbers
    → added_of_numbers f rows numbers ≡ and_then (matching_rows scope filter (table_rows scope.rows t)) (each f)
found_by_numbers f scope filter t rows numbers h same e =
    ap (λ (rs : List StoredRow). added_of_numbers f rs numbers) (sym same)
    ∙ ap (λ (r : Result (List ℕ) Cause). and_then r (added_of_numbers f scope.rows)) (sym e)
    ∙ by_numbers f scope filter t h

-- the numbers were found, and what is made of their rows is what is made of the rows
pub answers_by_numbers : {A B : Type 0} (view : A → List B) (r : Result A Cause) (f : StoredRow → Result B Cause) (scope : Scope) (filter : Cond) (t : ℕ) (rows : List StoredRow) (numbers taken : List ℕ)
    → Rises 0 scope.rows → scope.rows ≡ rows → numbers_taken scope filter (table_rows scope.rows t) ≡ Ok numbers → taken ≡ numbers
    → AnswersCause view r (added_of_numbers f rows taken)
    → AnswersCause view r (and_then (matching_rows scope filter (table_rows scope.rows t)) (each f))
answers_by_numbers view r f scope filter t rows numbers taken h same e lent answered =
    answers_as view r (added_of_numbers f rows taken) (and_then (matching_rows scope filter (table_rows scope.rows t)) (each f))
    (ap (added_of_numbers f rows) lent ∙ found_by_numbers f scope filter t rows numbers h same e) answered

each_mapped : {B : Type 0} (g : StoredRow → B) (r : Result (List StoredRow) Cause) → and_then r (each (λ x. Ok (g x))) ≡ and_then r (λ found. Ok (map g found))
each_mapped g (Ok found) = each_ok g found
each_mapped g (Err c) = refl

-- the same if what is made is never refused
pub answers_by_numbers_made : {A B : Type 0} (view : A → List B) (r : Result A Cause) (g : StoredRow → B) (scope : Scope) (filter : Cond) (t : ℕ) (rows : List StoredRow) (numbers taken : List ℕ)
    → Rises 0 scope.rows → scope.rows ≡ rows → numbers_taken scope filter (table_rows scope.rows t) ≡ Ok numbers → taken ≡ numbers
    → AnswersCause view r (added_of_numbers (λ x. Ok (g x)) rows taken)
    → AnswersCause view r (and_then (matching_rows scope filter (table_rows scope.rows t)) (λ found. Ok (map g found)))
answers_by_numbers_made view r g scope filter t rows numbers taken h same e lent answered =
    answers_as view r (and_then (matching_rows scope filter (table_rows scope.rows t)) (each (λ x. Ok (g x)))) (and_then (matching_rows scope filter (table_rows scope.rows t)) (λ found. Ok (map g found)))
    (each_mapped g (matching_rows scope filter (table_rows scope.rows t)))
    (answers_by_numbers view r (λ x. Ok (g x)) scope filter t rows numbers taken h same e lent answered)

same_refusal : {A B C : Type 0} (r : Result A Cause) (f : A → B) (g : A → Result C Cause) (cause : Cause) → and_then r (λ a. Ok (f a)) ≡ Err cause → and_then r g ≡ Err cause
same_refusal (Ok a) f g cause e = cc
same_refusal (Err c) f g cause e = cc

-- the search for the numbers was refused
pub refused_by_numbers : {C : Type 0} (scope : Scope) (filter : Cond) (t : ℕ) (g : List StoredRow → Result C Cause) (cause : Cause)
    → MatchBool (is_memory_cause cause) (Unit {0}) (numbers_taken scope filter (table_rows scope.rows t) ≡ Err cause)
    → MatchBool (is_memory_cause cause) (Unit {0}) (and_then (matching_rows scope filter (table_rows scope.rows t)) g ≡ Err cause)
refused_by_numbers scope filter t g cause h =
    unless_memory (is_memory_cause cause) (numbers_taken scope filter (table_rows scope.rows t) ≡ Err cause) (and_then (matching_rows scope filter (table_rows scope.rows t)) g ≡ Err cause)
    (λ e. same_refusal (matching_rows scope filter (table_rows scope.rows t)) (λ found. map (λ r. r.number) found) g cause (sym (numbers_found scope filter (table_rows scope.rows t)) ∙ e)) h
