-- What is among the numbers with one more, and without one.
use Rattle.std.specs.Prelude.{◌==◌, ◌||◌}
use Rattle.std.proofs.Common.{◌≡◌, ◌≢◌, ℕ, ◌<◌, ◌≤◌, List, [], ◌∷◌, true, false, cond, refl, ap, sym, ◌∙◌, ⊎_elim}
use Rattle.std.proofs.lemmas.Bool.{cases_lt, cases_eq, false≢true, eq-eqb, or_left, or_right, or_cases}
use Rattle.iv_numbers.specs.Rows.{has_row, with_row, without_row}
use Rattle.iv_numbers.proofs.RowsLemmas.{lt_true, lt_false, eq_false}

with_before : (r x : ℕ) (xs : List ℕ) → r < x → with_row r (x ∷ xs) ≡ r ∷ x ∷ xs
with_before r x xs l = ap (λ b. cond b (r ∷ x ∷ xs) (x ∷ with_row r xs)) (lt_true r x l)

with_behind : (r x : ℕ) (xs : List ℕ) → x ≤ r → with_row r (x ∷ xs) ≡ x ∷ with_row r xs
with_behind r x xs l = ap (λ b. cond b (r ∷ x ∷ xs) (x ∷ with_row r xs)) (lt_false r x l)

-- a number that was added is there
pub has_added : (r : ℕ) (xs : List ℕ) → has_row r (with_row r xs) ≡ true
has_added r [] = or_left (r == r) false (eq-eqb r r refl)
has_added r (x ∷ xs) = ⊎_elim
    (λ (l : r < x). ap (has_row r) (with_before r x xs l) ∙ or_left (r == r) (has_row r (x ∷ xs)) (eq-eqb r r refl))
    (λ (g : x ≤ r). ap (has_row r) (with_behind r x xs g) ∙ or_right (x == r) (has_row r (with_row r xs)) (has_added r xs))
    (cases_lt r x)

-- the others are so still
pub has_still : (r m : ℕ) (xs : List ℕ) → has_row m xs ≡ true → has_row m (with_row r xs) ≡ true
has_still r m [] e = absurd (false≢true e)
has_still r m (x ∷ xs) e = ⊎_elim
    (λ (l : r < x). ap (has_row m) (with_before r x xs l) ∙ or_right (r == m) (has_row m (x ∷ xs)) e)
    (λ (g : x ≤ r). ap (has_row m) (with_behind r x xs g) ∙ ⊎_elim
    (λ (h : (x == m) ≡ true). or_left (x == m) (has_row m (with_row r xs)) h)
    (λ (h : has_row m xs ≡ true). or_right (x == m) (has_row m (with_row r xs)) (has_still r m xs h))
    (or_cases (x == m) (has_row m xs) e))
    (cases_lt r x)

-- without one of them the others are there still
pub has_others : (r m : ℕ) (xs : List ℕ) → m ≢ r → has_row m xs ≡ true → has_row m (without_row r xs) ≡ true
has_others r m [] d e = e
has_others r m (x ∷ xs) d e = ⊎_elim
    (λ (q : x ≡ r). ap (λ b. has_row m (cond b xs (x ∷ without_row r xs))) (eq-eqb x r q)
    ∙ (let other : x ≢ m = λ (p : x ≡ m). d (sym p ∙ q) in sym (ap (λ b. b || has_row m xs) (eq_false x m other)) ∙ e))
    (λ (n : x ≢ r). ap (λ b. has_row m (cond b xs (x ∷ without_row r xs))) (eq_false x r n) ∙ ⊎_elim
    (λ (h : (x == m) ≡ true). or_left (x == m) (has_row m (without_row r xs)) h)
    (λ (h : has_row m xs ≡ true). or_right (x == m) (has_row m (without_row r xs)) (has_others r m xs d h))
    (or_cases (x == m) (has_row m xs) e))
    (cases_eq x r)
