-- A number that was removed and added, or added and removed, leaves the numbers as they were.
use Rattle.std.specs.Prelude.{◌==◌, ◌||◌}
use Rattle.std.proofs.Common.{◌≡◌, ◌≢◌, ℕ, zero, suc, ◌<◌, ◌≤◌, List, [], ◌∷◌, length, get_or, true, false, cond, arith, refl, ap, sym, ◌∙◌, ⊎_elim}
use Rattle.std.proofs.lemmas.Bool.{cases_lt, cases_eq, false≢true, eq-eqb, or_parts}
use Rattle.iv_numbers.specs.Rows.{IsRising, has_row, with_row, without_row}
use Rattle.iv_numbers.proofs.RowsLemmas.{rising_rest, lt_true, lt_false, eq_false}

with_first : (r : ℕ) (xs : List ℕ) → ((k : ℕ) → k < length xs → r < get_or xs k 0) → with_row r xs ≡ r ∷ xs
with_first r [] b = refl
with_first r (x ∷ xs) b = ap (λ t. cond t (r ∷ x ∷ xs) (x ∷ with_row r xs)) (lt_true r x (b zero (omega arith)))

above_first : (x r : ℕ) (xs : List ℕ) → ((k : ℕ) → k < length xs → x < get_or xs k 0) → has_row r xs ≡ true → x < r
above_first x r [] b h = absurd (false≢true h)
above_first x r (y ∷ ys) b h = ⊎_elim
    (λ (e : y ≡ r). let lt : x < y = b zero (omega arith) in omega arith)
    (λ (n : y ≢ r). above_first x r ys (λ k l. b (suc k) (omega arith)) (sym (ap (λ t. t || has_row r ys) (eq_false y r n)) ∙ h))
    (cases_eq y r)

-- a number that was removed and added
pub with_without : (r : ℕ) (xs : List ℕ) → IsRising xs → has_row r xs ≡ true → with_row r (without_row r xs) ≡ xs
with_without r [] rising h = absurd (false≢true h)
with_without r (x ∷ xs) rising h = ⊎_elim
    (λ (e : x ≡ r). ap (with_row r) (ap (λ t. cond t xs (x ∷ without_row r xs)) (eq-eqb x r e))
    ∙ with_first r xs (λ k l. (let lt : x < get_or xs k 0 = rising zero (suc k) (omega arith) (omega arith) in omega arith))
    ∙ ap (λ (n : ℕ). n ∷ xs) (sym e))
    (λ (n : x ≢ r).
    let rest : has_row r xs ≡ true = sym (ap (λ t. t || has_row r xs) (eq_false x r n)) ∙ h in
    let lt : x < r = above_first x r xs (λ k l. rising zero (suc k) (omega arith) (omega arith)) rest in
    let le : x ≤ r = omega arith in
    ap (with_row r) (ap (λ t. cond t xs (x ∷ without_row r xs)) (eq_false x r n))
    ∙ ap (λ t. cond t (r ∷ x ∷ without_row r xs) (x ∷ with_row r (without_row r xs))) (lt_false r x le)
    ∙ ap (λ (ys : List ℕ). x ∷ ys) (with_without r xs (rising_rest x xs rising) rest))
    (cases_eq x r)

-- a number that was added and removed
pub without_with : (r : ℕ) (xs : List ℕ) → has_row r xs ≡ false → without_row r (with_row r xs) ≡ xs
without_with r [] h = ap (λ t. cond t [] (r ∷ [])) (eq-eqb r r refl)
without_with r (x ∷ xs) h = let parts = or_parts (x == r) (has_row r xs) h in ⊎_elim
    (λ (l : r < x). ap (without_row r) (ap (λ t. cond t (r ∷ x ∷ xs) (x ∷ with_row r xs)) (lt_true r x l)) ∙ ap (λ t. cond t (x ∷ xs) (r ∷ without_row r (x ∷ xs))) (eq-eqb r r refl))
    (λ (g : x ≤ r). ap (without_row r) (ap (λ t. cond t (r ∷ x ∷ xs) (x ∷ with_row r xs)) (lt_false r x g))
    ∙ ap (λ t. cond t (with_row r xs) (x ∷ without_row r (with_row r xs))) parts.0 ∙ ap (λ (ys : List ℕ). x ∷ ys) (without_with r xs parts.1))
    (cases_lt r x)

pub length_with : (r : ℕ) (xs : List ℕ) → length (with_row r xs) ≡ suc (length xs)
length_with r [] = refl
length_with r (x ∷ xs) = ⊎_elim
    (λ (l : r < x). ap (λ t. length (cond t (r ∷ x ∷ xs) (x ∷ with_row r xs))) (lt_true r x l))
    (λ (g : x ≤ r). ap (λ t. length (cond t (r ∷ x ∷ xs) (x ∷ with_row r xs))) (lt_false r x g) ∙ ap suc (length_with r xs))
    (cases_lt r x)

pub length_without : (r : ℕ) (xs : List ℕ) → has_row r xs ≡ true → suc (length (without_row r xs)) ≡ length xs
length_without r [] h = absurd (false≢true h)
length_without r (x ∷ xs) h = ⊎_elim
    (λ (e : x ≡ r). ap (λ t. suc (length (cond t xs (x ∷ without_row r xs)))) (eq-eqb x r e))
    (λ (n : x ≢ r). ap (λ t. suc (length (cond t xs (x ∷ without_row r xs)))) (eq_false x r n)
    ∙ ap suc (length_without r xs (sym (ap (λ t. t || has_row r xs) (eq_false x r n)) ∙ h)))
    (cases_eq x r)

absent_above : (r : ℕ) (xs : List ℕ) → ((k : ℕ) → k < length xs → r < get_or xs k 0) → has_row r xs ≡ false
absent_above r [] b = refl
absent_above r (x ∷ xs) b =
    let lt : r < x = b zero (omega arith) in
    let ne : x ≢ r = λ (e : x ≡ r). absurd (omega arith) in
    ap (λ t. t || has_row r xs) (eq_false x r ne) ∙ absent_above r xs (λ k l. b (suc k) (omega arith))

-- a number that was removed isn't there
pub absent_without : (r : ℕ) (xs : List ℕ) → IsRising xs → has_row r (without_row r xs) ≡ false
absent_without r [] rising = refl
absent_without r (x ∷ xs) rising = ⊎_elim
    (λ (e : x ≡ r). ap (has_row r) (ap (λ t. cond t xs (x ∷ without_row r xs)) (eq-eqb x r e))
    ∙ absent_above r xs (λ k l. (let lt : x < get_or xs k 0 = rising zero (suc k) (omega arith) (omega arith) in omega arith)))
    (λ (n : x ≢ r). ap (has_row r) (ap (λ t. cond t xs (x ∷ without_row r xs)) (eq_false x r n))
    ∙ ap (λ t. t || has_row r (without_row r xs)) (eq_false x r n) ∙ absent_without r xs (rising_rest x xs rising))
    (cases_eq x r)
