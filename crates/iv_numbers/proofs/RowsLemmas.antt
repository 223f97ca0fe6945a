-- Where a number stands among rising ones.
use Rattle.std.specs.Prelude.{nat_lt, ◌==◌, ◌||◌}
use Rattle.std.proofs.Common.{◌≡◌, ◌≢◌, ℕ, zero, suc, ◌<◌, ◌≤◌, List, [], ◌∷◌, length, insert, remove, get_or, Bool, true, false, cond, arith, rules, refl, ap, sym, ◌∙◌}
use Rattle.std.proofs.lemmas.Bool.{eq-eqb}
use Rattle.iv_numbers.specs.Rows.{IsRising, has_row, with_row, without_row}

pub lt_true : (a b : ℕ) → a < b → nat_lt a b ≡ true
lt_true a b h = search rules

pub lt_false : (a b : ℕ) → b ≤ a → nat_lt a b ≡ false
lt_false a b h = search rules

pub eq_false : (a b : ℕ) → a ≢ b → (a == b) ≡ false
eq_false a b h = search rules

pub rising_rest : (x : ℕ) (xs : List ℕ) → IsRising (x ∷ xs) → IsRising xs
rising_rest x xs h i j lt l = h (suc i) (suc j) (omega arith) (omega arith)

-- a number put in between those that are below it and those that are above
pub inserted_is : (xs : List ℕ) (at r : ℕ) → at ≤ length xs → ((k : ℕ) → k < at → get_or xs k 0 < r) → ((k : ℕ) → at ≤ k → k < length xs → r < get_or xs k 0) → insert xs at r ≡ with_row r xs
inserted_is [] zero r l below above = refl
inserted_is [] (suc at) r l below above = absurd (omega arith)
inserted_is (x ∷ xs) zero r l below above = sym (ap (λ b. cond b (r ∷ x ∷ xs) (x ∷ with_row r xs)) (lt_true r x (above zero (omega arith) (omega arith))))
inserted_is (x ∷ xs) (suc at) r l below above =
    let first : x < r = below zero (omega arith) in
    let le : x ≤ r = omega arith in
    ap (λ (rest : List ℕ). x ∷ rest) (inserted_is xs at r (omega arith) (λ k h. below (suc k) (omega arith)) (λ k h g. above (suc k) (omega arith) (omega arith)))
    ∙ sym (ap (λ b. cond b (r ∷ x ∷ xs) (x ∷ with_row r xs)) (lt_false r x le))

-- it isn't among them
pub absent_is : (xs : List ℕ) (at r : ℕ) → at ≤ length xs → ((k : ℕ) → k < at → get_or xs k 0 < r) → ((k : ℕ) → at ≤ k → k < length xs → r < get_or xs k 0) → has_row r xs ≡ false
absent_is [] at r l below above = refl
absent_is (x ∷ xs) zero r l below above =
    let first : r < x = above zero (omega arith) (omega arith) in
    let ne : x ≢ r = λ (e : x ≡ r). absurd (omega arith) in
    ap (λ b. b || has_row r xs) (eq_false x r ne) ∙ absent_is xs zero r (omega arith) (λ k h. absurd (omega arith)) (λ k h g. above (suc k) (omega arith) (omega arith))
absent_is (x ∷ xs) (suc at) r l below above =
    let first : x < r = below zero (omega arith) in
    let ne : x ≢ r = λ (e : x ≡ r). absurd (omega arith) in
    ap (λ b. b || has_row r xs) (eq_false x r ne) ∙ absent_is xs at r (omega arith) (λ k h. below (suc k) (omega arith)) (λ k h g. above (suc k) (omega arith) (omega arith))

-- the number at a place is among them
pub present_is : (xs : List ℕ) (at r : ℕ) → at < length xs → get_or xs at 0 ≡ r → has_row r xs ≡ true
present_is [] at r l e = absurd (omega arith)
present_is (x ∷ xs) zero r l e = ap (λ b. b || has_row r xs) (eq-eqb x r e)
present_is (x ∷ xs) (suc at) r l e = ap (λ b. (x == r) || b) (present_is xs at r (omega arith) e) ∙ or_true (x == r)
  where
    or_true : (b : Bool) → (b || true) ≡ true
    or_true true = refl
    or_true false = refl

-- the numbers without the one at a place
pub removed_is : (xs : List ℕ) (at r : ℕ) → at < length xs → IsRising xs → get_or xs at 0 ≡ r → remove xs at ≡ without_row r xs
removed_is [] at r l rising e = absurd (omega arith)
removed_is (x ∷ xs) zero r l rising e = sym (ap (λ b. cond b xs (x ∷ without_row r xs)) (eq-eqb x r e))
removed_is (x ∷ xs) (suc at) r l rising e =
    let first : x < get_or xs at 0 = rising zero (suc at) (omega arith) (omega arith) in
    let ne : x ≢ r = λ (q : x ≡ r). absurd (omega arith) in
    ap (λ (rest : List ℕ). x ∷ rest) (removed_is xs at r (omega arith) (rising_rest x xs rising) e)
    ∙ sym (ap (λ b. cond b xs (x ∷ without_row r xs)) (eq_false x r ne))
