-- Numbers still rise with one more and with one less.
use Rattle.std.specs.Prelude.{◌==◌}
use Rattle.std.proofs.Common.{◌≡◌, ◌≢◌, ℕ, zero, suc, ◌+◌, ◌<◌, ◌≤◌, List, [], ◌∷◌, ◌++◌, length, insert, remove, get_or, take, drop, Bool, true, false, cond, arith, refl, ap, sym, ◌∙◌, ⊎_elim, subst}
use Rattle.std.proofs.lemmas.Bool.{cases_lt, cases_eq, false≢true, eq-eqb, or_parts}
use Rattle.std.proofs.lemmas.List.{take_at}
use Rattle.iv_numbers.specs.declared.gap_layout.GapLayout.{GapLayout}
use Rattle.iv_numbers.specs.Rows.{Rows, IsRising, added, has_row, put, roomy, with_row, without_row}
use Rattle.iv_numbers.specs.Kept.{IsKept}
use Rattle.iv_numbers.specs.GapLayout.{AreWithin, held, size}
use Rattle.iv_numbers.proofs.RowsLemmas.{rising_rest, lt_true, lt_false, eq_false}

-- a number is below all of these
abbrev Below : ℕ → List ℕ → Type 0
Below x xs = (k : ℕ) → k < length xs → x < get_or xs k 0

below_first : (x : ℕ) (xs : List ℕ) → IsRising (x ∷ xs) → Below x xs
below_first x xs h k l = h zero (suc k) (omega arith) (omega arith)

rising_more : (x : ℕ) (xs : List ℕ) → Below x xs → IsRising xs → IsRising (x ∷ xs)
rising_more x xs b h zero zero lt l = absurd (omega arith)
rising_more x xs b h zero (suc j) lt l = b j (omega arith)
rising_more x xs b h (suc i) zero lt l = absurd (omega arith)
rising_more x xs b h (suc i) (suc j) lt l = h i j (omega arith) (omega arith)

below_more : (x y : ℕ) (xs : List ℕ) → x < y → Below x xs → Below x (y ∷ xs)
below_more x y xs lt b zero l = lt
below_more x y xs lt b (suc k) l = b k (omega arith)

below_rest : (x y : ℕ) (xs : List ℕ) → Below x (y ∷ xs) → Below x xs
below_rest x y xs b k l = b (suc k) (omega arith)

below_with : (x r : ℕ) (xs : List ℕ) → x < r → Below x xs → Below x (with_row r xs)
below_with x r [] lt b = below_more x r [] lt b
below_with x r (y ∷ xs) lt b = ⊎_elim
    (λ (l : r < y). subst (Below x) (sym (ap (λ t. cond t (r ∷ y ∷ xs) (y ∷ with_row r xs)) (lt_true r y l))) (below_more x r (y ∷ xs) lt b))
    (λ (g : y ≤ r). subst (Below x) (sym (ap (λ t. cond t (r ∷ y ∷ xs) (y ∷ with_row r xs)) (lt_false r y g))) (below_more x y (with_row r xs) (b zero (omega arith)) (below_with x r xs lt (below_rest x y xs b))))
    (cases_lt r y)

below_without : (x r : ℕ) (xs : List ℕ) → Below x xs → Below x (without_row r xs)
below_without x r [] b = b
below_without x r (y ∷ xs) b = ⊎_elim
    (λ (e : y ≡ r). subst (Below x) (sym (ap (λ t. cond t xs (y ∷ without_row r xs)) (eq-eqb y r e))) (below_rest x y xs b))
    (λ (n : y ≢ r). subst (Below x) (sym (ap (λ t. cond t xs (y ∷ without_row r xs)) (eq_false y r n))) (below_more x y (without_row r xs) (b zero (omega arith)) (below_without x r xs (below_rest x y xs b))))
    (cases_eq y r)

pub rising_none : IsRising []
rising_none i j lt l = absurd (omega arith)

pub rising_with : (r : ℕ) (xs : List ℕ) → has_row r xs ≡ false → IsRising xs → IsRising (with_row r xs)
rising_with r [] n h = rising_more r [] (λ k l. absurd (omega arith)) h
rising_with r (y ∷ xs) n h = let parts = or_parts (y == r) (has_row r xs) n in ⊎_elim
    (λ (l : r < y). let below : Below r (y ∷ xs) = below_more r y xs l (λ k g. (let q : y < get_or xs k 0 = below_first y xs h k g in omega arith)) in
    subst IsRising (sym (ap (λ t. cond t (r ∷ y ∷ xs) (y ∷ with_row r xs)) (lt_true r y l))) (rising_more r (y ∷ xs) below h))
    (λ (g : y ≤ r). let ne : y ≢ r = λ (e : y ≡ r). absurd (false≢true (sym parts.0 ∙ eq-eqb y r e)) in
    let lt : y < r = omega arith in
    subst IsRising (sym (ap (λ t. cond t (r ∷ y ∷ xs) (y ∷ with_row r xs)) (lt_false r y g)))
    (rising_more y (with_row r xs) (below_with y r xs lt (below_first y xs h)) (rising_with r xs parts.1 (rising_rest y xs h))))
    (cases_lt r y)

pub rising_without : (r : ℕ) (xs : List ℕ) → IsRising xs → IsRising (without_row r xs)
rising_without r [] h = h
rising_without r (y ∷ xs) h = ⊎_elim
    (λ (e : y ≡ r). subst IsRising (sym (ap (λ t. cond t xs (y ∷ without_row r xs)) (eq-eqb y r e))) (rising_rest y xs h))
    (λ (n : y ≢ r). subst IsRising (sym (ap (λ t. cond t xs (y ∷ without_row r xs)) (eq_false y r n)))
    (rising_more y (without_row r xs) (below_without y r xs (below_first y xs h)) (rising_without r xs (rising_rest y xs h))))
    (cases_eq y r)

pub rising_put : (r : ℕ) (held : Rows) → IsRising held.rows → IsRising (put r held).rows
rising_put r held h = by_test (has_row r held.rows) refl
  where
    by_test : (b : Bool) → has_row r held.rows ≡ b → IsRising (cond b held (added r held)).rows
    by_test true e = h
    by_test false e = rising_with r held.rows e h

pub rising_roomy : (held : Rows) → IsRising held.rows → IsRising (roomy held).rows
rising_roomy held h = by_test (held.room == 0)
  where
    by_test : (b : Bool) → IsRising (cond b (record { rows = held.rows; room = 1 }) held).rows
    by_test true = h
    by_test false = h

-- a whole list whose slice was changed is what the slice became
pub whole_after : (new old : List ℕ) (n : ℕ) → length new ≡ n → take n (new ++ drop (length new) old) ≡ new
whole_after new old n e = take_at new (drop (length new) old) n e

-- a number was inserted
pub kept_inserted : (places new : List ℕ) (live live' : GapLayout) (room room' at r : ℕ) → IsKept places live room → length new ≡ length places → AreWithin live' (length new)
    → size live' ≡ size live + 1 → held new live' ≡ insert (held places live) at r → insert (held places live) at r ≡ with_row r (held places live)
    → has_row r (held places live) ≡ false → room' < room → IsKept new live' room'
kept_inserted places new live live' room room' at r k len w count held_is with_is absent less = record {
  within = w;
  room = omega (arith, k.room);
  rising = subst IsRising (sym (held_is ∙ with_is)) (rising_with r (held places live) absent k.rising);
}

-- a number was removed
pub kept_removed : (places new : List ℕ) (live live' : GapLayout) (room at r : ℕ) → IsKept places live room → length new ≡ length places → AreWithin live' (length new)
    → size live' + 1 ≡ size live → held new live' ≡ remove (held places live) at → remove (held places live) at ≡ without_row r (held places live)
    → IsKept new live' (room + 1)
kept_removed places new live live' room at r k len w count held_is without_is = record {
  within = w;
  room = omega (arith, k.room);
  rising = subst IsRising (sym (held_is ∙ without_is)) (rising_without r (held places live) k.rising);
}

-- the numbers stand otherwise, and are the same
pub kept_moved : (places new : List ℕ) (live live' : GapLayout) (room : ℕ) → IsKept places live room → length new ≡ length places → AreWithin live' (length new)
    → size live' ≡ size live → held new live' ≡ held places live → IsKept new live' room
kept_moved places new live live' room k len w count held_is = record {
  within = w;
  room = omega (arith, k.room);
  rising = subst IsRising (sym held_is) k.rising;
}
