-- The first number above one: in one part, in two parts, and among rising numbers.
use Rattle.std.specs.Prelude.{nat_lt, leb, ◌||◌, slice_get}
use Rattle.std.specs.List.Sorted.{IsPartitionPoint}
use Rattle.std.proofs.Common.{◌≡◌, ◌≢◌, ℕ, zero, suc, ◌+◌, ◌<◌, ◌≤◌, ◌⊎◌, inl, inr, Some, None, List, [], ◌∷◌, ◌++◌, length, drop, filter, get_or, true, false, cond, if◌then◌else◌, arith, refl, ap, sym, ◌∙◌, ⊎_elim, length-append}
use Rattle.std.proofs.lemmas.Bool.{cases_lt, cases_eq, false≢true}
use Rattle.std.proofs.lemmas.Bool.Decides.{nat_tests}
use Rattle.std.proofs.lemmas.Grind.{get_or_default_zero}
use Rattle.iv_numbers.specs.Rows.{IsRising, has_row, number_above}
use Rattle.iv_numbers.proofs.RowsLemmas.{lt_true, lt_false, eq_false, rising_rest}
use Rattle.iv_numbers.proofs.RowsFound.{in_front, in_back}

-- ---- one number in front

above_here : (after x : ℕ) (xs : List ℕ) → after < x → number_above after (x ∷ xs) ≡ Some x
above_here after x xs l = ap (λ b. cond b (Some x) (number_above after xs)) (lt_true after x l)

above_later : (after x : ℕ) (xs : List ℕ) → x ≤ after → number_above after (x ∷ xs) ≡ number_above after xs
above_later after x xs l = ap (λ b. cond b (Some x) (number_above after xs)) (lt_false after x l)

-- ---- by place

-- it stands behind those that aren't above
above_place : (after i : ℕ) (xs : List ℕ) → i ≤ length xs → ((k : ℕ) → k < i → get_or xs k 0 ≤ after) → (i < length xs → after < get_or xs i 0)
    → slice_get xs i ≡ number_above after xs
above_place after zero [] le below above = refl
above_place after (suc i) [] le below above = absurd (omega arith)
above_place after zero (x ∷ xs) le below above = sym (above_here after x xs (above (omega arith)))
above_place after (suc i) (x ∷ xs) le below above =
    above_place after i xs (omega arith) (λ k l. below (suc k) (omega arith)) (λ l. above (omega arith)) ∙ sym (above_later after x xs (below zero (omega arith)))

-- the first of the numbers from a place on
pub first_from : (i : ℕ) (xs : List ℕ) → slice_get (drop i xs) 0 ≡ slice_get xs i
first_from zero xs = refl
first_from (suc i) [] = refl
first_from (suc i) (x ∷ xs) = first_from i xs

le_tells : (a b : ℕ) → ((leb a b ≡ true) × (a ≤ b)) ⊎ ((leb a b ≡ false) × (b < a))
le_tells a b = grind (arith, nat_tests)

pub above_point : (after i : ℕ) (xs : List ℕ) → i ≤ length xs → IsPartitionPoint (λ y. leb y after ≡ true) (λ y. leb y after ≡ false) xs i
    → slice_get xs i ≡ number_above after xs
above_point after i xs le point =
    above_place after i xs le (λ k l. below (get_or xs k 0) (point.0 k 0 (omega arith) l)) (λ l. above (get_or xs i 0) (point.1 i 0 (omega arith) l))
  where
    below : (y : ℕ) → leb y after ≡ true → y ≤ after
    below y e = ⊎_elim (λ t. t.1) (λ f. absurd (false≢true (sym f.0 ∙ e))) (le_tells y after)

    above : (y : ℕ) → leb y after ≡ false → after < y
    above y e = ⊎_elim (λ t. absurd (false≢true (sym e ∙ t.0))) (λ f. f.1) (le_tells y after)

-- a later number isn't below an earlier one
pub never_falls : (xs : List ℕ) → IsRising xs → (i j d : ℕ) → i ≤ j → j < length xs → get_or xs i d ≤ get_or xs j d
never_falls [] rising i j d le l = absurd (omega arith)
never_falls (x ∷ xs) rising zero zero d le l = omega arith
never_falls (x ∷ xs) rising zero (suc j) d le l = let lt : x < get_or xs j 0 = rising zero (suc j) (omega arith) (omega arith) in
    let same : get_or xs j 0 ≡ get_or xs j d = sym (get_or_default_zero xs j d (omega arith)) in omega arith
never_falls (x ∷ xs) rising (suc i) zero d le l = absurd (omega arith)
never_falls (x ∷ xs) rising (suc i) (suc j) d le l = never_falls xs (rising_rest x xs rising) i j d (omega arith) (omega arith)

-- behind a number that is among them
pub above_found : (after i : ℕ) (xs : List ℕ) → IsRising xs → i < length xs → get_or xs i 0 ≡ after → slice_get xs (i + 1) ≡ number_above after xs
above_found after i xs rising l is =
    above_place after (i + 1) xs (omega (arith, l)) (λ k m. (let n : get_or xs k 0 ≤ get_or xs i 0 = never_falls xs rising k i 0 (omega (arith, m)) l in omega (arith, n, is)))
    (λ m. (let n : get_or xs i 0 < get_or xs (i + 1) 0 = rising i (i + 1) (omega arith) m in omega (arith, n, is)))

-- ---- in two parts

-- none of the first part is above
pub above_behind : (after : ℕ) (xs ys : List ℕ) → ((k : ℕ) → k < length xs → get_or xs k 0 ≤ after) → number_above after (xs ++ ys) ≡ number_above after ys
above_behind after [] ys below = refl
above_behind after (x ∷ xs) ys below =
    above_later after x (xs ++ ys) (below zero (omega arith)) ∙ above_behind after xs ys (λ k l. below (suc k) (omega arith))

pub above_back : (after : ℕ) (xs ys : List ℕ) → IsRising (xs ++ ys) → 0 < length ys → get_or ys 0 0 ≤ after → number_above after (xs ++ ys) ≡ number_above after ys
above_back after xs ys rising some first = above_behind after xs ys (λ k l. (
    let n = length-append xs ys in
    let f = in_front xs ys k l in
    let b = in_back xs ys (length xs) 0 (omega arith) in
    omega (arith, rising k (length xs) l (omega arith))))

-- one of the first part is
pub above_front : (after n : ℕ) (xs ys : List ℕ) → number_above after xs ≡ Some n → number_above after (xs ++ ys) ≡ Some n
above_front after n [] ys e = cc
above_front after n (x ∷ xs) ys e = ⊎_elim
    (λ (l : after < x). above_here after x (xs ++ ys) l ∙ sym (above_here after x xs l) ∙ e)
    (λ (g : x ≤ after). above_later after x (xs ++ ys) g ∙ above_front after n xs ys (sym (above_later after x xs g) ∙ e))
    (cases_lt after x)

-- none of the first part is, and all of the second are
pub above_first : (after : ℕ) (xs ys : List ℕ) → number_above after xs ≡ None → (0 < length ys → after < get_or ys 0 0) → slice_get ys 0 ≡ number_above after (xs ++ ys)
above_first after [] [] e above = refl
above_first after [] (y ∷ ys) e above = sym (above_here after y ys (above (omega arith)))
above_first after (x ∷ xs) ys e above = ⊎_elim
    (λ (l : after < x). let bad : Some x ≡ None = sym (above_here after x xs l) ∙ e in cc)
    (λ (g : x ≤ after). above_first after xs ys (sym (above_later after x xs g) ∙ e) above ∙ sym (above_later after x (xs ++ ys) g))
    (cases_lt after x)

-- ---- among rising numbers

pub is_above : (after n : ℕ) (xs : List ℕ) → number_above after xs ≡ Some n → after < n
is_above after n [] e = cc
is_above after n (x ∷ xs) e = ⊎_elim
    (λ (l : after < x). let it : Some x ≡ Some n = sym (above_here after x xs l) ∙ e in let same : x ≡ n = cc in omega arith)
    (λ (g : x ≤ after). is_above after n xs (sym (above_later after x xs g) ∙ e))
    (cases_lt after x)

-- a number of others is the first, or among the rest
among : (m x : ℕ) (xs : List ℕ) → has_row m (x ∷ xs) ≡ true → (x ≡ m) ⊎ (has_row m xs ≡ true)
among m x xs e = ⊎_elim
    (λ (q : x ≡ m). inl q)
    (λ (n : x ≢ m). inr (sym (ap (λ b. b || has_row m xs) (eq_false x m n)) ∙ e))
    (cases_eq x m)

not_below_first : (m x : ℕ) (xs : List ℕ) → IsRising (x ∷ xs) → has_row m (x ∷ xs) ≡ true → x ≤ m
not_below_first m x [] rising e = ⊎_elim (λ (q : x ≡ m). omega arith) (λ f. absurd (false≢true f)) (among m x [] e)
not_below_first m x (y ∷ xs) rising e = ⊎_elim
    (λ (q : x ≡ m). omega arith)
    (λ (f : has_row m (y ∷ xs) ≡ true).
    let le : y ≤ m = not_below_first m y xs (rising_rest x (y ∷ xs) rising) f in
    let lt : x < y = rising zero (suc zero) (omega arith) (omega arith) in omega arith)
    (among m x (y ∷ xs) e)

-- each number above is it, or above it
pub above_least : (after n m : ℕ) (xs : List ℕ) → IsRising xs → number_above after xs ≡ Some n → has_row m xs ≡ true → after < m → n ≤ m
above_least after n m [] rising e has l = cc
above_least after n m (x ∷ xs) rising e has l = ⊎_elim
    (λ (lt : after < x). let it : Some x ≡ Some n = sym (above_here after x xs lt) ∙ e in let same : x ≡ n = cc in
    let le : x ≤ m = not_below_first m x xs rising has in omega arith)
    (λ (g : x ≤ after). ⊎_elim
    (λ (q : x ≡ m). absurd (omega arith))
    (λ (f : has_row m xs ≡ true). above_least after n m xs (rising_rest x xs rising) (sym (above_later after x xs g) ∙ e) f l)
    (among m x xs has))
    (cases_lt after x)

-- there is none
pub above_none : (after m : ℕ) (xs : List ℕ) → number_above after xs ≡ None → has_row m xs ≡ true → after < m → ⊥
above_none after m [] e has l = absurd (false≢true has)
above_none after m (x ∷ xs) e has l = ⊎_elim
    (λ (lt : after < x). let bad : Some x ≡ None = sym (above_here after x xs lt) ∙ e in cc)
    (λ (g : x ≤ after). ⊎_elim
    (λ (q : x ≡ m). absurd (omega arith))
    (λ (f : has_row m xs ≡ true). above_none after m xs (sym (above_later after x xs g) ∙ e) f l)
    (among m x xs has))
    (cases_lt after x)

-- ---- how many are above

counted_above : (after x : ℕ) (xs : List ℕ) → after < x → length (filter (λ r. nat_lt after r) (x ∷ xs)) ≡ suc (length (filter (λ r. nat_lt after r) xs))
counted_above after x xs l = ap (λ b. length (if b then x ∷ filter (λ r. nat_lt after r) xs else filter (λ r. nat_lt after r) xs)) (lt_true after x l)

passed_above : (after x : ℕ) (xs : List ℕ) → x ≤ after → length (filter (λ r. nat_lt after r) (x ∷ xs)) ≡ length (filter (λ r. nat_lt after r) xs)
passed_above after x xs l = ap (λ b. length (if b then x ∷ filter (λ r. nat_lt after r) xs else filter (λ r. nat_lt after r) xs)) (lt_false after x l)

no_more_above : (after n : ℕ) (xs : List ℕ) → after ≤ n → length (filter (λ r. nat_lt n r) xs) ≤ length (filter (λ r. nat_lt after r) xs)
no_more_above after n [] le = omega arith
no_more_above after n (x ∷ xs) le = let rest = no_more_above after n xs le in ⊎_elim
    (λ (l : n < x). let a = counted_above n x xs l in let b = counted_above after x xs (omega arith) in omega arith)
    (λ (g : x ≤ n). let a = passed_above n x xs g in ⊎_elim
    (λ (l : after < x). let b = counted_above after x xs l in omega arith)
    (λ (h : x ≤ after). let b = passed_above after x xs h in omega arith)
    (cases_lt after x))
    (cases_lt n x)

-- there are fewer above the next one
pub fewer_above : (after n : ℕ) (xs : List ℕ) → number_above after xs ≡ Some n → length (filter (λ r. nat_lt n r) xs) < length (filter (λ r. nat_lt after r) xs)
fewer_above after n [] e = cc
fewer_above after n (x ∷ xs) e = ⊎_elim
    (λ (l : after < x). let it : Some x ≡ Some n = sym (above_here after x xs l) ∙ e in let same : x ≡ n = cc in
    let a = passed_above n x xs (omega arith) in let b = counted_above after x xs l in let rest = no_more_above after n xs (omega arith) in omega arith)
    (λ (g : x ≤ after). let next : number_above after xs ≡ Some n = sym (above_later after x xs g) ∙ e in
    let further : after < n = is_above after n xs next in
    let a = passed_above n x xs (omega arith) in let b = passed_above after x xs g in let rest = fewer_above after n xs next in omega arith)
    (cases_lt after x)
