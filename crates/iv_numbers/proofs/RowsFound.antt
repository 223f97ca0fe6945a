-- A search among rising numbers, in one of two parts.
use Rattle.std.specs.Prelude.{slice_index, Result, Ok, Err, MatchResult}
use Rattle.std.proofs.Common.{◌≡◌, ℕ, ◌+◌, ◌-◌, ◌<◌, ◌≤◌, List, ◌++◌, length, get_or, arith, ⊎_elim, ap, ◌∙◌, refl, length-append}
use Rattle.std.proofs.lemmas.Bool.{cases_lt}
use Rattle.std.proofs.lemmas.List.{get_or_append_left, get_or-append_right}
use Rattle.iv_numbers.specs.Rows.{IsRising, Found}
use Rattle.iv_numbers.specs.Search.{further}
use Rattle.iv_numbers.proofs.RowsLemmas.{inserted_is, absent_is, present_is, removed_is}

pub not_falling : (xs : List ℕ) → IsRising xs → (i j : ℕ) → i ≤ j → j < length xs → get_or xs i 0 ≤ get_or xs j 0
not_falling xs rising i j le l = ⊎_elim
    (λ (lt : i < j). omega (arith, rising i j lt l))
    (λ (ge : j ≤ i). let e : i ≡ j = omega arith in let q : get_or xs i 0 ≡ get_or xs j 0 = ap (λ (x : ℕ). get_or xs x 0) e in omega arith)
    (cases_lt i j)

-- where a number stands among others, or where it would stand
abbrev pub Stands : List ℕ → ℕ → Result ℕ ℕ → Type 0
Stands rows row said = MatchResult said
    (λ at. (at < length rows) × (slice_index rows at ≡ row))
    (λ at. (at ≤ length rows) × ((k : ℕ) → k < at → slice_index rows k < row) × ((k : ℕ) → at ≤ k → k < length rows → row < slice_index rows k))

found_of : (xs : List ℕ) (r : ℕ) (said : Result ℕ ℕ) → IsRising xs → Stands xs r said → Found xs r said
found_of xs r (Ok at) rising (l, e) = (present_is xs at r l e, l, removed_is xs at r l rising e)
found_of xs r (Err at) rising (l, below, above) = (absent_is xs at r l below above, l, inserted_is xs at r l below above)

pub in_front : (xs ys : List ℕ) (k : ℕ) → k < length xs → get_or (xs ++ ys) k 0 ≡ get_or xs k 0
in_front xs ys k l = get_or_append_left xs ys 0 k l

pub in_back : (xs ys : List ℕ) (k i : ℕ) → k ≡ length xs + i → get_or (xs ++ ys) k 0 ≡ get_or ys i 0
in_back xs ys k i e = get_or-append_right xs ys (length xs) k 0 refl (omega arith) ∙ ap (λ (x : ℕ). get_or ys x 0) (let q : k - length xs ≡ i = omega arith in q)

pub rising_front : (xs ys : List ℕ) → IsRising (xs ++ ys) → IsRising xs
rising_front xs ys rising i j lt l =
    let n = length-append xs ys in
    let a = in_front xs ys i (omega arith) in let b = in_front xs ys j l in
    omega (arith, rising i j lt (omega arith))

pub rising_back : (xs ys : List ℕ) → IsRising (xs ++ ys) → IsRising ys
rising_back xs ys rising i j lt l =
    let n = length-append xs ys in
    let a = in_back xs ys (length xs + i) i refl in let b = in_back xs ys (length xs + j) j refl in
    omega (arith, rising (length xs + i) (length xs + j) (omega arith) (omega arith))

-- a search in the second part, if the number isn't before it
pub found_behind : (xs ys : List ℕ) (r : ℕ) (said : Result ℕ ℕ) → Stands ys r said → IsRising (xs ++ ys) → 0 < length ys → get_or ys 0 0 ≤ r → Found (xs ++ ys) r (further (length xs) said)
found_behind xs ys r said at rising some first =
    found_of (xs ++ ys) r (further (length xs) said) rising (stands said at)
  where
    stands : (said : Result ℕ ℕ) → Stands ys r said → Stands (xs ++ ys) r (further (length xs) said)
    stands (Ok at) (l, e) = let n = length-append xs ys in (omega arith, in_back xs ys (length xs + at) at refl ∙ e)
    stands (Err at) (l, below, above) =
        let n = length-append xs ys in (
          omega arith,
          (λ k lt. ⊎_elim
              (λ (f : k < length xs). let q = in_back xs ys (length xs) 0 (omega arith) in omega (arith, rising k (length xs) f (omega arith)))
              (λ (b : length xs ≤ k). let q = in_back xs ys k (k - length xs) (omega arith) in omega (arith, below (k - length xs) (omega arith)))
              (cases_lt k (length xs))),
          (λ k le lt. let q = in_back xs ys k (k - length xs) (omega arith) in omega (arith, above (k - length xs) (omega arith) (omega arith))),
        )

-- a search in the first part, if the number is before the second
pub found_before : (xs ys : List ℕ) (r : ℕ) (said : Result ℕ ℕ) → Stands xs r said → IsRising (xs ++ ys) → (0 < length ys → r < get_or ys 0 0) → Found (xs ++ ys) r said
found_before xs ys r said at rising before =
    found_of (xs ++ ys) r said rising (stands said at)
  where
    stands : (said : Result ℕ ℕ) → Stands xs r said → Stands (xs ++ ys) r said
    stands (Ok at) (l, e) = let n = length-append xs ys in (omega arith, in_front xs ys at l ∙ e)
    stands (Err at) (l, below, above) =
        let n = length-append xs ys in (
          omega arith,
          (λ k lt. let q = in_front xs ys k (omega arith) in omega (arith, below k lt)),
          (λ k le lt. ⊎_elim
              (λ (f : k < length xs). let q = in_front xs ys k f in omega (arith, above k le f))
              (λ (b : length xs ≤ k).
              let i : ℕ = k - length xs in
              let q = in_back xs ys k i (omega arith) in
              let first = before (omega arith) in
              omega (arith, not_falling ys (rising_back xs ys rising) 0 i (omega arith) (omega arith)))
              (cases_lt k (length xs))),
        )

-- a number above the last
pub stands_last : (xs : List ℕ) (r : ℕ) → IsRising xs → (0 < length xs → get_or xs (length xs - 1) 0 < r) → Stands xs r (Err (length xs))
stands_last xs r rising last = (
  omega arith,
  (λ k lt. omega (arith, not_falling xs rising k (length xs - 1) (omega arith) (omega arith), last (omega arith))),
  (λ k le lt. absurd (omega arith)),
)
