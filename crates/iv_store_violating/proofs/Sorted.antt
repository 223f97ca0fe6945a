-- Numbers that were sorted.
use Rattle.std.proofs.Common.{◌≡◌, refl, ℕ, zero, suc, ◌+◌, ◌<◌, Bool, true, false, ◌||◌, if◌then◌else◌, List, [], ◌∷◌, length, get_or, sym, ap, subst, ◌∙◌, arith}
use Rattle.std.specs.Bool.{◌==◌}
use Rattle.std.specs.List.{dedup, dedup_from}
use Rattle.std.specs.List.Sorted.{IsStrictlyIncreasing}
use Rattle.std.proofs.lemmas.Bool.{eqb-true}
use Rattle.iv_laws_kept.specs.Numbers.{has, Rise, AllAbove, in_rising_order}
use Rattle.iv_laws_kept.proofs.RisingNumbers.{same_numbers, rise_in_rising_order, has_in_rising_order}

all_above : (low : ℕ) (xs : List ℕ) → ((k : ℕ) → k < length xs → low < get_or xs k 0) → AllAbove low xs
all_above low [] h = tt
all_above low (x ∷ xs) h = (h zero (omega arith), all_above low xs (λ k l. h (suc k) (omega (arith, l))))

-- numbers of which each is below those at later places
pub rise_by_places : (xs : List ℕ) → ((i j : ℕ) → i < j → j < length xs → get_or xs i 0 < get_or xs j 0) → Rise xs
rise_by_places [] h = tt
rise_by_places (x ∷ xs) h = (
  all_above x xs (λ k l. h zero (suc k) (omega arith) (omega (arith, l))),
  rise_by_places xs (λ i j lt l. h (suc i) (suc j) (omega (arith, lt)) (omega (arith, l))),
)

-- numbers of which each is below the next
next_above : (x : ℕ) (xs : List ℕ) → Rise xs → (0 < length xs → x < get_or xs 0 0) → AllAbove x xs
next_above x [] rise less = tt
next_above x (y ∷ xs) rise less = let low = less (omega arith) in (low, lowered xs low rise.0)
  where
    lowered : (zs : List ℕ) → x < y → AllAbove y zs → AllAbove x zs
    lowered [] low a = tt
    lowered (z ∷ zs) low a = let above = a.0 in (omega (arith, low, above), lowered zs low a.1)

by_steps : (xs : List ℕ) → ((k : ℕ) → suc k < length xs → get_or xs k 0 < get_or xs (suc k) 0) → Rise xs
by_steps [] h = tt
by_steps (x ∷ xs) h =
    let rest : Rise xs = by_steps xs (λ k l. h (suc k) (omega (arith, l))) in
    (next_above x xs rest (λ l. h zero (omega (arith, l))), rest)

pub rise_by_steps : (xs : List ℕ) → IsStrictlyIncreasing xs → Rise xs
rise_by_steps xs h = by_steps xs (λ k l. let e : k + 1 ≡ suc k = omega arith in subst (λ (n : ℕ). get_or xs k 0 < get_or xs n 0) e (h k (omega (arith, l))))

-- ---- without repeats

twice : (a b : Bool) → (a || b) ≡ (a || (a || b))
twice true b = refl
twice false b = refl

has_from : (n k : ℕ) (xs : List ℕ) → has n (dedup_from (λ (a b : ℕ). a == b) k xs) ≡ ((k == n) || has n xs)
has_from n k [] = refl
has_from n k (m ∷ xs) =
    elim (m == k) as (λ b. (m == k) ≡ b
    → has n (if b then dedup_from (λ (a b : ℕ). a == b) k xs else k ∷ dedup_from (λ (a b : ℕ). a == b) m xs) ≡ ((k == n) || ((m == n) || has n xs))) [
      | true ↦ λ e. has_from n k xs ∙ twice (k == n) (has n xs) ∙ ap (λ y. (k == n) || ((y == n) || has n xs)) (sym (eqb-true m k e))
      | false ↦ λ e. ap (λ b. (k == n) || b) (has_from n m xs)
    ] refl

pub has_dedup : (n : ℕ) (xs : List ℕ) → has n (dedup (λ (a b : ℕ). a == b) xs) ≡ has n xs
has_dedup n [] = refl
has_dedup n (m ∷ xs) = has_from n m xs

-- rising numbers with the members of others
pub sorted_is : (new old : List ℕ) → Rise new → ((n : ℕ) → has n new ≡ has n old) → new ≡ in_rising_order old
sorted_is new old rise same = same_numbers new (in_rising_order old) rise (rise_in_rising_order old) (λ n. same n ∙ sym (has_in_rising_order n old))
