-- The first of numbers in rising order: the least.
use Rattle.std.proofs.Common.{◌≡◌, refl, ℕ, ◌+◌, ◌<◌, Bool, true, false, if◌then◌else◌, List, [], ◌∷◌, ◌++◌, drop, filter, length, get_or, Option, Some, None, sym, ap, ◌∙◌, arith}
use Rattle.std.specs.Bool.{◌==◌, nat_lt}
use Rattle.std.proofs.lemmas.Bool.{ltb-true, lt-ltb}
use Rattle.std.proofs.lemmas.List.{at_drop_more}
use Rattle.iv_machine.specs.Databases.{first}
use Rattle.iv_laws_kept.specs.Numbers.{with_number, in_rising_order, AllAbove, Rise}
use Rattle.iv_store_violating.specs.Answers.{lesser}

-- ---- the lesser of three

below_both : (a b c : ℕ) → nat_lt a b ≡ false → nat_lt b c ≡ false → nat_lt a c ≡ false
below_both a b c e f = grind (arith, e, f)

least_of : (a b c : ℕ) → (if nat_lt (if nat_lt a b then a else b) c then (if nat_lt a b then a else b) else c) ≡ (if nat_lt a (if nat_lt b c then b else c) then a else (if nat_lt b c then b else c))
least_of a b c =
    elim (nat_lt a b) as (λ t. nat_lt a b ≡ t → (if nat_lt (if t then a else b) c then (if t then a else b) else c) ≡ (if nat_lt a (if nat_lt b c then b else c) then a else (if nat_lt b c then b else c))) [
      | true ↦ λ e. elim (nat_lt b c) as (λ t. nat_lt b c ≡ t → (if nat_lt a c then a else c) ≡ (if nat_lt a (if t then b else c) then a else (if t then b else c))) [
        | true ↦ λ f. ap (λ t. if t then a else c) (lt-ltb a c (omega (arith, ltb-true a b e, ltb-true b c f))) ∙ ap (λ t. if t then a else b) (sym e)
        | false ↦ λ f. refl
      ] refl
      | false ↦ λ e. elim (nat_lt b c) as (λ t. nat_lt b c ≡ t → (if t then b else c) ≡ (if nat_lt a (if t then b else c) then a else (if t then b else c))) [
        | true ↦ λ f. ap (λ t. if t then a else b) (sym e)
        | false ↦ λ f. ap (λ t. if t then a else c) (sym (below_both a b c e f))
      ] refl
    ] refl

pub lesser_assoc : (a b c : Option ℕ) → lesser (lesser a b) c ≡ lesser a (lesser b c)
lesser_assoc None b c = refl
lesser_assoc (Some a) None c = refl
lesser_assoc (Some a) (Some b) None = refl
lesser_assoc (Some a) (Some b) (Some c) = ap Some (least_of a b c)

-- ---- the first in rising order

first_with : (n : ℕ) (numbers : List ℕ) → first (with_number n numbers) ≡ lesser (Some n) (first numbers)
first_with n [] = refl
first_with n (m ∷ numbers) =
    elim (nat_lt n m) as (λ b. first (if b then n ∷ m ∷ numbers else (if m == n then m ∷ numbers else m ∷ with_number n numbers)) ≡ Some (if b then n else m)) [
      | true ↦ refl
      | false ↦ elim (m == n) as (λ b. first (if b then m ∷ numbers else m ∷ with_number n numbers) ≡ Some m) [ true ↦ refl | false ↦ refl ]
    ]

lesser_above : (n : ℕ) (numbers : List ℕ) → AllAbove n numbers → lesser (Some n) (first numbers) ≡ Some n
lesser_above n [] a = refl
lesser_above n (m ∷ numbers) a = ap (λ b. Some (if b then n else m)) (lt-ltb n m a.0)

-- a number that may be meant, and others
pub first_chosen : (test : ℕ → Bool) (n : ℕ) (told : Option ℕ) (rest : List ℕ) → told ≡ (if test n then Some n else None)
    → first (in_rising_order (filter test (n ∷ rest))) ≡ lesser told (first (in_rising_order (filter test rest)))
first_chosen test n told rest e =
    elim (test n) as (λ b. first (in_rising_order (if b then n ∷ filter test rest else filter test rest)) ≡ lesser (if b then Some n else None) (first (in_rising_order (filter test rest)))) [
      | true ↦ first_with n (in_rising_order (filter test rest))
      | false ↦ refl
    ]
    ∙ ap (λ o. lesser o (first (in_rising_order (filter test rest)))) (sym e)

-- rising numbers before others
pub first_before : (some others : List ℕ) → Rise some → first (in_rising_order (some ++ others)) ≡ lesser (first some) (first (in_rising_order others))
first_before [] others h = refl
first_before (n ∷ some) others h =
    first_with n (in_rising_order (some ++ others)) ∙ ap (lesser (Some n)) (first_before some others h.1)
    ∙ sym (lesser_assoc (Some n) (first some) (first (in_rising_order others))) ∙ ap (λ o. lesser o (first (in_rising_order others))) (lesser_above n some h.0)

-- ---- loops

-- A step of a loop that takes the lesser of what it has and what an item tells.
pub least_step : (tells : List ℕ → Option ℕ) (items : List ℕ) (i item : ℕ) (told least next all : Option ℕ)
    → i < length items → item ≡ get_or items i 0 → ((rest : List ℕ) → tells (item ∷ rest) ≡ lesser told (tells rest)) → next ≡ lesser least told
    → lesser least (tells (drop i items)) ≡ all → lesser next (tells (drop (i + 1) items)) ≡ all
least_step tells items i item told least next all l e splits n h =
    ap (λ o. lesser o (tells (drop (i + 1) items))) n
    ∙ lesser_assoc least told (tells (drop (i + 1) items))
    ∙ ap (lesser least) (sym (at_drop_more tells items i 0 l ∙ ap (λ x. tells (x ∷ drop (i + 1) items)) (sym e) ∙ splits (drop (i + 1) items)))
    ∙ h
