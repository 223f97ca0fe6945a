-- Rising lists of numbers: their members decide them.
use Rattle.std.proofs.Common.{◌≡◌, refl, ℕ, ◌<◌, ◌≤◌, Bool, true, false, ◌&&◌, ◌||◌, not, if◌then◌else◌, List, [], ◌∷◌, ◌++◌, filter, sym, ap, ◌∙◌, arith}
use Rattle.std.specs.Bool.{nat_lt, ◌==◌}
use Rattle.std.proofs.lemmas.Bool.{eqb-true, eq-eqb, ltb-true, true≢false}
use Rattle.iv_laws_kept.specs.Numbers.{has, with_number, without, in_rising_order, AllAbove, Rise}

pub all_above_lower : (low n : ℕ) (numbers : List ℕ) → low ≤ n → AllAbove n numbers → AllAbove low numbers
all_above_lower low n [] h a = tt
all_above_lower low n (m ∷ numbers) h a = (omega (arith, a.0), all_above_lower low n numbers h a.1)

-- ---- members

pub has_head : (n : ℕ) (numbers : List ℕ) → has n (n ∷ numbers) ≡ true
has_head n numbers = ap (λ b. b || has n numbers) (eq-eqb n n refl)

pub has_other : (n m : ℕ) (numbers : List ℕ) → (m == n) ≡ false → has n (m ∷ numbers) ≡ has n numbers
has_other n m numbers e = ap (λ b. b || has n numbers) e

pub not_above : (low n : ℕ) (numbers : List ℕ) → n ≤ low → AllAbove low numbers → has n numbers ≡ false
not_above low n [] h a = refl
not_above low n (m ∷ numbers) h a = grind (arith, a.0, not_above low n numbers h a.1)

pub has_append : (n : ℕ) (some others : List ℕ) → has n (some ++ others) ≡ (has n some || has n others)
has_append n [] others = refl
has_append n (m ∷ some) others = elim (m == n) as (λ b. (b || has n (some ++ others)) ≡ ((b || has n some) || has n others)) [ true ↦ refl | false ↦ has_append n some others ]

pub has_with : (k n : ℕ) (numbers : List ℕ) → has k (with_number n numbers) ≡ ((n == k) || has k numbers)
has_with k n [] = refl
has_with k n (m ∷ numbers) =
    elim (nat_lt n m) as (λ b. has k (if b then n ∷ m ∷ numbers else (if m == n then m ∷ numbers else m ∷ with_number n numbers)) ≡ ((n == k) || has k (m ∷ numbers))) [
      | true ↦ refl
      | false ↦ elim (m == n) as (λ b. (m == n) ≡ b → has k (if b then m ∷ numbers else m ∷ with_number n numbers) ≡ ((n == k) || has k (m ∷ numbers))) [
        | true ↦ λ e. again (eqb-true m n e)
        | false ↦ λ e. ap (λ b. (m == k) || b) (has_with k n numbers) ∙ swapped (m == k) (n == k) (has k numbers)
      ] refl
    ]
  where
    again : m ≡ n → ((m == k) || has k numbers) ≡ ((n == k) || ((m == k) || has k numbers))
    again is = elim (m == k) as (λ b. (m == k) ≡ b → (b || has k numbers) ≡ ((n == k) || (b || has k numbers))) [
      | true ↦ λ e. ap (λ b. b || true) (sym (ap (λ x. x == k) (sym is) ∙ e))
      | false ↦ λ e. ap (λ b. b || has k numbers) (sym (ap (λ x. x == k) (sym is) ∙ e))
    ] refl

    swapped : (a b c : Bool) → (a || (b || c)) ≡ (b || (a || c))
    swapped true true c = refl
    swapped true false c = refl
    swapped false b c = refl

pub has_without : (k n : ℕ) (numbers : List ℕ) → has k (without n numbers) ≡ (not (n == k) && has k numbers)
has_without k n [] = elim (n == k) as (λ b. false ≡ (not b && false)) [ true ↦ refl | false ↦ refl ]
has_without k n (m ∷ numbers) =
    elim (m == n) as (λ b. (m == n) ≡ b → has k (if not b then m ∷ without n numbers else without n numbers) ≡ (not (n == k) && has k (m ∷ numbers))) [
      | true ↦ λ e. has_without k n numbers ∙ hidden (eqb-true m n e)
      | false ↦ λ e. ap (λ b. (m == k) || b) (has_without k n numbers) ∙ apart e
    ] refl
  where
    hidden : m ≡ n → (not (n == k) && has k numbers) ≡ (not (n == k) && ((m == k) || has k numbers))
    hidden is = elim (n == k) as (λ b. (n == k) ≡ b → (not b && has k numbers) ≡ (not b && ((m == k) || has k numbers))) [
      | true ↦ λ e. refl
      | false ↦ λ e. ap (λ b. b || has k numbers) (sym (ap (λ x. x == k) is ∙ e))
    ] refl

    apart : (m == n) ≡ false → ((m == k) || (not (n == k) && has k numbers)) ≡ (not (n == k) && ((m == k) || has k numbers))
    apart e = elim (m == k) as (λ b. (m == k) ≡ b → (b || (not (n == k) && has k numbers)) ≡ (not (n == k) && (b || has k numbers))) [
      | true ↦ λ f. ap (λ b. not b && true) (sym (differs f))
      | false ↦ λ f. refl
    ] refl
      where
        differs : (m == k) ≡ true → (n == k) ≡ false
        differs f = grind (arith, e, eqb-true m k f)

-- ---- order

above_with : (low n : ℕ) (numbers : List ℕ) → low < n → AllAbove low numbers → AllAbove low (with_number n numbers)
above_with low n [] h a = (h, tt)
above_with low n (m ∷ numbers) h a =
    elim (nat_lt n m) as (λ b. AllAbove low (if b then n ∷ m ∷ numbers else (if m == n then m ∷ numbers else m ∷ with_number n numbers))) [
      | true ↦ (h, a)
      | false ↦ elim (m == n) as (λ b. AllAbove low (if b then m ∷ numbers else m ∷ with_number n numbers)) [ true ↦ a | false ↦ (a.0, above_with low n numbers h a.1) ]
    ]

pub rise_with : (n : ℕ) (numbers : List ℕ) → Rise numbers → Rise (with_number n numbers)
rise_with n [] h = (tt, tt)
rise_with n (m ∷ numbers) h =
    elim (nat_lt n m) as (λ b. nat_lt n m ≡ b → Rise (if b then n ∷ m ∷ numbers else (if m == n then m ∷ numbers else m ∷ with_number n numbers))) [
      | true ↦ λ e. let less : n < m = ltb-true _ _ e in ((less, all_above_lower n m numbers (omega (arith, less)) h.0), h)
      | false ↦ λ e. elim (m == n) as (λ b. (m == n) ≡ b → Rise (if b then m ∷ numbers else m ∷ with_number n numbers)) [
        | true ↦ λ f. h
        | false ↦ λ f. (above_with m n numbers (grind (arith, e, f)) h.0, rise_with n numbers h.1)
      ] refl
    ] refl

pub rise_in_rising_order : (numbers : List ℕ) → Rise (in_rising_order numbers)
rise_in_rising_order [] = tt
rise_in_rising_order (n ∷ numbers) = rise_with n (in_rising_order numbers) (rise_in_rising_order numbers)

pub has_in_rising_order : (k : ℕ) (numbers : List ℕ) → has k (in_rising_order numbers) ≡ has k numbers
has_in_rising_order k [] = refl
has_in_rising_order k (n ∷ numbers) = has_with k n (in_rising_order numbers) ∙ ap (λ b. (n == k) || b) (has_in_rising_order k numbers)

above_filter : (p : ℕ → Bool) (low : ℕ) (numbers : List ℕ) → AllAbove low numbers → AllAbove low (filter p numbers)
above_filter p low [] a = tt
above_filter p low (m ∷ numbers) a =
    elim (p m) as (λ b. AllAbove low (if b then m ∷ filter p numbers else filter p numbers)) [ true ↦ (a.0, above_filter p low numbers a.1) | false ↦ above_filter p low numbers a.1 ]

pub rise_filter : (p : ℕ → Bool) (numbers : List ℕ) → Rise numbers → Rise (filter p numbers)
rise_filter p [] h = tt
rise_filter p (m ∷ numbers) h =
    elim (p m) as (λ b. Rise (if b then m ∷ filter p numbers else filter p numbers)) [
      | true ↦ (above_filter p m numbers h.0, rise_filter p numbers h.1)
      | false ↦ rise_filter p numbers h.1
    ]

-- ---- lists with the same members

least_is_absent : (n m : ℕ) (some others : List ℕ) → n < m → AllAbove m others → has n (n ∷ some) ≡ has n (m ∷ others) → ⊥
least_is_absent n m some others h a e =
    true≢false (sym (has_head n some) ∙ e ∙ not_above n n (m ∷ others) (omega arith) (h, all_above_lower n m others (omega (arith, h)) a))

pub same_numbers : (some others : List ℕ) → Rise some → Rise others → ((n : ℕ) → has n some ≡ has n others) → some ≡ others
same_numbers [] [] a b h = refl
same_numbers [] (m ∷ others) a b h = absurd (true≢false (sym (has_head m others) ∙ sym (h m)))
same_numbers (n ∷ some) [] a b h = absurd (true≢false (sym (has_head n some) ∙ h n))
same_numbers (n ∷ some) (m ∷ others) a b h =
    elim (nat_lt n m) as (λ t. nat_lt n m ≡ t → n ∷ some ≡ m ∷ others) [
      | true ↦ λ e. absurd (least_is_absent n m some others (ltb-true _ _ e) b.0 (h n))
      | false ↦ λ e. elim (nat_lt m n) as (λ t. nat_lt m n ≡ t → n ∷ some ≡ m ∷ others) [
        | true ↦ λ f. absurd (least_is_absent m n others some (ltb-true _ _ f) a.0 (sym (h m)))
        | false ↦ λ f.
            let is : n ≡ m = grind (arith, e, f) in
            let tails : some ≡ others = same_numbers some others a.1 b.1 (λ k. elim (n == k) as (λ t. (n == k) ≡ t → has k some ≡ has k others) [
              | true ↦ λ g. let same = eqb-true n k g in
                  not_above n k some (omega (arith, same)) a.0 ∙ sym (not_above m k others (omega (arith, same, is)) b.0)
              | false ↦ λ g. sym (has_other k n some g) ∙ h k ∙ has_other k m others (rw (← is) g)
            ] refl) in
            λ i. is i ∷ tails i
      ] refl
    ] refl
