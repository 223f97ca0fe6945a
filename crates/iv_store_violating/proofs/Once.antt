-- Numbers that come once.
use Rattle.std.proofs.Common.{◌≡◌, refl, ℕ, ◌+◌, Bool, true, false, ◌&&◌, ◌||◌, if◌then◌else◌, List, [], ◌∷◌, ◌++◌, filter, flat_map, length, sym, ap, ◌∙◌, arith, length-append}
use Rattle.std.proofs.Math.Bool.{and-false}
use Rattle.std.specs.Bool.{◌==◌, nat_lt}
use Rattle.std.proofs.lemmas.Bool.{eqb-true, eq-eqb, or_parts, or_left, or_right, or_from, false_from_ne_true}
use Rattle.iv_laws_levels.proofs.Keys.{false_true}
use Rattle.iv_laws_kept.specs.Numbers.{has, with_number, in_rising_order, Rise}
use Rattle.iv_laws_kept.specs.Kept.{Group}
use Rattle.iv_laws_kept.specs.GroupFlags.{rows_at}
use Rattle.iv_laws_kept.proofs.RisingNumbers.{has_append, has_in_rising_order, not_above}
use Rattle.iv_store_violating.specs.Flagging.{NoRepeats}
use Rattle.iv_store_violating.specs.Apart.{IsApart}

-- ---- filters

pub has_filter : (p : ℕ → Bool) (n : ℕ) (numbers : List ℕ) → has n (filter p numbers) ≡ (p n && has n numbers)
has_filter p n [] = elim (p n) as (λ b. false ≡ (b && false)) [ true ↦ refl | false ↦ refl ]
has_filter p n (m ∷ numbers) =
    elim (m == n) as (λ b. (m == n) ≡ b → has n (if p m then m ∷ filter p numbers else filter p numbers) ≡ (p n && (b || has n numbers))) [
      | true ↦ λ e. elim (p m) as (λ b. p m ≡ b → has n (if b then m ∷ filter p numbers else filter p numbers) ≡ (p n && true)) [
        | true ↦ λ f. ap (λ b. b || has n (filter p numbers)) e ∙ ap (λ b. b && true) (sym (ap p (sym (eqb-true m n e)) ∙ f))
        | false ↦ λ f. has_filter p n numbers ∙ ap (λ b. b && has n numbers) (ap p (sym (eqb-true m n e)) ∙ f) ∙ ap (λ b. b && true) (sym (ap p (sym (eqb-true m n e)) ∙ f))
      ] refl
      | false ↦ λ e. elim (p m) as (λ b. has n (if b then m ∷ filter p numbers else filter p numbers) ≡ (p n && has n numbers)) [
        | true ↦ ap (λ b. b || has n (filter p numbers)) e ∙ has_filter p n numbers
        | false ↦ has_filter p n numbers
      ]
    ] refl

pub once_filter : (p : ℕ → Bool) (numbers : List ℕ) → NoRepeats numbers → NoRepeats (filter p numbers)
once_filter p [] once = tt
once_filter p (n ∷ numbers) once =
    elim (p n) as (λ b. NoRepeats (if b then n ∷ filter p numbers else filter p numbers)) [
      | true ↦ (has_filter p n numbers ∙ ap (λ b. p n && b) once.0 ∙ and-false (p n), once_filter p numbers once.1)
      | false ↦ once_filter p numbers once.1
    ]

-- ---- what a list of numbers has, in rising order

module _ {A : Type 0} (f : ℕ → List A) where
  length_with : (n : ℕ) (numbers : List ℕ) → has n numbers ≡ false → length (flat_map f (with_number n numbers)) ≡ length (f n) + length (flat_map f numbers)
  length_with n [] e = length-append (f n) []
  length_with n (m ∷ numbers) e =
      let parts = or_parts (m == n) (has n numbers) e in
      elim (nat_lt n m) as (λ b. length (flat_map f (if b then n ∷ m ∷ numbers else (if m == n then m ∷ numbers else m ∷ with_number n numbers))) ≡ length (f n) + length (flat_map f (m ∷ numbers))) [
        | true ↦ length-append (f n) (flat_map f (m ∷ numbers))
        | false ↦ ap (λ b. length (flat_map f (if b then m ∷ numbers else m ∷ with_number n numbers))) parts.0
            ∙ length-append (f m) (flat_map f (with_number n numbers)) ∙ ap (λ k. length (f m) + k) (length_with n numbers parts.1)
            ∙ (let sum : length (f m ++ flat_map f numbers) ≡ length (f m) + length (flat_map f numbers) = length-append (f m) (flat_map f numbers) in omega (arith, sum))
      ]

  pub length_once : (numbers : List ℕ) → NoRepeats numbers → length (flat_map f (in_rising_order numbers)) ≡ length (flat_map f numbers)
  length_once [] once = refl
  length_once (n ∷ numbers) once =
      length_with n (in_rising_order numbers) (has_in_rising_order n numbers ∙ once.0) ∙ ap (λ k. length (f n) + k) (length_once numbers once.1)
      ∙ sym (length-append (f n) (flat_map f numbers))

-- each number by itself
alone : (numbers : List ℕ) → flat_map (λ n. n ∷ []) numbers ≡ numbers
alone [] = refl
alone (n ∷ numbers) = ap (λ rest. n ∷ rest) (alone numbers)

pub length_in_order : (numbers : List ℕ) → NoRepeats numbers → length (in_rising_order numbers) ≡ length numbers
length_in_order numbers once = ap length (sym (alone (in_rising_order numbers))) ∙ length_once (λ n. n ∷ []) numbers once ∙ ap length (alone numbers)

-- ---- rows of groups that are apart

once_rising : (numbers : List ℕ) → Rise numbers → NoRepeats numbers
once_rising [] h = tt
once_rising (n ∷ numbers) h = (not_above n n numbers (omega arith) h.0, once_rising numbers h.1)

-- lists that have no number in common
once_appended : (some others : List ℕ) → NoRepeats some → NoRepeats others → ((n : ℕ) → has n some ≡ true → has n others ≡ false) → NoRepeats (some ++ others)
once_appended [] others a b h = b
once_appended (n ∷ some) others a b h = (
  has_append n some others ∙ or_from (has n some) (has n others) a.0 (h n (or_left (n == n) (has n some) (eq-eqb n n refl))),
  once_appended some others a.1 b (λ k e. h k (or_right (n == k) (has k some) e)),
)

-- the rows at other places than this one don't have its rows
elsewhere : (own : List Group) (place n : ℕ) (places : List ℕ) → IsApart own → has n (rows_at own place) ≡ true → has place places ≡ false → has n (flat_map (rows_at own) places) ≡ false
elsewhere own place n [] a e h = refl
elsewhere own place n (p ∷ places) a e h =
    let parts = or_parts (p == place) (has place places) h in
    has_append n (rows_at own p) (flat_map (rows_at own) places)
    ∙ or_from (has n (rows_at own p)) (has n (flat_map (rows_at own) places))
    (false_from_ne_true (has n (rows_at own p)) (λ f. false_true (sym parts.0 ∙ eq-eqb p place (a.apart p place n f e))))
    (elsewhere own place n places a e parts.1)

pub once_rows : (own : List Group) (places : List ℕ) → IsApart own → NoRepeats places → NoRepeats (flat_map (rows_at own) places)
once_rows own [] a once = tt
once_rows own (p ∷ places) a once =
    once_appended (rows_at own p) (flat_map (rows_at own) places) (once_rising (rows_at own p) (a.rise p)) (once_rows own places a once.1)
    (λ n e. elsewhere own p n places a e once.0)
