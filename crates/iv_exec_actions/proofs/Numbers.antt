-- Rising numbers, and which numbers are among others.
use Rattle.std.proofs.Common.{◌≡◌, refl, ℕ, zero, suc, ◌+◌, ◌<◌, ◌≤◌, Bool, true, false, ◌||◌, if◌then◌else◌, List, [], ◌∷◌, ◌++◌, length, get_or, drop, map, filter_map, sym, ap, subst, ◌∙◌, arith, Option, Some, None, add-one, drop-cons, append_assoc, append-nil, Result, Ok, Err, OnOk}
use Rattle.std.specs.Bool.{◌==◌}
use Rattle.std.specs.List.{list_any, cons_option, dedup, dedup_from}
use Rattle.std.specs.List.Sorted.{IsStrictlyIncreasing}
use Rattle.std.proofs.lemmas.Bool.{eqb-true, ne_eqb, true≢false}
use Rattle.iv_expr.specs.declared.row.Change.{Change}
use Rattle.iv_expr.specs.Changes.{RisingChangesFrom, last_above, last_row}
use Rattle.iv_store.specs.Stores.{RisingNumbers}
use Rattle.iv_laws_kept.specs.FollowingWaves.{is_among}

-- ---- no number is 0

pub no_zero : (low : ℕ) (numbers : List ℕ) → RisingNumbers low numbers → is_among numbers 0 ≡ false
no_zero low [] h = refl
no_zero low (n ∷ numbers) h = ap (λ b. b || is_among numbers 0) (ne_eqb n 0 (λ e. absurd (omega (arith, e, h.0)))) ∙ no_zero n numbers h.1

pub any_of_both : {A : Type 0} (p : A → Bool) (xs ys : List A) → list_any p (xs ++ ys) ≡ (list_any p xs || list_any p ys)
any_of_both p [] ys = refl
any_of_both p (x ∷ xs) ys =
    elim (p x) as (λ b. (b || list_any p (xs ++ ys)) ≡ ((b || list_any p xs) || list_any p ys)) [ true ↦ refl | false ↦ any_of_both p xs ys ]

pub none_of_both : (numbers more : List ℕ) → is_among numbers 0 ≡ false → is_among more 0 ≡ false → is_among (numbers ++ more) 0 ≡ false
none_of_both numbers more e f = any_of_both (λ n. n == 0) numbers more ∙ ap (λ b. b || is_among more 0) e ∙ f

pub no_row_is_zero : (low : ℕ) (changes : List Change) → RisingChangesFrom low changes → is_among (map (λ c. c.row) changes) 0 ≡ false
no_row_is_zero low [] h = refl
no_row_is_zero low (c ∷ changes) h =
    ap (λ b. b || is_among (map (λ x. x.row) changes) 0) (ne_eqb c.row 0 (λ e. absurd (omega (arith, e, h.0)))) ∙ no_row_is_zero c.row changes h.1

-- ---- numbers that were sorted

rising_after : (n : ℕ) (numbers : List ℕ) → IsStrictlyIncreasing (n ∷ numbers) → RisingNumbers n numbers
rising_after n [] h = tt
rising_after n (m ∷ numbers) h = (
  h 0 (omega arith),
  rising_after m numbers (λ i within.
      let e : suc i + 1 ≡ suc (i + 1) = omega arith in
      subst (λ j. get_or (m ∷ numbers) i 0 < get_or (n ∷ m ∷ numbers) j 0) e (h (suc i) (omega arith))),
)

pub rising_numbers : (numbers : List ℕ) → IsStrictlyIncreasing numbers → is_among numbers 0 ≡ false → RisingNumbers 0 numbers
rising_numbers [] h none = tt
rising_numbers (zero ∷ numbers) h none = absurd (true≢false none)
rising_numbers (suc n ∷ numbers) h none = (omega arith, rising_after (suc n) numbers h)

or_again : (a b : Bool) → (a || b) ≡ (a || (a || b))
or_again true b = refl
or_again false b = refl

among_from : (n k : ℕ) (numbers : List ℕ) → is_among (dedup_from (λ (a b : ℕ). a == b) k numbers) n ≡ ((k == n) || is_among numbers n)
among_from n k [] = refl
among_from n k (m ∷ numbers) =
    elim (m == k) as (λ b. (m == k) ≡ b
    → is_among (if b then dedup_from (λ (a b : ℕ). a == b) k numbers else k ∷ dedup_from (λ (a b : ℕ). a == b) m numbers) n
    ≡ ((k == n) || ((m == n) || is_among numbers n))) [
      | true ↦ λ e.
          among_from n k numbers ∙ or_again (k == n) (is_among numbers n)
          ∙ ap (λ y. (k == n) || ((y == n) || is_among numbers n)) (sym (eqb-true m k e))
      | false ↦ λ e. ap (λ b. (k == n) || b) (among_from n m numbers)
    ] refl

-- numbers stay if each is kept once
pub among_dedup : (n : ℕ) (numbers : List ℕ) → is_among (dedup (λ (a b : ℕ). a == b) numbers) n ≡ is_among numbers n
among_dedup n [] = refl
among_dedup n (m ∷ numbers) = among_from n m numbers

-- ---- a wave that is made by rising numbers

last_of : (low : ℕ) (changes : List Change) (c : Change) → last_above low (changes ++ c ∷ []) ≡ c.row
last_of low [] c = refl
last_of low (d ∷ changes) c = last_of d.row changes c

pub last_of_added : (changes : List Change) (c : Change) → last_row (changes ++ c ∷ []) ≡ c.row
last_of_added changes c = last_of 0 changes c

pub on_ok : {A E : Type 0} (r : Result A E) (P Q : Type 0) → (P → Q) → OnOk r P → OnOk r Q
on_ok (Ok a) P Q f h = f h
on_ok (Err e) P Q f h = h

rising_from_lower : (low n : ℕ) (numbers : List ℕ) → low ≤ n → RisingNumbers n numbers → RisingNumbers low numbers
rising_from_lower low n [] le h = tt
rising_from_lower low n (m ∷ numbers) le h = (omega (arith, le, h.0), h.1)

pub rising_rest : (last low : ℕ) (numbers : List ℕ) (i : ℕ) → i < length numbers → RisingNumbers low (drop i numbers) → last ≤ get_or numbers i 0
    → RisingNumbers last (drop (i + 1) numbers)
rising_rest last low numbers i h up le =
    let here = subst (RisingNumbers low) (drop-cons numbers i 0 h) up in
    rw add-one (rising_from_lower last (get_or numbers i 0) (drop (suc i) numbers) le here.1)

joined : {B : Type 0} (next rest : List B) (o : Option B) → (next ++ cons_option o []) ++ rest ≡ next ++ cons_option o rest
joined next rest None = ap (λ l. l ++ rest) (append-nil next)
joined next rest (Some x) = append_assoc next (x ∷ []) rest

pub made_next : {B : Type 0} (f : ℕ → Option B) (next : List B) (numbers : List ℕ) (i : ℕ) → i < length numbers
    → (next ++ cons_option (f (get_or numbers i 0)) []) ++ filter_map f (drop (i + 1) numbers) ≡ next ++ filter_map f (drop i numbers)
made_next f next numbers i h =
    rw add-one
    (joined next (filter_map f (drop (suc i) numbers)) (f (get_or numbers i 0)) ∙ ap (λ l. next ++ filter_map f l) (sym (drop-cons numbers i 0 h)))

-- ---- flags that are set by rising numbers

or_turned : (a b c : Bool) → (a || (b || c)) ≡ ((b || a) || c)
or_turned true true c = refl
or_turned true false c = refl
or_turned false true c = refl
or_turned false false c = refl

-- a flag after one number more
pub flagged_next : (p : ℕ → Bool) (before after : Bool) (numbers : List ℕ) (i : ℕ) → i < length numbers → after ≡ (p (get_or numbers i 0) || before)
    → (list_any p (drop (i + 1) numbers) || after) ≡ (list_any p (drop i numbers) || before)
flagged_next p before after numbers i h e =
    rw add-one
    (ap (λ b. list_any p (drop (suc i) numbers) || b) e
    ∙ or_turned (list_any p (drop (suc i) numbers)) (p (get_or numbers i 0)) before
    ∙ ap (λ l. list_any p l || before) (sym (drop-cons numbers i 0 h)))
