-- The first foreign key that disagrees with an earlier one on a row.
use Rattle.std.proofs.Common.{◌≡◌, refl, ℕ, ◌+◌, ◌≤◌, ◌<◌, Bool, true, false, ◌&&◌, ◌||◌, not, if◌then◌else◌, List, [], ◌∷◌, ◌++◌, Some, None, sym, ap, ◌∙◌, arith, append_assoc}
use mathlib.Core.Bool.{or-false}
use Rattle.std.specs.Bool.{◌==◌, nat_lt}
use Rattle.std.specs.List.{list_any, find, flat_map}
use Rattle.std.specs.Option.{option_map}
use Rattle.std.proofs.lemmas.Bool.{eq-eqb, eqb-true, ne_eqb, true≢false}
use Rattle.iv_machine.specs.declared.effect.Effect.{Effect}
use Rattle.iv_machine.specs.ReferentialActions.{Reference, have_deletion, disagree, has_conflict}
use Rattle.iv_laws_kept.specs.FollowingWaves.{clashes, first_conflict}
use Rattle.iv_laws_kept.proofs.FirstPairs.{RisingReferences}

pub any_append : {A : Type 0} (p : A → Bool) (xs ys : List A) → list_any p (xs ++ ys) ≡ (list_any p xs || list_any p ys)
any_append p [] ys = refl
any_append p (x ∷ xs) ys = elim (p x) as (λ b. (b || list_any p (xs ++ ys)) ≡ ((b || list_any p xs) || list_any p ys)) [ true ↦ refl | false ↦ any_append p xs ys ]

-- effects of the foreign key of this number
abbrev pub AllOf : ℕ → List (ℕ × Effect) → Type 0
AllOf n [] = Unit {0}
AllOf n (e ∷ es) = (e.0 ≡ n) × AllOf n es

-- effects of foreign keys below this number
abbrev Below : ℕ → List (ℕ × Effect) → Type 0
Below n [] = Unit {0}
Below n (e ∷ es) = (e.0 < n) × Below n es

below_all_of : (n : ℕ) (es : List (ℕ × Effect)) → AllOf n es → Below (n + 1) es
below_all_of n [] h = tt
below_all_of n (e ∷ es) h = (omega (arith, h.0), below_all_of n es h.1)

below_more : (m n : ℕ) (es : List (ℕ × Effect)) → m ≤ n → Below m es → Below n es
below_more m n [] le h = tt
below_more m n (e ∷ es) le h = (omega (arith, le, h.0), below_more m n es le h.1)

below_append : (n : ℕ) (es others : List (ℕ × Effect)) → Below n es → Below n others → Below n (es ++ others)
below_append n [] others h k = k
below_append n (e ∷ es) others h k = (h.0, below_append n es others h.1 k)

module _ (C : ℕ × Effect → Bool) where
  abbrev of : ℕ → ℕ × Effect → Bool
  of n own = (own.0 == n) && C own

  here : (n : ℕ) (es : List (ℕ × Effect)) → AllOf n es → list_any (of n) es ≡ list_any C es
  here n [] h = refl
  here n (e ∷ es) h = ap (λ b. (b && C e) || list_any (of n) es) (eq-eqb e.0 n h.0) ∙ ap (λ b. C e || b) (here n es h.1)

  none_of_others : (m n : ℕ) (es : List (ℕ × Effect)) → n < m → AllOf m es → list_any (of n) es ≡ false
  none_of_others m n [] less h = refl
  none_of_others m n (e ∷ es) less h =
      ap (λ b. (b && C e) || list_any (of n) es) (ne_eqb e.0 n (λ is. absurd (omega (arith, is, h.0, less)))) ∙ none_of_others m n es less h.1

  none_below : (n : ℕ) (es : List (ℕ × Effect)) → Below n es → list_any (of n) es ≡ false
  none_below n [] h = refl
  none_below n (e ∷ es) h =
      ap (λ b. (b && C e) || list_any (of n) es) (ne_eqb e.0 n (λ is. absurd (omega (arith, is, h.0)))) ∙ none_below n es h.1

  module _ (g : Reference → List (ℕ × Effect)) (own : (k : Reference) → AllOf k.id (g k)) where
    none_later : (n low : ℕ) (ks : List Reference) → n < low → RisingReferences low ks → list_any (of n) (flat_map g ks) ≡ false
    none_later n low [] less h = refl
    none_later n low (k ∷ ks) less h =
        any_append (of n) (g k) (flat_map g ks)
        ∙ ap (λ b. b || list_any (of n) (flat_map g ks)) (none_of_others k.id n (g k) (omega (arith, less, h.0)) (own k))
        ∙ none_later n (k.id + 1) ks (omega (arith, less, h.0)) h.1

    found_here : (n : ℕ) (es more : List (ℕ × Effect)) → AllOf n es → list_any C es ≡ true → option_map (λ e. e.0) (find C (es ++ more)) ≡ Some n
    found_here n [] more h e = absurd (true≢false (sym e))
    found_here n (x ∷ es) more h e =
        elim (C x) as (λ b. (b || list_any C es) ≡ true → option_map (λ e. e.0) (if b then Some x else find C (es ++ more)) ≡ Some n) [
          | true ↦ λ _. ap Some h.0
          | false ↦ λ f. found_here n es more h.1 f
        ] e

    found_later : (es more : List (ℕ × Effect)) → list_any C es ≡ false → find C (es ++ more) ≡ find C more
    found_later [] more e = refl
    found_later (x ∷ es) more e =
        elim (C x) as (λ b. (b || list_any C es) ≡ false → (if b then Some x else find C (es ++ more)) ≡ find C more) [
          | true ↦ λ f. absurd (true≢false f)
          | false ↦ λ f. found_later es more f
        ] e

    first_of : (before : List (ℕ × Effect)) (low : ℕ) (ks : List Reference) → Below low before → RisingReferences low ks
        → option_map (λ k. k.id) (find (λ k. list_any (of k.id) (before ++ flat_map g ks)) ks) ≡ option_map (λ e. e.0) (find C (flat_map g ks))
    first_of before low [] h rise = refl
    first_of before low (k ∷ ks) h rise =
        ap (λ b. option_map (λ j. j.id) (if b then Some k else find (λ j. list_any (of j.id) (before ++ (g k ++ flat_map g ks))) ks)) test
        ∙ where_any (list_any C (g k)) refl (first_of (before ++ g k) (k.id + 1) ks
        (below_append (k.id + 1) before (g k) (below_more low (k.id + 1) before (omega (arith, rise.0)) h) (below_all_of k.id (g k) (own k))) rise.1)
      where
        test : list_any (of k.id) (before ++ (g k ++ flat_map g ks)) ≡ list_any C (g k)
        test =
            any_append (of k.id) before (g k ++ flat_map g ks)
            ∙ ap (λ b. b || list_any (of k.id) (g k ++ flat_map g ks)) (none_below k.id before (below_more low k.id before rise.0 h))
            ∙ any_append (of k.id) (g k) (flat_map g ks)
            ∙ ap (λ b. list_any (of k.id) (g k) || b) (none_later k.id (k.id + 1) ks (omega arith) rise.1)
            ∙ or-false (list_any (of k.id) (g k))
            ∙ here k.id (g k) (own k)

        where_any : (b : Bool) → list_any C (g k) ≡ b
            → option_map (λ j. j.id) (find (λ j. list_any (of j.id) ((before ++ g k) ++ flat_map g ks)) ks) ≡ option_map (λ e. e.0) (find C (flat_map g ks))
            → option_map (λ j. j.id) (if b then Some k else find (λ j. list_any (of j.id) (before ++ (g k ++ flat_map g ks))) ks)
            ≡ option_map (λ e. e.0) (find C (g k ++ flat_map g ks))
        where_any true e rest = sym (found_here k.id (g k) (flat_map g ks) (own k) e)
        where_any false e rest =
            ap (λ es. option_map (λ j. j.id) (find (λ j. list_any (of j.id) es) ks)) (sym (append_assoc before (g k) (flat_map g ks)))
            ∙ rest
            ∙ ap (option_map (λ e. e.0)) (sym (found_later (g k) (flat_map g ks) e))

-- a conflict of the foreign key of this number is an effect of it that clashes
conflict_is : (n : ℕ) (es some : List (ℕ × Effect))
    → list_any (λ own. (own.0 == n) && list_any (λ earlier. nat_lt earlier.0 n && disagree earlier.1 own.1) es) some ≡ list_any (of (clashes es) n) some
conflict_is n es [] = refl
conflict_is n es (e ∷ some) = λ i. where_number (e.0 == n) refl i || conflict_is n es some i
  where
    where_number : (b : Bool) → (e.0 == n) ≡ b
        → (b && list_any (λ earlier. nat_lt earlier.0 n && disagree earlier.1 e.1) es) ≡ (b && clashes es e)
    where_number true f = ap (λ m. list_any (λ earlier. nat_lt earlier.0 m && disagree earlier.1 e.1) es) (sym (eqb-true e.0 n f))
    where_number false f = refl

-- The first foreign key that has a conflict depends only on the effects.
pub first_conflict_is : (g : Reference → List (ℕ × Effect)) (own : (k : Reference) → AllOf k.id (g k)) (ks : List Reference) → RisingReferences 0 ks
    → option_map (λ k. k.id) (find (λ k. has_conflict k.id (flat_map g ks)) ks) ≡ first_conflict (flat_map g ks)
first_conflict_is g own ks rise =
    where_deleted (have_deletion es)
    (ap (λ (f : Reference → Bool). option_map (λ k. k.id) (find f ks)) (λ i k. conflict_is k.id es es i)
    ∙ first_of (clashes es) g own [] 0 ks tt rise)
  where
    es : List (ℕ × Effect)
    es = flat_map g ks

    test : Reference → Bool
    test k = list_any (λ own. (own.0 == k.id) && list_any (λ earlier. nat_lt earlier.0 k.id && disagree earlier.1 own.1) es) es

    none : (some : List Reference) → option_map (λ k. k.id) (find (λ k. not true && test k) some) ≡ None
    none [] = refl
    none (k ∷ some) = none some

    where_deleted : (b : Bool) → option_map (λ k. k.id) (find test ks) ≡ option_map (λ e. e.0) (find (clashes es) es)
        → option_map (λ k. k.id) (find (λ k. not b && test k) ks) ≡ (if b then None else option_map (λ e. e.0) (find (clashes es) es))
    where_deleted true rest = none ks
    where_deleted false rest = rest
