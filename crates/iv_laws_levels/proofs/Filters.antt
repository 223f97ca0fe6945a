-- Filters of lists.
use Rattle.std.proofs.Common.{◌≡◌, refl, Bool, true, false, ◌&&◌, ◌||◌, if◌then◌else◌, List, [], ◌∷◌, filter, ap}
use Rattle.std.specs.List.{list_any}
use Rattle.std.proofs.lemmas.Bool.{true≢false}

-- a filter of a filter
pub filter_both : {A : Type 0} (p q : A → Bool) (xs : List A) → filter p (filter q xs) ≡ filter (λ x. q x && p x) xs
filter_both p q [] = refl
filter_both p q (x ∷ xs) =
    elim (q x) as (λ b. filter p (if b then x ∷ filter q xs else filter q xs) ≡ (if b && p x then x ∷ filter (λ y. q y && p y) xs else filter (λ y. q y && p y) xs)) [
      | true ↦ ap (λ l. if p x then x ∷ l else l) (filter_both p q xs)
      | false ↦ filter_both p q xs
    ]

-- none passes if no element does
pub filter_none : {A : Type 0} (p : A → Bool) (xs : List A) → list_any p xs ≡ false → filter p xs ≡ []
filter_none p [] e = refl
filter_none p (x ∷ xs) e =
    elim (p x) as (λ b. (b || list_any p xs) ≡ false → (if b then x ∷ filter p xs else filter p xs) ≡ []) [
      | true ↦ λ h. absurd (true≢false h)
      | false ↦ λ h. filter_none p xs h
    ] e

-- whether an element passes is whether the filter has one
pub any_of_filter : {A : Type 0} (p : A → Bool) (xs : List A) → list_any p xs ≡ list_any (λ _. true) (filter p xs)
any_of_filter p [] = refl
any_of_filter p (x ∷ xs) =
    elim (p x) as (λ b. (b || list_any p xs) ≡ list_any (λ _. true) (if b then x ∷ filter p xs else filter p xs)) [
      | true ↦ refl
      | false ↦ any_of_filter p xs
    ]

-- whether an element of a filter passes
pub any_filter : {A : Type 0} (p q : A → Bool) (xs : List A) → list_any p (filter q xs) ≡ list_any (λ x. q x && p x) xs
any_filter p q [] = refl
any_filter p q (x ∷ xs) =
    elim (q x) as (λ b. list_any p (if b then x ∷ filter q xs else filter q xs) ≡ ((b && p x) || list_any (λ y. q y && p y) xs)) [
      | true ↦ ap (λ b. p x || b) (any_filter p q xs)
      | false ↦ any_filter p q xs
    ]
