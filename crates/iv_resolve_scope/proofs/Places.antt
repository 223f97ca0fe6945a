-- A list from a place on, and two lists side by side.
use Rattle.std.proofs.Common.{◌≡◌, refl, ℕ, ◌+◌, ◌<◌, ◌≤◌, Bool, true, false, ◌||◌, List, [], ◌∷◌, ◌∙◌, sym, ap, inl, inr, length, drop, get_or, slice_get, Some, None, zip, suc, arith}
use Rattle.std.proofs.Math.Seq.{drop-cons}
use Rattle.std.proofs.lemmas.Grind.{common_steps}
use Rattle.std.proofs.lemmas.Option.{slice_get_cases, slice_get_within, get_or_from_slice_get}

pub next_of : {X : Type 0} (xs : List X) (i : ℕ) (x : X) → i < length xs → x ≡ get_or xs i x → drop i xs ≡ x ∷ drop (i + 1) xs
next_of xs i x h g = let n : suc i ≡ i + 1 = omega arith in drop-cons xs i x h ∙ ap (λ y. y ∷ drop (suc i) xs) (sym g) ∙ ap (λ k. x ∷ drop k xs) n

pub none_left : {X : Type 0} (xs : List X) (i : ℕ) → length xs ≤ i → drop i xs ≡ []
none_left xs i h = grind (arith, common_steps)

pub next_got : {X : Type 0} (xs : List X) (i : ℕ) (x : X) → slice_get xs i ≡ Some x → drop i xs ≡ x ∷ drop (i + 1) xs
next_got xs i x g = next_of xs i x (slice_get_within xs i x g) (sym (get_or_from_slice_get xs i x x g))

pub some_not_none : {X : Type 0} (x : X) → Some x ≡ None → ⊥
some_not_none x h = cc

pub none_at : {X : Type 0} (xs : List X) (i : ℕ) → slice_get xs i ≡ None → drop i xs ≡ []
none_at xs i h = elim ((slice_get_cases xs i).1) [
  | inl within ↦ absurd (some_not_none within.0 (sym within.2 ∙ h))
  | inr past ↦ none_left xs i past.0
]

pub no_pair : {X Y : Type 0} (xs : List X) (ys : List Y) → ys ≡ [] → zip xs ys ≡ []
no_pair [] ys h = refl
no_pair (x ∷ xs) ys h = rw h refl

-- the first of an OR is true, or it is not
pub or_true : (whole first more : Bool) → whole ≡ (first || more) → first ≡ true → true ≡ whole
or_true whole first more h g = sym (h ∙ ap (λ b. b || more) g)

pub or_false : (whole first more : Bool) → whole ≡ (first || more) → first ≡ false → whole ≡ more
or_false whole first more h g = h ∙ ap (λ b. b || more) g
