-- The elements of a list by their numbers, from a place on.
use Rattle.std.proofs.Common.{◌≡◌, refl, ℕ, ◌+◌, ◌<◌, ◌≤◌, Bool, List, [], ◌∷◌, ap, sym, length, drop, get_or, Option, None, is_some}
use Rattle.std.specs.List.{enumerate_from, list_any}
use Rattle.std.specs.Option.{option_or}
use Rattle.iv_resolve_scope.proofs.Places.{next_of, none_left}
use Rattle.iv_resolution.specs.Items.{first_of}
use Rattle.iv_resolve_reasons.proofs.ShapesTold.{or_told}

pub numbered_step : {A B : Type 0} (f : ℕ × A → Option B) (number : ℕ) (xs : List A) (i : ℕ) (x : A) → i < length xs → x ≡ get_or xs i x
    → first_of f (enumerate_from number (drop i xs)) ≡ option_or (f (number, x)) (first_of f (enumerate_from (number + 1) (drop (i + 1) xs)))
numbered_step {A = A} f number xs i x h e = ap (λ (ys : List A). first_of f (enumerate_from number ys)) (next_of xs i x h e)

pub numbered_end : {A B : Type 0} (f : ℕ × A → Option B) (number : ℕ) (xs : List A) (i : ℕ) → length xs ≤ i → first_of f (enumerate_from number (drop i xs)) ≡ None
numbered_end {A = A} f number xs i h = ap (λ (ys : List A). first_of f (enumerate_from number ys)) (none_left xs i h)

-- the next of those that are left
pub numbered_next : {A B : Type 0} (f : ℕ × A → Option B) (number : ℕ) (left rest : List A) (x : A) → x ∷ rest ≡ left
    → first_of f (enumerate_from number left) ≡ option_or (f (number, x)) (first_of f (enumerate_from (number + 1) rest))
numbered_next {A = A} f number left rest x h = sym (ap (λ (ys : List A). first_of f (enumerate_from number ys)) h)

pub numbered_told : {A B : Type 0} (f : ℕ × A → Option B) (g : A → Bool) → ((number : ℕ) (x : A) → is_some (f (number, x)) ≡ g x) → (number : ℕ) (xs : List A)
    → is_some (first_of f (enumerate_from number xs)) ≡ list_any g xs
numbered_told f g h number [] = refl
numbered_told f g h number (x ∷ xs) =
    or_told (f (number, x)) (first_of f (enumerate_from (number + 1) xs)) (g x) (list_any g xs) (h number x) (numbered_told f g h (number + 1) xs)
