-- Lists in rising number, if a function tells the number of an item.
use Rattle.std.specs.Prelude.{ℕ, ◌<◌, ◌^◌, Bool, if◌then◌else◌, ◌==◌, nat_lt, List, [], ◌∷◌}
use Rattle.std.specs.List.{list_any, prefix_len}

-- the numbers rise, from above this one, and are less than 2 ^ 63
abbrev pub RiseBy : {A : Type 0} → (A → ℕ) → ℕ → List A → Type 0
RiseBy number low [] = Unit {0}
RiseBy number low (x ∷ xs) = (low < number x) × (number x < 2 ^ 63) × RiseBy number (number x) xs

-- the items with this one among them, in the place of one that has its number
abbrev pub with_item : {A : Type 0} → (A → ℕ) → A → List A → List A
with_item number x [] = x ∷ []
with_item number x (y ∷ ys) =
    if nat_lt (number x) (number y) then x ∷ y ∷ ys else (if number x == number y then x ∷ ys else y ∷ with_item number x ys)

-- one of the items has this number
abbrev pub has_number : {A : Type 0} → (A → ℕ) → List A → ℕ → Bool
has_number number xs n = list_any (λ x. number x == n) xs

-- how many items at the front have numbers below this one
abbrev pub place_by : {A : Type 0} → (A → ℕ) → ℕ → List A → ℕ
place_by number n xs = prefix_len (λ x. nat_lt (number x) n) xs
