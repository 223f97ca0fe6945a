-- What is found in a list.
use Rattle.std.proofs.Common.{◌≡◌, ℕ, Bool, true, false, List, [], ◌∷◌, ◌∙◌, refl, ap, cond, length, nat_lt, ◌+◌, suc, arith, is_some, position, Some, None}
use Rattle.std.specs.List.{list_any, position_or_len}
use Rattle.std.proofs.lemmas.Bool.Decides.{nat_tests}

some_where : (b : Bool) (n : ℕ) → is_some (cond b (Some n) None) ≡ b
some_where true n = refl
some_where false n = refl

one_less : (m n : ℕ) → nat_lt (suc m) (suc n) ≡ nat_lt m n
one_less m n = grind (arith, nat_tests)

some_first : (n : ℕ) → nat_lt 0 (suc n) ≡ true
some_first n = grind (arith, nat_tests)

passes : {X : Type 0} (p : X → Bool) (x : X) (xs : List X) (b : Bool) → p x ≡ b
    → nat_lt (position_or_len p xs) (length xs) ≡ list_any p xs → nat_lt (position_or_len p (x ∷ xs)) (length (x ∷ xs)) ≡ list_any p (x ∷ xs)
passes p x xs true e h = rw e (some_first (length xs))
passes p x xs false e h =
    let one : 1 + position_or_len p xs ≡ suc (position_or_len p xs) = omega arith in
    rw e (ap (λ k. nat_lt k (suc (length xs))) one ∙ one_less (position_or_len p xs) (length xs) ∙ h)

before_end : {X : Type 0} (p : X → Bool) (xs : List X) → nat_lt (position_or_len p xs) (length xs) ≡ list_any p xs
before_end p [] = refl
before_end p (x ∷ xs) = passes p x xs (p x) refl (before_end p xs)

-- an item that passes is found if some item passes
pub found : {X : Type 0} (p : X → Bool) (xs : List X) → is_some (position p xs) ≡ list_any p xs
found p xs = some_where (nat_lt (position_or_len p xs) (length xs)) (position_or_len p xs) ∙ before_end p xs
