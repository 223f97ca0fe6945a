-- Texts, one after another.
use Rattle.std.proofs.Common.{◌≡◌, ℕ, List, [], ◌∷◌, ◌++◌, map, refl, ap}
use Rattle.std.specs.List.{flat_map}
use Rattle.iv_program.specs.Dumps.{joined}

pub joined_texts : {A : Type 0} (text : A → List ℕ) (xs : List A) → flat_map text xs ≡ joined (map text xs)
joined_texts text [] = refl
joined_texts text (x ∷ xs) = ap (λ (l : List ℕ). text x ++ l) (joined_texts text xs)
