-- A byte more of a text.
use Rattle.std.proofs.Common.{◌≡◌, ℕ, ◌+◌, List, [], ◌∷◌, ◌++◌, take, drop, ap, sym, ◌∙◌}
use Rattle.std.proofs.Math.Seq.{take-add}
use Rattle.std.proofs.lemmas.List.{drop-drop}

pub take_next : (n : ℕ) (xs rest : List ℕ) (x : ℕ) → drop n xs ≡ x ∷ rest → take (n + 1) xs ≡ take n xs ++ x ∷ []
take_next n xs rest x e = take-add n 1 xs ∙ ap (λ (l : List ℕ). take n xs ++ take 1 l) e

pub drop_next : (n : ℕ) (xs rest : List ℕ) (x : ℕ) → drop n xs ≡ x ∷ rest → drop (n + 1) xs ≡ rest
drop_next n xs rest x e = sym (drop-drop 1 n xs) ∙ ap (λ (l : List ℕ). drop 1 l) e
