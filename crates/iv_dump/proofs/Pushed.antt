-- A list of scripts with one more.
use Rattle.std.proofs.Common.{◌≡◌, ℕ, ◌≤◌, List, [], ◌∷◌, ◌++◌, length, map}
use Rattle.std.proofs.lemmas.List.{map-append}
use Rattle.iv_dump.specs.Scripts.{AreShort, LONGEST_SCRIPT}

pub short_pushed : {A : Type 0} (text : A → List ℕ) (xs : List A) (x : A) → AreShort (map text xs) → length (text x) ≤ LONGEST_SCRIPT
    → AreShort (map text (xs ++ x ∷ []))
short_pushed text [] x h l = (l, tt {0})
short_pushed text (y ∷ xs) x (h, hs) l = (h, short_pushed text xs x hs l)

pub text_pushed : {A : Type 0} (text : A → List ℕ) (xs : List A) (x : A) → map text (xs ++ x ∷ []) ≡ map text xs ++ text x ∷ []
text_pushed text xs x = map-append text xs (x ∷ [])
