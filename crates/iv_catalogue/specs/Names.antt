-- Names: which are in use, which come twice, and the generated names of constraints.
use Rattle.std.specs.Prelude.{ℕ, Bool, false, ◌||◌, List, [], ◌∷◌, ◌++◌, codes, decimal}
use Rattle.std.specs.List.{list_any}
use Rattle.std.specs.Str.{bytes_eq}

-- the name is one of these
abbrev pub is_among : List (List ℕ) → List ℕ → Bool
is_among names name = list_any (bytes_eq name) names

-- some name of the list is one of the earlier ones, or comes twice in the list
unfoldable pub has_repeated : List (List ℕ) → List (List ℕ) → Bool
has_repeated earlier [] = false
has_repeated earlier (name ∷ names) = is_among earlier name || has_repeated (earlier ++ name ∷ []) names

-- an unnamed constraint is called after its table and its place among the table's constraints, from 1: T_C1, T_C2, ..
unfoldable pub generated_name : List ℕ → ℕ → List ℕ
generated_name table place = table ++ (codes "_C" ++ decimal place)
