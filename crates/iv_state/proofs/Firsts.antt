-- The first of a list, and whether the list is empty.
use Rattle.std.proofs.Common.{◌≡◌, ◌≢◌, List, [], ◌∷◌, Some, None, refl}
use Rattle.iv_machine.specs.Databases.{first}

pub none_first : {A : Type 0} (xs : List A) → first xs ≡ None → xs ≡ []
none_first [] h = refl
none_first (x ∷ xs) h = cc

pub some_first : {A : Type 0} (xs : List A) (x : A) → first xs ≡ Some x → xs ≢ []
some_first [] x h = cc
some_first (y ∷ xs) x h = λ e. cc
