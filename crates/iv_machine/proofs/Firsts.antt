-- The first violation.
use Rattle.std.proofs.Common.{◌≡◌, ℕ, Bool, true, false, List, [], ◌∷◌, ◌++◌, refl, ap, cond, map, filter, find, option_map, length, suc, Some, None}
use Rattle.iv_machine.specs.Types.{Constraint, StoredRow}
use Rattle.iv_machine.specs.Databases.{violates, fault_at, violations, first}

-- the first of the items that pass
pub first_found : {A B : Type 0} (p : A → Bool) (f : A → B) (xs : List A) → first (map f (filter p xs)) ≡ option_map f (find p xs)
first_found p f [] = refl
first_found p f (x ∷ xs) =
    elim (p x) as (λ b. first (map f (cond b (x ∷ filter p xs) (filter p xs))) ≡ option_map f (cond b (Some x) (find p xs))) [
      | true ↦ refl
      | false ↦ first_found p f xs
    ]

pub first_of_violations : (rows : List StoredRow) (id : ℕ) (c : Constraint) → first (violations rows id c) ≡ option_map (fault_at id) (find (violates rows c) rows)
first_of_violations rows id c = first_found (violates rows c) (fault_at id) rows

-- the first of two lists one after the other
pub first_in_left : {A : Type 0} (xs ys : List A) (x : A) → first xs ≡ Some x → first (xs ++ ys) ≡ Some x
first_in_left [] ys x h = cc
first_in_left (z ∷ xs) ys x h = h

pub first_in_right : {A : Type 0} (xs ys : List A) → first xs ≡ None → first (xs ++ ys) ≡ first ys
first_in_right [] ys h = refl
first_in_right (z ∷ xs) ys h = cc

length_of_map : {A B : Type 0} (f : A → B) (xs : List A) → length (map f xs) ≡ length xs
length_of_map f [] = refl
length_of_map f (x ∷ xs) = ap suc (length_of_map f xs)

pub count_of_violations : (rows : List StoredRow) (id : ℕ) (c : Constraint) → length (violations rows id c) ≡ length (filter (violates rows c) rows)
count_of_violations rows id c = length_of_map (fault_at id) (filter (violates rows c) rows)
