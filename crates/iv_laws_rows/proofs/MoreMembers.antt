-- The elements of lists, by place and by what each is.
use Rattle.std.proofs.Common.{◌≡◌, ℕ, zero, suc, ◌+◌, Bool, true, List, [], ◌∷◌, Some, refl, sym, ap, inl, inr, slice_get}
use Rattle.std.proofs.lemmas.Bool.{and_from}
use Rattle.std.proofs.lemmas.Option.{same_Some}
use Rattle.std.specs.List.{list_all, enumerate_from}
use Rattle.iv_laws_levels.proofs.Members.{In}

pub at_in : {A : Type 0} (xs : List A) (j : ℕ) (x : A) → slice_get xs j ≡ Some x → In x xs
at_in [] j x h = cc
at_in (y ∷ ys) zero x h = inl (sym (same_Some y x h))
at_in (y ∷ ys) (suc j) x h = inr (at_in ys j x h)

pub in_at : {A : Type 0} (xs : List A) (x : A) → In x xs → (j : ℕ) × (slice_get xs j ≡ Some x)
in_at [] x i = absurd i
in_at {A = A} (y ∷ ys) x (inl is) = (zero, ap (λ (z : A). Some z) (sym is))
in_at (y ∷ ys) x (inr i) = let rest = in_at ys x i in (suc rest.0, rest.1)

pub all_by_in : {A : Type 0} (p : A → Bool) (xs : List A) → ((x : A) → In x xs → p x ≡ true) → list_all p xs ≡ true
all_by_in p [] h = refl
all_by_in p (x ∷ xs) h = and_from _ _ (h x (inl refl)) (all_by_in p xs (λ y i. h y (inr i)))

-- what has its place is an element
pub enumerated_in : {A : Type 0} (from : ℕ) (xs : List A) (p : ℕ × A) → In p (enumerate_from from xs) → In p.1 xs
enumerated_in from [] p i = absurd i
enumerated_in {A = A} from (x ∷ xs) p (inl is) = inl (ap (λ (q : ℕ × A). q.1) is)
enumerated_in from (x ∷ xs) p (inr i) = inr (enumerated_in (from + 1) xs p i)
