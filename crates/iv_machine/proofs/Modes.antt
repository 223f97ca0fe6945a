-- If no immediate constraint is violated, the violations are those of the deferred ones.
use Rattle.std.proofs.Common.{◌≡◌, ℕ, ◌+◌, Bool, true, false, not, List, [], ◌∷◌, ◌++◌, refl, cond}
use Rattle.iv_machine.specs.Types.{StoredRow, ConstraintMode, Fault, Constraint}
use Rattle.iv_machine.specs.Types.which.{Immediate, Deferred}
use Rattle.iv_machine.specs.Databases.{violations, chosen_violations, scan, is_chosen, is_deferred}
use Rattle.iv_machine.proofs.Scans.{scan_from}

first_none : {A : Type 0} (xs ys : List A) → xs ++ ys ≡ [] → xs ≡ []
first_none [] ys h = refl
first_none (x ∷ xs) ys h = cc

second_none : {A : Type 0} (xs ys : List A) → xs ++ ys ≡ [] → ys ≡ []
second_none [] ys h = h
second_none (x ∷ xs) ys h = cc

both_none : {A : Type 0} (xs ys : List A) → xs ≡ [] → ys ≡ [] → xs ++ ys ≡ []
both_none xs ys h k = rw (h, k) refl

-- a constraint is deferred or not
of_one : (found : List Fault) (deferred : Bool) → cond (not deferred) found [] ≡ [] → cond deferred found [] ≡ [] → found ≡ []
of_one found true i d = d
of_one found false i d = i

none_from : (rows : List StoredRow) (modes : List ConstraintMode) (id : ℕ) (ks : List Constraint)
    → scan_from rows (is_chosen modes Immediate) id ks ≡ [] → scan_from rows (is_chosen modes Deferred) id ks ≡ [] → scan_from rows (λ _. true) id ks ≡ []
none_from rows modes id [] i d = refl
none_from rows modes id (k ∷ ks) i d =
    both_none (violations rows id k) (scan_from rows (λ _. true) (id + 1) ks)
    (of_one (violations rows id k) (is_deferred modes id)
    (first_none (chosen_violations rows (is_chosen modes Immediate) id k) (scan_from rows (is_chosen modes Immediate) (id + 1) ks) i)
    (first_none (chosen_violations rows (is_chosen modes Deferred) id k) (scan_from rows (is_chosen modes Deferred) (id + 1) ks) d))
    (none_from rows modes (id + 1) ks
    (second_none (chosen_violations rows (is_chosen modes Immediate) id k) (scan_from rows (is_chosen modes Immediate) (id + 1) ks) i)
    (second_none (chosen_violations rows (is_chosen modes Deferred) id k) (scan_from rows (is_chosen modes Deferred) (id + 1) ks) d))

pub none_where_none_deferred : (rows : List StoredRow) (modes : List ConstraintMode) (ks : List Constraint)
    → scan rows ks (is_chosen modes Immediate) ≡ [] → scan rows ks (is_chosen modes Deferred) ≡ [] → scan rows ks (λ _. true) ≡ []
none_where_none_deferred rows modes ks i d = none_from rows modes 0 ks i d
