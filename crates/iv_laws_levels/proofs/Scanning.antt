-- What a scan finds if other scans find nothing.
use Rattle.std.proofs.Common.{◌≡◌, refl, ℕ, ◌+◌, Bool, true, false, not, ◌&&◌, List, [], ◌∷◌, ◌++◌, length, cond, None, sym, ap, ◌∙◌, arith}
use Rattle.std.specs.Bool.{◌==◌}
use Rattle.std.proofs.lemmas.Bool.{eq-eqb}
use Rattle.iv_laws_levels.specs.Types.{StoredRow, Constraint, Fault}
use Rattle.iv_machine.specs.Databases.{violations, chosen_violations, scan, first}
use Rattle.iv_machine.proofs.Scans.{scan_from, left_empty, right_empty, both_empty}
use Rattle.iv_laws_levels.proofs.RowNumbers.{some_none}

pub no_first : {A : Type 0} (xs : List A) → first xs ≡ None → xs ≡ []
no_first [] h = refl
no_first (x ∷ xs) h = absurd (some_none x h)

-- ---- modes

-- of a constraint that is deferred before, and after
either_chosen : (faults : List Fault) (before after : Bool) → cond (not before) faults [] ≡ [] → cond (before && not after) faults [] ≡ [] → cond (not after) faults [] ≡ []
either_chosen faults before true h k = refl
either_chosen faults true false h k = k
either_chosen faults false false h k = h

module _ (rows : List StoredRow) (before after : ℕ → Bool) where
  immediate_from : (id : ℕ) (cs : List Constraint) → scan_from rows (λ i. not (before i)) id cs ≡ [] → scan_from rows (λ i. before i && not (after i)) id cs ≡ []
      → scan_from rows (λ i. not (after i)) id cs ≡ []
  immediate_from id [] h k = refl
  immediate_from id (c ∷ cs) h k =
      both_empty (chosen_violations rows (λ i. not (after i)) id c) (scan_from rows (λ i. not (after i)) (id + 1) cs)
      (either_chosen (violations rows id c) (before id) (after id)
      (left_empty (chosen_violations rows (λ i. not (before i)) id c) (scan_from rows (λ i. not (before i)) (id + 1) cs) h)
      (left_empty (chosen_violations rows (λ i. before i && not (after i)) id c) (scan_from rows (λ i. before i && not (after i)) (id + 1) cs) k))
      (immediate_from (id + 1) cs
      (right_empty (chosen_violations rows (λ i. not (before i)) id c) (scan_from rows (λ i. not (before i)) (id + 1) cs) h)
      (right_empty (chosen_violations rows (λ i. before i && not (after i)) id c) (scan_from rows (λ i. before i && not (after i)) (id + 1) cs) k))

  -- if no constraint that was immediate is violated, and none that is made so, none is that is immediate then
  pub none_immediate : (cs : List Constraint) → scan rows cs (λ i. not (before i)) ≡ [] → scan rows cs (λ i. before i && not (after i)) ≡ [] → scan rows cs (λ i. not (after i)) ≡ []
  none_immediate cs h k = immediate_from 0 cs h k

-- ---- a constraint more

module _ (rows : List StoredRow) (k : Constraint) (n : ℕ) where
  one_more_from : (id : ℕ) (cs : List Constraint) → id + length cs ≡ n → scan_from rows (λ _. true) id cs ≡ []
      → scan_from rows (λ i. i == n) id (cs ++ k ∷ []) ≡ [] → scan_from rows (λ _. true) id (cs ++ k ∷ []) ≡ []
  one_more_from id [] e h one =
      let is : (id == n) ≡ true = eq-eqb id n (omega (arith, e)) in
      ap (λ b. cond b (violations rows id k) [] ++ []) (sym is) ∙ one
  one_more_from id (c ∷ cs) e h one =
      both_empty (violations rows id c) (scan_from rows (λ _. true) (id + 1) (cs ++ k ∷ []))
      (left_empty (violations rows id c) (scan_from rows (λ _. true) (id + 1) cs) h)
      (one_more_from (id + 1) cs (omega (arith, e)) (right_empty (violations rows id c) (scan_from rows (λ _. true) (id + 1) cs) h)
      (right_empty (chosen_violations rows (λ i. i == n) id c) (scan_from rows (λ i. i == n) (id + 1) (cs ++ k ∷ [])) one))

-- if nothing is violated, and the new constraint isn't, nothing is
pub one_more : (rows : List StoredRow) (cs : List Constraint) (k : Constraint) → scan rows cs (λ _. true) ≡ []
    → scan rows (cs ++ k ∷ []) (λ i. i == length cs) ≡ [] → scan rows (cs ++ k ∷ []) (λ _. true) ≡ []
one_more rows cs k h one = one_more_from rows k (length cs) 0 cs (omega arith) h one
