-- What a scan finds for more constraints, and for some of the constraints.
use Rattle.std.proofs.Common.{◌≡◌, ℕ, ◌+◌, ◌<◌, ◌≤◌, Bool, true, false, not, ◌&&◌, ◌==◌, List, [], ◌∷◌, ◌++◌, ◌∙◌, refl, ap, cond, map, filter, flat_map, length, drop, arith}
use Rattle.std.specs.List.{enumerate_from}
use Rattle.std.proofs.lemmas.Bool.Decides.{nat_tests}
use Rattle.std.proofs.lemmas.Grind.{common_steps}
use Rattle.iv_machine.specs.Types.{Constraint, Fault, StoredRow}
use Rattle.iv_catalogue.specs.Catalogues.{AllOn}
use Rattle.iv_machine.specs.Invariants.{Below}
use Rattle.iv_machine.specs.Databases.{satisfies, violates, fault_at, violations, chosen_violations, scan}

-- the violations of the chosen ones among constraints of which the first has this number
abbrev pub scan_from : List StoredRow → (ℕ → Bool) → ℕ → List Constraint → List Fault
scan_from rows chosen id constraints = flat_map (λ k. chosen_violations rows chosen k.0 k.1) (enumerate_from id constraints)

-- ---- lists

pub left_empty : {A : Type 0} (xs ys : List A) → xs ++ ys ≡ [] → xs ≡ []
left_empty [] ys h = refl
left_empty (x ∷ xs) ys h = cc

pub right_empty : {A : Type 0} (xs ys : List A) → xs ++ ys ≡ [] → ys ≡ []
right_empty [] ys h = h
right_empty (x ∷ xs) ys h = cc

pub both_empty : {A : Type 0} (xs ys : List A) → xs ≡ [] → ys ≡ [] → xs ++ ys ≡ []
both_empty xs ys h k = ap (λ l. l ++ ys) h ∙ k

-- ---- some of the constraints

chosen_of_none : (rows : List StoredRow) (chosen : ℕ → Bool) (id : ℕ) (c : Constraint) → violations rows id c ≡ [] → chosen_violations rows chosen id c ≡ []
chosen_of_none rows chosen id c h = elim (chosen id) as (λ b. cond b (violations rows id c) [] ≡ []) [ true ↦ h | false ↦ refl ]

none_of_some_from : (rows : List StoredRow) (chosen : ℕ → Bool) (id : ℕ) (cs : List Constraint) → scan_from rows (λ _. true) id cs ≡ [] → scan_from rows chosen id cs ≡ []
none_of_some_from rows chosen id [] h = refl
none_of_some_from rows chosen id (c ∷ cs) h =
    both_empty (chosen_violations rows chosen id c) (scan_from rows chosen (id + 1) cs)
    (chosen_of_none rows chosen id c (left_empty (violations rows id c) (scan_from rows (λ _. true) (id + 1) cs) h))
    (none_of_some_from rows chosen (id + 1) cs (right_empty (violations rows id c) (scan_from rows (λ _. true) (id + 1) cs) h))

-- if nothing is violated, none of some constraints is
pub none_of_some : (rows : List StoredRow) (chosen : ℕ → Bool) (cs : List Constraint) → scan rows cs (λ _. true) ≡ [] → scan rows cs chosen ≡ []
none_of_some rows chosen cs h = none_of_some_from rows chosen 0 cs h

-- ---- more constraints

-- the constraints are of the table with this number
pub below_more : (n m : ℕ) (rows : List StoredRow) → n ≤ m → Below n rows → Below m rows
below_more n m [] h b = tt
below_more n m (r ∷ rows) h b = (omega (arith, h, b.0), below_more n m rows h b.1)

other_table : (r : StoredRow) (c : Constraint) (n : ℕ) → r.table < n → c.table ≡ n → (r.table == c.table) ≡ false
other_table r c n h e = grind (arith, nat_tests)

nothing_violates : (all : List StoredRow) (n : ℕ) (rows : List StoredRow) (c : Constraint) → Below n rows → c.table ≡ n → filter (violates all c) rows ≡ []
nothing_violates all n [] c b e = refl
nothing_violates all n (r ∷ rows) c b e =
    ap (λ t. cond (t && not (satisfies all c r)) (r ∷ filter (violates all c) rows) (filter (violates all c) rows)) (other_table r c n b.0 e)
    ∙ nothing_violates all n rows c b.1 e

upon_none : (rows : List StoredRow) (chosen : ℕ → Bool) (n id : ℕ) (cs : List Constraint) → Below n rows → AllOn n cs → scan_from rows chosen id cs ≡ []
upon_none rows chosen n id [] b u = refl
upon_none rows chosen n id (c ∷ cs) b u =
    both_empty (chosen_violations rows chosen id c) (scan_from rows chosen (id + 1) cs)
    (chosen_of_none rows chosen id c (ap (map (fault_at id)) (nothing_violates rows n rows c b u.0)))
    (upon_none rows chosen n (id + 1) cs b u.1)

more_constraints_from : (rows : List StoredRow) (chosen : ℕ → Bool) (n id : ℕ) (cs ks : List Constraint) → Below n rows → AllOn n ks
    → scan_from rows chosen id (cs ++ ks) ≡ scan_from rows chosen id cs
more_constraints_from rows chosen n id [] ks b u = upon_none rows chosen n id ks b u
more_constraints_from rows chosen n id (c ∷ cs) ks b u = ap (λ l. chosen_violations rows chosen id c ++ l) (more_constraints_from rows chosen n (id + 1) cs ks b u)

-- constraints of a table that has no rows add nothing to a scan
pub more_constraints : (rows : List StoredRow) (chosen : ℕ → Bool) (n : ℕ) (cs ks : List Constraint) → Below n rows → AllOn n ks → scan rows (cs ++ ks) chosen ≡ scan rows cs chosen
more_constraints rows chosen n cs ks b u = more_constraints_from rows chosen n 0 cs ks b u

-- nothing is left from the end on
pub no_item : {A : Type 0} (xs : List A) (i : ℕ) → length xs ≤ i → drop i xs ≡ []
no_item xs i h = grind (arith, common_steps)
