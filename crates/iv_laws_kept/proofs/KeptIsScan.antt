-- Kept violations are those that a scan finds.
use Rattle.std.proofs.Common.{◌≡◌, refl, ℕ, suc, ◌+◌, Bool, if◌then◌else◌, List, [], ◌∷◌, ◌++◌, map, filter, flat_map, slice_get, Some, sym, ap, subst, ◌∙◌, arith}
use Rattle.std.specs.List.{enumerate_from}
use Rattle.iv_laws_kept.specs.Types.{StoredRow, Constraint}
use Rattle.iv_machine.specs.Databases.{fault_at, violates, chosen_violations, scan}
use Rattle.iv_store.specs.Stores.{numbers_of}
use Rattle.iv_laws_levels.specs.RisingRows.{InOrder}
use Rattle.iv_laws_kept.specs.Kept.{Groups, KeysOnce, groups_of, Show, AllNamed, kept_rows, is_violating, fault_of, chosen_rows, kept}
use Rattle.iv_laws_kept.proofs.RisingNumbers.{same_numbers, rise_in_rising_order}
use Rattle.iv_laws_kept.proofs.Rows.{has_filtered, filtered_rise}
use Rattle.iv_laws_kept.proofs.Holding.{has_kept}
use Rattle.iv_laws_kept.proofs.RowByRow.{violates_is}

-- the rows of the violating groups are those that violate the constraint
pub kept_rows_are : (rows : List StoredRow) (constraints : List Constraint) (groups : Groups) (id : ℕ) (c : Constraint)
    → InOrder rows → AllNamed constraints → KeysOnce groups → Show rows constraints groups → slice_get constraints id ≡ Some c
    → kept_rows constraints groups id c ≡ numbers_of (filter (violates rows c) rows)
kept_rows_are rows constraints groups id c h all one show at =
    same_numbers (kept_rows constraints groups id c) (numbers_of (filter (violates rows c) rows))
    (rise_in_rising_order (flat_map (λ g. g.rows) (filter (is_violating constraints groups c) (groups_of groups id))))
    (filtered_rise (violates rows c) rows h)
    (λ n. has_kept rows constraints groups id c n h one show at ∙ sym (violates_is rows constraints groups id c n h all show at) ∙ sym (has_filtered (violates rows c) rows n h))

faults_of : (id : ℕ) (rows : List StoredRow) → map (fault_of id) (numbers_of rows) ≡ map (fault_at id) rows
faults_of id [] = refl
faults_of id (r ∷ rows) = λ i. fault_at id r ∷ faults_of id rows i

-- what is made of each constraint with its number
same_made : {A : Type 0} (f g : ℕ × Constraint → List A) (start : ℕ) (constraints : List Constraint)
    → ((place : ℕ) (c : Constraint) → slice_get constraints place ≡ Some c → f (start + place, c) ≡ g (start + place, c))
    → flat_map f (enumerate_from start constraints) ≡ flat_map g (enumerate_from start constraints)
same_made f g start [] h = refl
same_made f g start (c ∷ constraints) h =
    let here : start + 0 ≡ start = omega arith in
    λ i. subst (λ n. f (n, c) ≡ g (n, c)) here (h 0 c refl) i
    ++ same_made f g (start + 1) constraints (λ place d e. let there : start + suc place ≡ (start + 1) + place = omega arith in subst (λ n. f (n, d) ≡ g (n, d)) there (h (suc place) d e)) i

pub kept_is_the_scan : (rows : List StoredRow) (constraints : List Constraint) (groups : Groups) (chosen : ℕ → Bool)
    → InOrder rows → AllNamed constraints → KeysOnce groups → Show rows constraints groups
    → kept constraints groups chosen ≡ scan rows constraints chosen
kept_is_the_scan rows constraints groups chosen h all one show =
    same_made (λ k. chosen_rows constraints groups chosen k.0 k.1) (λ k. chosen_violations rows chosen k.0 k.1) 0 constraints (λ place c e.
    let number : 0 + place ≡ place = omega arith in
    subst (λ n. chosen_rows constraints groups chosen n c ≡ chosen_violations rows chosen n c) (sym number) (same place c e))
  where
    same : (id : ℕ) (c : Constraint) → slice_get constraints id ≡ Some c → chosen_rows constraints groups chosen id c ≡ chosen_violations rows chosen id c
    same id c e = ap (λ faults. if chosen id then faults else []) (ap (map (fault_of id)) (kept_rows_are rows constraints groups id c h all one show e) ∙ faults_of id (filter (violates rows c) rows))
