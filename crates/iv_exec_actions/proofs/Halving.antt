-- The change of a row among changes by rising row number, by halving.
use Rattle.std.proofs.Common.{◌≡◌, refl, ℕ, zero, suc, ◌+◌, ◌<◌, ◌≤◌, if◌then◌else◌, List, [], ◌∷◌, length, get_or, Some, None, sym, ap, ◌∙◌, ◌⊎◌, inl, inr, arith}
use Rattle.std.specs.Bool.{◌==◌}
use Rattle.std.specs.List.{find}
use Rattle.std.proofs.lemmas.Bool.{cases_lt, eq-eqb, ne_eqb}
use Rattle.iv_expr.specs.declared.row.Change.{Change}
use Rattle.iv_expr.specs.Changes.{RisingChangesFrom, RisingChanges}

-- a change at a place is above the number that all are above
above_all : (low : ℕ) (changes : List Change) (i : ℕ) (c : Change) → RisingChangesFrom low changes → i < length changes → c ≡ get_or changes i c → low < c.row
above_all low [] i c h l is = absurd (omega (arith, l))
above_all low (d ∷ changes) zero c h l is = let same = ap (λ y. y.row) is in omega (arith, same, h.0)
above_all low (d ∷ changes) (suc i) c h l is = let rest = above_all d.row changes i c h.1 (omega (arith, l)) is in omega (arith, rest, h.0)

pub found_here : (low number : ℕ) (changes : List Change) (i : ℕ) (c : Change) → RisingChangesFrom low changes → i < length changes → c ≡ get_or changes i c
    → c.row ≡ number → find (λ x. x.row == number) changes ≡ Some c
found_here low number [] i c h l is e = absurd (omega (arith, l))
found_here low number (d ∷ changes) zero c h l is e =
    ap (λ b. if b then Some d else find (λ x. x.row == number) changes) (eq-eqb d.row number (ap (λ y. y.row) (sym is) ∙ e)) ∙ ap Some (sym is)
found_here low number (d ∷ changes) (suc i) c h l is e =
    let above = above_all d.row changes i c h.1 (omega (arith, l)) is in
    ap (λ b. if b then Some d else find (λ x. x.row == number) changes) (ne_eqb d.row number (λ f. absurd (omega (arith, above, f, e))))
    ∙ found_here d.row number changes i c h.1 (omega (arith, l)) is e

-- the row numbers rise with the places
rising_places : (low : ℕ) (changes : List Change) (i j : ℕ) (c d : Change) → RisingChangesFrom low changes → i ≤ j → j < length changes
    → c ≡ get_or changes i c → d ≡ get_or changes j d → c.row ≤ d.row
rising_places low [] i j c d h le l is is2 = absurd (omega (arith, l))
rising_places low (x ∷ changes) zero zero c d h le l is is2 =
    let first = ap (λ y. y.row) is in let second = ap (λ y. y.row) is2 in omega (arith, first, second)
rising_places low (x ∷ changes) zero (suc j) c d h le l is is2 =
    let first = ap (λ y. y.row) is in let above = above_all x.row changes j d h.1 (omega (arith, l)) is2 in omega (arith, first, above)
rising_places low (x ∷ changes) (suc i) zero c d h le l is is2 = absurd (omega (arith, le))
rising_places low (x ∷ changes) (suc i) (suc j) c d h le l is is2 =
    rising_places x.row changes i j c d h.1 (omega (arith, le)) (omega (arith, l)) is is2

-- The changes before `low` are of lower rows, and those from `high` on of higher ones.
pub record Within (number : ℕ) (changes : List Change) (low high : ℕ) : Type 0 where
  pub within : high ≤ length changes
  pub lower : (i : ℕ) (c : Change) → i < low → i < length changes → c ≡ get_or changes i c → c.row < number
  pub higher : (i : ℕ) (c : Change) → high ≤ i → i < length changes → c ≡ get_or changes i c → number < c.row

pub above_middle : (number : ℕ) (changes : List Change) (low high middle : ℕ) (d : Change) → RisingChanges changes → middle < length changes
    → d ≡ get_or changes middle d → d.row < number → Within number changes low high → Within number changes (middle + 1) high
above_middle number changes low high middle d h l is less w = record {
  within = w.within;
  lower = λ i c below short here. let up = rising_places 0 changes i middle c d h (omega (arith, below)) l here is in omega (arith, up, less);
  higher = w.higher;
}

pub below_middle : (number : ℕ) (changes : List Change) (low high middle : ℕ) (d : Change) → RisingChanges changes → middle < length changes
    → d ≡ get_or changes middle d → number < d.row → Within number changes low high → Within number changes low middle
below_middle number changes low high middle d h l is more w = record {
  within = omega (arith, l);
  lower = w.lower;
  higher = λ i c from short here. let up = rising_places 0 changes middle i d c h from short is here in omega (arith, up, more);
}

none_here : (number : ℕ) (changes : List Change) → ((i : ℕ) (c : Change) → i < length changes → c ≡ get_or changes i c → c.row ≡ number → ⊥)
    → find (λ x. x.row == number) changes ≡ None
none_here number [] h = refl
none_here number (d ∷ changes) h =
    ap (λ b. if b then Some d else find (λ x. x.row == number) changes) (ne_eqb d.row number (λ e. h 0 d (omega arith) refl e))
    ∙ none_here number changes (λ i c l is e. h (suc i) c (omega (arith, l)) is e)

pub found_nowhere : (number : ℕ) (changes : List Change) (low high : ℕ) → high ≤ low → Within number changes low high
    → find (λ x. x.row == number) changes ≡ None
found_nowhere number changes low high le w = none_here number changes (λ i c l is e. by i c l is e (cases_lt i low))
  where
    by : (i : ℕ) (c : Change) → i < length changes → c ≡ get_or changes i c → c.row ≡ number → (i < low) ⊎ (low ≤ i) → ⊥
    by i c l is e (inl below) = let less = w.lower i c below l is in omega (arith, less, e)
    by i c l is e (inr from) = let more = w.higher i c (omega (arith, from, le)) l is in omega (arith, more, e)
