-- Marks and the journal.
use Rattle.std.proofs.Common.{◌≡◌, refl, ℕ, zero, suc, ◌+◌, ◌-◌, ◌<◌, ◌≤◌, ◌⊎◌, inl, inr, Some, None, List, [], ◌∷◌, ◌++◌, length, take, drop, remove, slice_get, arith, sym, ap, subst, ◌∙◌}
use Rattle.std.proofs.lemmas.List.{length-append}
use Rattle.iv_store_index.specs.Types.{StoredRow, Change}
use Rattle.iv_store_rows.specs.declared.marked_point.MarkedPoint.{MarkedPoint}
use Rattle.iv_store_rows.specs.Histories.{rows_before, rows_before_all, rows_before_last}
use Rattle.iv_store_rows.proofs.Marks.{Ends, ends, ends_of, front_is, last_is}

-- ---- marks

pub taken_at : (n k : ℕ) (marks : List MarkedPoint) (m : MarkedPoint) → slice_get (take n marks) k ≡ Some m → slice_get marks k ≡ Some m
taken_at zero zero marks m e = cc
taken_at zero (suc k) marks m e = cc
taken_at (suc n) k [] m e = e
taken_at (suc n) zero (x ∷ marks) m e = e
taken_at (suc n) (suc k) (x ∷ marks) m e = taken_at n k marks m e

pub removed_at : (n k : ℕ) (marks : List MarkedPoint) (m : MarkedPoint) → slice_get (remove marks n) k ≡ Some m → (place : ℕ) × (slice_get marks place ≡ Some m)
removed_at zero k [] m e = (k, e)
removed_at (suc n) k [] m e = (k, e)
removed_at zero k (x ∷ marks) m e = (suc k, e)
removed_at (suc n) zero (x ∷ marks) m e = (zero, e)
removed_at (suc n) (suc k) (x ∷ marks) m e = let rest = removed_at n k marks m e in (suc rest.0, rest.1)

pub marked_at : (k : ℕ) (marks : List MarkedPoint) (new m : MarkedPoint) → slice_get (marks ++ new ∷ []) k ≡ Some m → (slice_get marks k ≡ Some m) ⊎ (new ≡ m)
marked_at zero [] new m e = inr cc
marked_at (suc k) [] new m e = cc
marked_at zero (x ∷ marks) new m e = inl e
marked_at (suc k) (x ∷ marks) new m e = marked_at k marks new m e

-- ---- the journal

joined : (xs ys : List Change) (rows : List StoredRow) → rows_before_all (xs ++ ys) rows ≡ rows_before_all xs (rows_before_all ys rows)
joined [] ys rows = refl
joined (c ∷ xs) ys rows = ap (rows_before c) (joined xs ys rows)

drop_more : (a : ℕ) (xs : List Change) (c : Change) → a ≤ length xs → drop a (xs ++ c ∷ []) ≡ drop a xs ++ c ∷ []
drop_more zero xs c le = refl
drop_more (suc a) [] c le = absurd (omega (arith, le))
drop_more (suc a) (x ∷ xs) c le = drop_more a xs c (omega (arith, le))

-- the rows before the changes from a place on, if one more is noted
pub before_more : (n : ℕ) (journal : List Change) (c : Change) (rows : List StoredRow) → n ≤ length journal
    → rows_before_all (drop n (journal ++ c ∷ [])) rows ≡ rows_before_all (drop n journal) (rows_before c rows)
before_more n journal c rows le = ap (λ l. rows_before_all l rows) (drop_more n journal c le) ∙ joined (drop n journal) (c ∷ []) rows

-- and if the last one is undone
pub before_fewer : (n : ℕ) (journal : List Change) (rows : List StoredRow) → 0 < length journal → n ≤ length (take (length journal - 1) journal)
    → rows_before_all (drop n (take (length journal - 1) journal)) (rows_before_last journal rows) ≡ rows_before_all (drop n journal) rows
before_fewer n journal rows any le = by (ends_of journal any)
  where
    by : Ends journal → rows_before_all (drop n (take (length journal - 1) journal)) (rows_before_last journal rows) ≡ rows_before_all (drop n journal) rows
    by (ends left c e) =
        let front : take (length journal - 1) journal ≡ left = front_is journal left c e in
        let within : n ≤ length left = subst (λ l. n ≤ length l) front le in
        ap (λ l. rows_before_all (drop n l) (rows_before_last journal rows)) front
        ∙ ap (λ o. rows_before_all (drop n left) (elim o [ Some c ↦ rows_before c rows | None ↦ rows ])) (last_is journal left c e)
        ∙ sym (ap (λ l. rows_before_all (drop n l) rows) e ∙ before_more n left c rows within)

pub fewer : (journal : List Change) → 0 < length journal → length (take (length journal - 1) journal) + 1 ≡ length journal
fewer journal any = by (ends_of journal any)
  where
    by : Ends journal → length (take (length journal - 1) journal) + 1 ≡ length journal
    by (ends left c e) = ap (λ (l : List Change). length l + 1) (front_is journal left c e) ∙ sym (ap length e ∙ length-append left (c ∷ []))
