-- The first row of a table above a number is that of the next number of the table.
use Rattle.std.proofs.Common.{◌≡◌, ℕ, ◌<◌, ◌≤◌, ◌⊎◌, inl, inr, true, false, if◌then◌else◌, ◌==◌, Option, Some, None, List, [], ◌∷◌, arith, refl, ap, sym, subst, ◌∙◌}
use Rattle.std.proofs.lemmas.Bool.{cases_Bool}
use Rattle.std.specs.Prelude.{nat_lt}
use Rattle.iv_expr.specs.declared.row.StoredRow.{StoredRow}
use Rattle.iv_expr.specs.Scopes.{Rises, table_rows, row_above}
use Rattle.iv_machine.specs.Databases.{row_at}
use Rattle.iv_store_rows.specs.declared.slot.Slot.{Slot}
use Rattle.iv_store_rows.specs.InSlots.{live_rows}
use Rattle.iv_store_rows.specs.Filing.{held_for, is_filed, Covers, Files, row_of}
use Rattle.iv_numbers.specs.Rows.{Rows, IsRising, number_above}
use Rattle.iv_numbers.proofs.RowsAbove.{is_above, above_least, above_none}
use Rattle.iv_store_rows.proofs.ByNumber.{less, below_tells, same_tells, equal_itself}
use Rattle.iv_store_rows.proofs.Rows.{found, passed, none_at, found_above, part_rises}
use Rattle.iv_store_rows.proofs.SlotLaws.{live_rises}

-- ---- the first row above a number

-- what is found later is found with one more in front
later : (low n : ℕ) (s : StoredRow) (rows : List StoredRow) (r : StoredRow) → Rises low (s ∷ rows) → row_at rows n ≡ Some r → row_at (s ∷ rows) n ≡ Some r
later low n s rows r h e = passed n s rows (less s.number n (found_above s.number n rows r h.2 e)).2 ∙ e

above_here : (low : ℕ) (s : StoredRow) (rows : List StoredRow) → nat_lt low s.number ≡ true → row_above low (s ∷ rows) ≡ Some s
above_here low s rows e = ap (λ b. if b then Some s else row_above low rows) e

above_later : (low : ℕ) (s : StoredRow) (rows : List StoredRow) → nat_lt low s.number ≡ false → row_above low (s ∷ rows) ≡ row_above low rows
above_later low s rows e = ap (λ b. if b then Some s else row_above low rows) e

-- it is that one before which there is none
first_at : (low bound n : ℕ) (rows : List StoredRow) (r : StoredRow) → Rises bound rows → row_at rows n ≡ Some r → low < n
    → ((m : ℕ) (s : StoredRow) → row_at rows m ≡ Some s → low < m → n ≤ m) → row_above low rows ≡ Some r
first_at low bound n [] r h e l none = cc
first_at low bound n (s ∷ rows) r h e l none =
    by (below_tells low s.number) (λ f. first_at low s.number n rows r h.2 f l (λ m q g. none m q (later bound m s rows q h g))) where
      at_least : low < s.number → n ≤ s.number
      at_least m = none s.number s (found s.number s rows (equal_itself s.number)) m

      by : ((nat_lt low s.number ≡ true) × (low < s.number)) ⊎ ((nat_lt low s.number ≡ false) × (s.number ≤ low))
          → (row_at rows n ≡ Some r → row_above low rows ≡ Some r) → row_above low (s ∷ rows) ≡ Some r
      by (inr f) more = above_later low s rows f.0 ∙ more (sym (passed n s rows (less s.number n (omega (arith, f.1, l))).2) ∙ e)
      by (inl t) more = here (cases_Bool (s.number == n)) where
        here : ((s.number == n) ≡ true) ⊎ ((s.number == n) ≡ false) → row_above low (s ∷ rows) ≡ Some r
        here (inl q) = above_here low s rows t.0 ∙ sym (found n s rows q) ∙ e
        here (inr q) =
            let further : s.number < n = found_above s.number n rows r h.2 (sym (passed n s rows q) ∙ e) in
            let not_before : n ≤ s.number = at_least t.1 in
            absurd (omega (arith, further, not_before))

none_left : (low bound : ℕ) (rows : List StoredRow) → Rises bound rows → ((m : ℕ) (s : StoredRow) → row_at rows m ≡ Some s → low < m → ⊥)
    → row_above low rows ≡ None
none_left low bound [] h none = refl
none_left low bound (s ∷ rows) h none = by (below_tells low s.number) (none_left low s.number rows h.2 (λ m q g. none m q (later bound m s rows q h g))) where
  by : ((nat_lt low s.number ≡ true) × (low < s.number)) ⊎ ((nat_lt low s.number ≡ false) × (s.number ≤ low)) → row_above low rows ≡ None
      → row_above low (s ∷ rows) ≡ None
  by (inl t) more = absurd (none s.number s (found s.number s rows (equal_itself s.number)) t.1)
  by (inr f) more = above_later low s rows f.0 ∙ more

-- if there is no row above a number up to another, the next one above is the same
pub skipped : (low n bound : ℕ) (rows : List StoredRow) → Rises bound rows → low ≤ n → ((m : ℕ) (s : StoredRow) → row_at rows m ≡ Some s → low < m → n < m)
    → row_above low rows ≡ row_above n rows
skipped low n bound [] h le none = refl
skipped low n bound (s ∷ rows) h le none =
    by (below_tells low s.number) (below_tells n s.number) (skipped low n s.number rows h.2 le (λ m q g. none m q (later bound m s rows q h g))) where
      beyond : low < s.number → n < s.number
      beyond l = none s.number s (found s.number s rows (equal_itself s.number)) l

      by : ((nat_lt low s.number ≡ true) × (low < s.number)) ⊎ ((nat_lt low s.number ≡ false) × (s.number ≤ low))
          → ((nat_lt n s.number ≡ true) × (n < s.number)) ⊎ ((nat_lt n s.number ≡ false) × (s.number ≤ n))
          → row_above low rows ≡ row_above n rows → row_above low (s ∷ rows) ≡ row_above n (s ∷ rows)
      by (inl t) (inl u) more = above_here low s rows t.0 ∙ sym (above_here n s rows u.0)
      by (inl t) (inr u) more = let b : n < s.number = beyond t.1 in absurd (omega (arith, b, u.1))
      by (inr f) (inl u) more = absurd (omega (arith, f.1, u.1, le))
      by (inr f) (inr u) more = above_later low s rows f.0 ∙ more ∙ sym (above_later n s rows u.0)

-- ---- the rows of a table

pub table_at : (low t n : ℕ) (rows : List StoredRow) → Rises low rows → row_at (table_rows rows t) n ≡ row_of t (row_at rows n)
table_at low t n [] h = refl
table_at low t n (s ∷ rows) h = by (cases_Bool (s.table == t)) (same_tells s.number n) (table_at s.number t n rows h.2) where
  by : ((s.table == t) ≡ true) ⊎ ((s.table == t) ≡ false) → (((s.number == n) ≡ true) × (s.number ≡ n)) ⊎ (((s.number == n) ≡ false) × (s.number ≡ n → ⊥))
      → row_at (table_rows rows t) n ≡ row_of t (row_at rows n) → row_at (table_rows (s ∷ rows) t) n ≡ row_of t (row_at (s ∷ rows) n)
  by (inl a) (inl e) more =
      ap (λ b. row_at (if b then s ∷ table_rows rows t else table_rows rows t) n) a ∙ found n s (table_rows rows t) e.0
      ∙ sym (ap (row_of t) (found n s rows e.0) ∙ ap (λ b. if b then Some s else None) a)
  by (inl a) (inr f) more =
      ap (λ b. row_at (if b then s ∷ table_rows rows t else table_rows rows t) n) a ∙ passed n s (table_rows rows t) f.0 ∙ more
      ∙ sym (ap (row_of t) (passed n s rows f.0))
  by (inr d) (inl e) more =
      ap (λ b. row_at (if b then s ∷ table_rows rows t else table_rows rows t) n) d
      ∙ none_at s.number n (table_rows rows t) (part_rises s.number (λ r. r.table == t) rows h.2) (omega (arith, e.1))
      ∙ sym (ap (row_of t) (found n s rows e.0) ∙ ap (λ b. if b then Some s else None) d)
  by (inr d) (inr f) more =
      ap (λ b. row_at (if b then s ∷ table_rows rows t else table_rows rows t) n) d ∙ more ∙ sym (ap (row_of t) (passed n s rows f.0))

filed_row : (t m : ℕ) (rows : List StoredRow) (numbers : List Rows) (r : StoredRow) → Covers rows numbers → row_of t (row_at rows m) ≡ Some r
    → is_filed numbers t m ≡ true
filed_row t m rows numbers r c f = by (row_at rows m) refl f where
  by : (o : Option StoredRow) → row_at rows m ≡ o → row_of t o ≡ Some r → is_filed numbers t m ≡ true
  by None g k = cc
  by (Some s) g k = elim (same_tells s.table t) [
    | inl a ↦ subst (λ u. is_filed numbers u m ≡ true) a.1 (c m s g)
    | inr d ↦ (let bad : None ≡ Some r = sym (ap (λ b. if b then Some s else None) d.0) ∙ k in cc)
  ]

-- ---- the next number of a table

-- its row is the next one, if it is there
pub found_next : (t after n : ℕ) (slots : List Slot) (numbers : List Rows) (r : StoredRow) → Files slots numbers → IsRising (held_for numbers t).rows
    → number_above after (held_for numbers t).rows ≡ Some n → row_of t (row_at (live_rows slots) n) ≡ Some r
    → row_above after (table_rows (live_rows slots) t) ≡ Some r
found_next t after n slots numbers r f rising next e = (let rises : Rises 0 (live_rows slots) = live_rises 0 slots f.rises in
    first_at after 0 n (table_rows (live_rows slots) t) r (part_rises 0 (λ r. r.table == t) (live_rows slots) rises) (table_at 0 t n (live_rows slots) rises ∙ e)
    (is_above after n (held_for numbers t).rows next)
    (λ m s q l. above_least after n m (held_for numbers t).rows rising next
    (filed_row t m (live_rows slots) numbers s f.covers (sym (table_at 0 t m (live_rows slots) rises) ∙ q)) l))

-- else the look goes on above it
pub passed_next : (t after n : ℕ) (slots : List Slot) (numbers : List Rows) → Files slots numbers → IsRising (held_for numbers t).rows
    → number_above after (held_for numbers t).rows ≡ Some n → row_of t (row_at (live_rows slots) n) ≡ None
    → row_above after (table_rows (live_rows slots) t) ≡ row_above n (table_rows (live_rows slots) t)
passed_next t after n slots numbers f rising next e = (let rises : Rises 0 (live_rows slots) = live_rises 0 slots f.rises in
    let l : after < n = is_above after n (held_for numbers t).rows next in
    skipped after n 0 (table_rows (live_rows slots) t) (part_rises 0 (λ r. r.table == t) (live_rows slots) rises) (omega (arith, l))
    (λ m s q k. beyond m s q (above_least after n m (held_for numbers t).rows rising next
    (filed_row t m (live_rows slots) numbers s f.covers (sym (table_at 0 t m (live_rows slots) rises) ∙ q)) k))) where
      beyond : (m : ℕ) (s : StoredRow) → row_at (table_rows (live_rows slots) t) m ≡ Some s → n ≤ m → n < m
      beyond m s q le = elim (same_tells m n) [
        | inl w ↦ (let bad : None ≡ Some s = sym (table_at 0 t n (live_rows slots) (live_rises 0 slots f.rises) ∙ e)
            ∙ sym (ap (row_at (table_rows (live_rows slots) t)) w.1) ∙ q in cc)
        | inr d ↦ further d.1
      ] where
        further : (m ≡ n → ⊥) → n < m
        further d = omega (arith, le, d)

-- if there is none, there is no next row
pub none_next : (t after : ℕ) (slots : List Slot) (numbers : List Rows) → Files slots numbers → number_above after (held_for numbers t).rows ≡ None
    → row_above after (table_rows (live_rows slots) t) ≡ None
none_next t after slots numbers f next = (let rises : Rises 0 (live_rows slots) = live_rises 0 slots f.rises in
    none_left after 0 (table_rows (live_rows slots) t) (part_rises 0 (λ r. r.table == t) (live_rows slots) rises)
    (λ m s q l. above_none after m (held_for numbers t).rows next
    (filed_row t m (live_rows slots) numbers s f.covers (sym (table_at 0 t m (live_rows slots) rises) ∙ q)) l))
