-- Rows in rising number, and the place of a number among them.
use Rattle.std.proofs.Common.{◌≡◌, ℕ, zero, suc, ◌+◌, ◌-◌, ◌^◌, ◌<◌, ◌≤◌, ◌⊎◌, inl, inr, min, Bool, true, false, not, if◌then◌else◌, ◌==◌, Option, Some, None, List, [], ◌∷◌, length, filter, drop, remove, arith, refl, ap, sym, ◌∙◌}
use Rattle.std.proofs.lemmas.Bool.{cases_Bool}
use Rattle.std.specs.Prelude.{nat_lt, find, slice_get, get_or}
use Rattle.std.proofs.lemmas.Bool.Decides.{nat_tests}
use Rattle.std.specs.List.Sorted.{IsPartitionPoint}
use Rattle.std.proofs.lemmas.List.Sums.{prefix_len_is}
use Rattle.std.proofs.lemmas.Option.{get_or_from_slice_get}
use Rattle.iv_expr.specs.declared.row.StoredRow.{StoredRow}
use Rattle.iv_expr.specs.Scopes.{Rises, row_above, table_rows}
use Rattle.iv_machine.specs.Databases.{row_at}
use Rattle.iv_machine.proofs.Puts.{place_of, has_number}

-- what a test says
tells : (a b : ℕ) → ((nat_lt a b ≡ true) × (a < b)) ⊎ ((nat_lt a b ≡ false) × (b ≤ a))
tells a b = grind (arith, nat_tests)

tells_same : (a b : ℕ) → (((a == b) ≡ true) × (a ≡ b)) ⊎ (((a == b) ≡ false) × ((a < b) ⊎ (b < a)))
tells_same a b = grind (arith, nat_tests)

one_more : (k : ℕ) → suc k ≡ 1 + k
one_more k = omega arith

-- ---- by place

above_low : (low : ℕ) (rows : List StoredRow) (j : ℕ) (d : StoredRow) → Rises low rows → j < length rows → low < (get_or rows j d).number
above_low low [] j d h l = absurd (omega (arith, l))
above_low low (r ∷ rows) zero d h l = h.0
above_low low (r ∷ rows) (suc j) d h l = let m : r.number < (get_or rows j d).number = above_low r.number rows j d h.2 (omega (arith, l)) in omega (arith, h.0, m)

-- a later number is not below an earlier one
pub never_falls : (low : ℕ) (rows : List StoredRow) → Rises low rows → (i j : ℕ) (d : StoredRow) → i ≤ j → j < length rows → (get_or rows i d).number ≤ (get_or rows j d).number
never_falls low [] h i j d le l = absurd (omega (arith, l))
never_falls low (r ∷ rows) h zero zero d le l = omega arith
never_falls low (r ∷ rows) h zero (suc j) d le l = let m : r.number < (get_or rows j d).number = above_low r.number rows j d h.2 (omega (arith, l)) in omega (arith, m)
never_falls low (r ∷ rows) h (suc i) zero d le l = absurd (omega (arith, le))
never_falls low (r ∷ rows) h (suc i) (suc j) d le l = never_falls r.number rows h.2 i j d (omega (arith, le)) (omega (arith, l))

-- some row, as a default
abbrev pub no_row : StoredRow
no_row = record { table = 0; number = 0; values = [] }

pub all_below : (n : ℕ) (rows : List StoredRow) (last : StoredRow) → Rises 0 rows → slice_get rows (length rows - 1) ≡ Some last → last.number < n → place_of n rows ≡ length rows
all_below n rows last h e l = prefix_len_is (λ r. nat_lt r.number n) rows (length rows) no_row (omega arith) each (λ m. absurd (omega (arith, m))) where
  each : (k : ℕ) → k < length rows → nat_lt (get_or rows k no_row).number n ≡ true
  each k m =
      let falls : (get_or rows k no_row).number ≤ (get_or rows (length rows - 1) no_row).number = never_falls 0 rows h k (length rows - 1) no_row (omega (arith, m)) (omega (arith, m)) in
      let at_end : (get_or rows (length rows - 1) no_row).number ≡ last.number = ap (λ (r : StoredRow). r.number) (get_or_from_slice_get rows (length rows - 1) last no_row e) in
      let below : (get_or rows k no_row).number < n = omega (arith, falls, at_end, l) in
      grind (arith, nat_tests)

pub by_point : (n i : ℕ) (rows : List StoredRow) → i ≤ length rows → IsPartitionPoint (λ r. nat_lt r.number n ≡ true) (λ r. nat_lt r.number n ≡ false) rows i → i ≡ place_of n rows
by_point n i rows le point =
    sym (prefix_len_is (λ r. nat_lt r.number n) rows i no_row le (λ k l. point.0 k no_row (omega arith) l) (λ l. point.1 i no_row (omega arith) l))

-- ---- the row of a number

none_at : (low n : ℕ) (rows : List StoredRow) → Rises low rows → n ≤ low → row_at rows n ≡ None
none_at low n [] h le = refl
none_at low n (r ∷ rows) h le =
    let other : (r.number == n) ≡ false = differs h.0 in
    ap (λ b. if b then Some r else row_at rows n) other ∙ none_at r.number n rows h.2 (omega (arith, h.0, le)) where
      differs : low < r.number → (r.number == n) ≡ false
      differs l = grind (arith, nat_tests)

abbrev pub row_if : ℕ → Option StoredRow → Option StoredRow
row_if n None = None
row_if n (Some r) = if r.number == n then Some r else None

pub row_at_place : (low n : ℕ) (rows : List StoredRow) → Rises low rows → row_at rows n ≡ row_if n (slice_get rows (place_of n rows))
row_at_place low n [] h = refl
row_at_place low n (r ∷ rows) h = elim (tells r.number n) [
  | inl t ↦ rw t.0 (ap (λ b. if b then Some r else row_at rows n) (differs t.1) ∙ row_at_place r.number n rows h.2 ∙ ap (λ k. row_if n (slice_get (r ∷ rows) k)) (one_more (place_of n rows)))
  | inr f ↦ rw f.0 (ap (λ o. if r.number == n then Some r else o) (none_at r.number n rows h.2 f.1))
] where
  differs : r.number < n → (r.number == n) ≡ false
  differs l = grind (arith, nat_tests)

-- the row at the place, if it has the number
pub found_row : (n k : ℕ) (rows : List StoredRow) (r : StoredRow) → Rises 0 rows → k ≡ place_of n rows → slice_get rows k ≡ Some r → r.number ≡ n → row_at rows n ≡ Some r
found_row n k rows r h p e s =
    row_at_place 0 n rows h ∙ ap (λ j. row_if n (slice_get rows j)) (sym p) ∙ ap (row_if n) e ∙ ap (λ b. if b then Some r else None) (same s) where
      same : r.number ≡ n → (r.number == n) ≡ true
      same s = grind (arith, nat_tests)

pub other_row : (n k : ℕ) (rows : List StoredRow) (r : StoredRow) → Rises 0 rows → k ≡ place_of n rows → slice_get rows k ≡ Some r → (r.number ≡ n → ⊥) → row_at rows n ≡ None
other_row n k rows r h p e s =
    row_at_place 0 n rows h ∙ ap (λ j. row_if n (slice_get rows j)) (sym p) ∙ ap (row_if n) e ∙ ap (λ b. if b then Some r else None) (differs s) where
      differs : (r.number ≡ n → ⊥) → (r.number == n) ≡ false
      differs s = grind (arith, nat_tests)

pub no_row_there : (n k : ℕ) (rows : List StoredRow) → Rises 0 rows → k ≡ place_of n rows → slice_get rows k ≡ None → row_at rows n ≡ None
no_row_there n k rows h p e = row_at_place 0 n rows h ∙ ap (λ j. row_if n (slice_get rows j)) (sym p) ∙ ap (row_if n) e

-- ---- the first row of a table above a number

abbrev pub first_in : ℕ → List StoredRow → Option StoredRow
first_in t rows = find (λ r. r.table == t) rows

above_is_first : (low n t : ℕ) (rows : List StoredRow) → Rises low rows → n ≤ low → row_above n (table_rows rows t) ≡ first_in t rows
above_is_first low n t [] h le = refl
above_is_first low n t (r ∷ rows) h le =
    let above : nat_lt n r.number ≡ true = beyond h.0 in
    elim (cases_Bool (r.table == t)) [
      | inl e ↦ rw (e, above) refl
      | inr e ↦ rw e (above_is_first r.number n t rows h.2 (omega (arith, h.0, le)))
    ] where
      beyond : low < r.number → nat_lt n r.number ≡ true
      beyond l = grind (arith, nat_tests)

pub row_above_place : (low n t : ℕ) (rows : List StoredRow) → Rises low rows
    → row_above n (table_rows rows t) ≡ first_in t (drop (place_of (min (n + 1) (2 ^ 64 - 1)) rows) rows)
row_above_place low n t [] h = refl
row_above_place low n t (r ∷ rows) h = elim (tells r.number (min (n + 1) (2 ^ 64 - 1))) [
  | inl l ↦ rw l.0 (passed (not_above l.1) ∙ row_above_place r.number n t rows h.2 ∙ ap (λ k. first_in t (drop k (r ∷ rows))) (one_more (place_of (min (n + 1) (2 ^ 64 - 1)) rows)))
  | inr f ↦ rw f.0 (above_is_first n n t (r ∷ rows) (from_here f.1, h.1, h.2) (omega arith))
] where
  not_above : r.number < min (n + 1) (2 ^ 64 - 1) → nat_lt n r.number ≡ false
  not_above l = grind (arith, nat_tests)

  from_here : min (n + 1) (2 ^ 64 - 1) ≤ r.number → n < r.number
  from_here f = omega (arith, f, h.1)

  passed : nat_lt n r.number ≡ false → row_above n (table_rows (r ∷ rows) t) ≡ row_above n (table_rows rows t)
  passed e = elim (cases_Bool (r.table == t)) [
    | inl s ↦ rw (s, e) refl
    | inr s ↦ rw s refl
  ]

-- ---- without the row of a number

abbrev pub is_other : ℕ → StoredRow → Bool
is_other n r = not (n == r.number)

pub all_others : (low n : ℕ) (rows : List StoredRow) → Rises low rows → n ≤ low → filter (is_other n) rows ≡ rows
all_others low n [] h le = refl
all_others low n (r ∷ rows) h le =
    ap (λ b. if not b then r ∷ filter (is_other n) rows else filter (is_other n) rows) (differs h.0)
    ∙ ap (λ l. r ∷ l) (all_others r.number n rows h.2 (omega (arith, h.0, le))) where
      differs : low < r.number → (n == r.number) ≡ false
      differs l = grind (arith, nat_tests)

without_step : (low n : ℕ) (r : StoredRow) (rows : List StoredRow) → Rises low (r ∷ rows)
    → filter (is_other n) rows ≡ (if has_number rows (place_of n rows) n then remove rows (place_of n rows) else rows)
    → filter (is_other n) (r ∷ rows) ≡ (if has_number (r ∷ rows) (place_of n (r ∷ rows)) n then remove (r ∷ rows) (place_of n (r ∷ rows)) else r ∷ rows)
without_step low n r rows h more = elim (tells r.number n) [
  | inl t ↦ rw t.0 (earlier t.1)
  | inr f ↦ rw f.0 (here f.1)
] where
  into : (b : Bool) → (r ∷ (if b then remove rows (place_of n rows) else rows)) ≡ (if b then r ∷ remove rows (place_of n rows) else r ∷ rows)
  into true = refl
  into false = refl

  earlier : r.number < n → filter (is_other n) (r ∷ rows) ≡ (if has_number (r ∷ rows) (1 + place_of n rows) n then remove (r ∷ rows) (1 + place_of n rows) else r ∷ rows)
  earlier l =
      let other : (n == r.number) ≡ false = grind (arith, nat_tests) in
      ap (λ b. if not b then r ∷ filter (is_other n) rows else filter (is_other n) rows) other
      ∙ ap (λ l. r ∷ l) more
      ∙ into (has_number rows (place_of n rows) n)
      ∙ ap (λ k. if has_number (r ∷ rows) k n then remove (r ∷ rows) k else r ∷ rows) (one_more (place_of n rows))

  differs : (r.number == n) ≡ false → (n == r.number) ≡ false
  differs e = grind (arith, nat_tests)

  here : n ≤ r.number → filter (is_other n) (r ∷ rows) ≡ (if r.number == n then rows else r ∷ rows)
  here le = elim (tells_same r.number n) as (λ _. filter (is_other n) (r ∷ rows) ≡ (if r.number == n then rows else r ∷ rows)) [
    | inl e ↦ (let same : (n == r.number) ≡ true = (let eq = e.1 in grind (arith, nat_tests)) in
        ap (λ b. if not b then r ∷ filter (is_other n) rows else filter (is_other n) rows) same ∙ all_others r.number n rows h.2 le
        ∙ ap (λ b. if b then rows else r ∷ rows) (sym e.0))
    | inr e ↦ (let other : (n == r.number) ≡ false = differs e.0 in
        ap (λ b. if not b then r ∷ filter (is_other n) rows else filter (is_other n) rows) other ∙ ap (λ l. r ∷ l) (all_others r.number n rows h.2 le)
        ∙ ap (λ b. if b then rows else r ∷ rows) (sym e.0))
  ]

pub taken_out : (low n : ℕ) (rows : List StoredRow) → Rises low rows
    → filter (is_other n) rows ≡ (if has_number rows (place_of n rows) n then remove rows (place_of n rows) else rows)
taken_out low n [] h = refl
taken_out low n (r ∷ rows) h = without_step low n r rows h (taken_out r.number n rows h.2)
