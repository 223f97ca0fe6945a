-- A row put among rows in rising number, by the place where it goes, and lists taken from their end.
use Rattle.std.proofs.Common.{◌≡◌, ℕ, ◌+◌, ◌≤◌, Bool, true, false, if◌then◌else◌, ◌==◌, nat_lt, List, [], ◌∷◌, ◌∙◌, refl, ap, cond, suc, length, option_map, unwrap_or, arith}
use Rattle.std.proofs.lemmas.Bool.Decides.{nat_tests}
use Rattle.std.specs.List.{prefix_len, slice_get, slice_set, insert}
use Rattle.iv_machine.specs.Types.{StoredRow}
use Rattle.iv_machine.specs.Databases.{rows_with}

abbrev pub place_of : ℕ → List StoredRow → ℕ
place_of n rows = prefix_len (λ r. nat_lt r.number n) rows

abbrev pub has_number : List StoredRow → ℕ → ℕ → Bool
has_number rows at n = unwrap_or (option_map (λ r. r.number == n) (slice_get rows at)) false

-- a row of a greater number goes further back
put_back : (r s : StoredRow) (rows : List StoredRow) → nat_lt s.number r.number ≡ true → rows_with r (s ∷ rows) ≡ s ∷ rows_with r rows
put_back r s rows h =
    ap (λ b. if b then r ∷ s ∷ rows else (if r.number == s.number then r ∷ rows else s ∷ rows_with r rows)) (not_below h)
    ∙ ap (λ b. if b then r ∷ rows else s ∷ rows_with r rows) (not_same h) where
      not_below : nat_lt s.number r.number ≡ true → nat_lt r.number s.number ≡ false
      not_below h = grind (arith, nat_tests)

      not_same : nat_lt s.number r.number ≡ true → (r.number == s.number) ≡ false
      not_same h = grind (arith, nat_tests)

put_here : (r s : StoredRow) (rows : List StoredRow) → (s.number == r.number) ≡ true → rows_with r (s ∷ rows) ≡ r ∷ rows
put_here r s rows h =
    ap (λ b. if b then r ∷ s ∷ rows else (if r.number == s.number then r ∷ rows else s ∷ rows_with r rows)) (not_below h)
    ∙ ap (λ b. if b then r ∷ rows else s ∷ rows_with r rows) (same h) where
      not_below : (s.number == r.number) ≡ true → nat_lt r.number s.number ≡ false
      not_below h = grind (arith, nat_tests)

      same : (s.number == r.number) ≡ true → (r.number == s.number) ≡ true
      same h = grind (arith, nat_tests)

put_before : (r s : StoredRow) (rows : List StoredRow) → nat_lt s.number r.number ≡ false → (s.number == r.number) ≡ false → rows_with r (s ∷ rows) ≡ r ∷ s ∷ rows
put_before r s rows h e = ap (λ b. if b then r ∷ s ∷ rows else (if r.number == s.number then r ∷ rows else s ∷ rows_with r rows)) (below h e) where
  below : nat_lt s.number r.number ≡ false → (s.number == r.number) ≡ false → nat_lt r.number s.number ≡ true
  below h e = grind (arith, nat_tests)

one_more : (k : ℕ) → suc k ≡ 1 + k
one_more k = omega arith

replaced_step : (r s : StoredRow) (rows : List StoredRow) (b : Bool) → nat_lt s.number r.number ≡ b
    → (has_number rows (place_of r.number rows) r.number ≡ true → rows_with r rows ≡ slice_set rows (place_of r.number rows) r)
    → has_number (s ∷ rows) (cond b (1 + place_of r.number rows) 0) r.number ≡ true → rows_with r (s ∷ rows) ≡ slice_set (s ∷ rows) (cond b (1 + place_of r.number rows) 0) r
replaced_step r s rows true e more h =
    put_back r s rows e ∙ ap (λ l. s ∷ l) (more (ap (λ k. has_number (s ∷ rows) k r.number) (one_more (place_of r.number rows)) ∙ h))
    ∙ ap (λ k. slice_set (s ∷ rows) k r) (one_more (place_of r.number rows))
replaced_step r s rows false e more h = put_here r s rows h

-- a row takes the place of the one with its number
pub put_replaces : (r : StoredRow) (rows : List StoredRow) → has_number rows (place_of r.number rows) r.number ≡ true → rows_with r rows ≡ slice_set rows (place_of r.number rows) r
put_replaces r [] h = cc
put_replaces r (s ∷ rows) h = replaced_step r s rows (nat_lt s.number r.number) refl (put_replaces r rows) h

added_step : (r s : StoredRow) (rows : List StoredRow) (b : Bool) → nat_lt s.number r.number ≡ b
    → (has_number rows (place_of r.number rows) r.number ≡ false → rows_with r rows ≡ insert rows (place_of r.number rows) r)
    → has_number (s ∷ rows) (cond b (1 + place_of r.number rows) 0) r.number ≡ false → rows_with r (s ∷ rows) ≡ insert (s ∷ rows) (cond b (1 + place_of r.number rows) 0) r
added_step r s rows true e more h =
    put_back r s rows e ∙ ap (λ l. s ∷ l) (more (ap (λ k. has_number (s ∷ rows) k r.number) (one_more (place_of r.number rows)) ∙ h))
    ∙ ap (λ k. insert (s ∷ rows) k r) (one_more (place_of r.number rows))
added_step r s rows false e more h = put_before r s rows e h

-- a row of a new number goes before the first that isn't below it
pub put_adds : (r : StoredRow) (rows : List StoredRow) → has_number rows (place_of r.number rows) r.number ≡ false → rows_with r rows ≡ insert rows (place_of r.number rows) r
put_adds r [] h = refl
put_adds r (s ∷ rows) h = added_step r s rows (nat_lt s.number r.number) refl (put_adds r rows) h

place_step : (n : ℕ) (rows : List StoredRow) (b : Bool) → place_of n rows ≤ length rows → cond b (1 + place_of n rows) 0 ≤ suc (length rows)
place_step n rows true h = omega (arith, h)
place_step n rows false h = omega arith

pub place_within : (n : ℕ) (rows : List StoredRow) → place_of n rows ≤ length rows
place_within n [] = omega arith
place_within n (s ∷ rows) = place_step n rows (nat_lt s.number n) (place_within n rows)
