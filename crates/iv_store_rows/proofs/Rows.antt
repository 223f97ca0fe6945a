-- Rows in rising number: one of them is set, set again and set to what it is.
use Rattle.std.proofs.Common.{◌≡◌, ℕ, ◌<◌, ◌≤◌, ◌⊎◌, inl, inr, Bool, true, false, not, if◌then◌else◌, ◌==◌, Option, Some, None, IfSome, List, [], ◌∷◌, filter, arith, refl, ap, sym, subst, ◌∙◌}
use Rattle.std.proofs.lemmas.Bool.{cases_Bool}
use Rattle.std.specs.Prelude.{nat_lt}
use Rattle.iv_value.specs.declared.value.Value.{Value}
use Rattle.iv_expr.specs.declared.row.StoredRow.{StoredRow}
use Rattle.iv_expr.specs.declared.row.Change.{Change}
use Rattle.iv_expr.specs.Scopes.{Rises}
use Rattle.iv_machine.specs.Databases.{row_at, rows_with}
use Rattle.iv_machine.specs.Waves.{values_at}
use Rattle.iv_machine.specs.SetRows.{without_row, set_row}
use Rattle.iv_store_rows.specs.Histories.{rows_before}
use Rattle.iv_store_rows.proofs.ByNumber.{Less, Same, tells, less, same_tells, equal_itself}

pub lower : (low up : ℕ) (rows : List StoredRow) → low ≤ up → Rises up rows → Rises low rows
lower low up [] le h = tt
lower low up (r ∷ rows) le h = (omega (arith, le, h.0), h.1, h.2)

pub part_rises : (low : ℕ) (p : StoredRow → Bool) (rows : List StoredRow) → Rises low rows → Rises low (filter p rows)
part_rises low p [] h = tt
part_rises low p (r ∷ rows) h = by (p r) (part_rises r.number p rows h.2)
  where
    by : (b : Bool) → Rises r.number (filter p rows) → Rises low (if b then r ∷ filter p rows else filter p rows)
    by true rest = (h.0, h.1, rest)
    by false rest = lower low r.number (filter p rows) (omega (arith, h.0)) rest

-- ---- the row of a number

pub found : (n : ℕ) (r : StoredRow) (rows : List StoredRow) → (r.number == n) ≡ true → row_at (r ∷ rows) n ≡ Some r
found n r rows e = ap (λ b. if b then Some r else row_at rows n) e

pub passed : (n : ℕ) (r : StoredRow) (rows : List StoredRow) → (r.number == n) ≡ false → row_at (r ∷ rows) n ≡ row_at rows n
passed n r rows e = ap (λ b. if b then Some r else row_at rows n) e

pub none_at : (low n : ℕ) (rows : List StoredRow) → Rises low rows → n ≤ low → row_at rows n ≡ None
none_at low n [] h le = refl
none_at low n (r ∷ rows) h le =
    let l : n < r.number = omega (arith, h.0, le) in
    passed n r rows (less n r.number l).3 ∙ none_at r.number n rows h.2 (omega (arith, l))

-- a row that is found in rows that rise from above a number is above it
pub found_above : (low n : ℕ) (rows : List StoredRow) (r : StoredRow) → Rises low rows → row_at rows n ≡ Some r → low < n
found_above low n [] r h e = cc
found_above low n (s ∷ rows) r h e = by (same_tells s.number n) (λ f. found_above s.number n rows r h.2 f) where
  by : (((s.number == n) ≡ true) × (s.number ≡ n)) ⊎ (((s.number == n) ≡ false) × (s.number ≡ n → ⊥)) → (row_at rows n ≡ Some r → s.number < n) → low < n
  by (inl q) more = omega (arith, h.0, q.1)
  by (inr f) more = let m : s.number < n = more (sym (passed n s rows f.0) ∙ e) in omega (arith, h.0, m)

-- a row that is found has the number
pub numbered : (n : ℕ) (rows : List StoredRow) (r : StoredRow) → row_at rows n ≡ Some r → r.number ≡ n
numbered n [] r e = cc
numbered n (s ∷ rows) r e = by (same_tells s.number n) (numbered n rows r) where
  by : (((s.number == n) ≡ true) × (s.number ≡ n)) ⊎ (((s.number == n) ≡ false) × (s.number ≡ n → ⊥)) → (row_at rows n ≡ Some r → r.number ≡ n) → r.number ≡ n
  by (inl q) more =
      let it : Some s ≡ Some r = sym (found n s rows q.0) ∙ e in
      let same : s ≡ r = cc in
      subst (λ (z : StoredRow). z.number ≡ n) same q.1
  by (inr f) more = more (sym (passed n s rows f.0) ∙ e)

-- ---- a row among the others: in front, in the place of the first, and further back

pub front : (x r : StoredRow) (rows : List StoredRow) → nat_lt x.number r.number ≡ true → rows_with x (r ∷ rows) ≡ x ∷ r ∷ rows
front x r rows t = ap (λ b. if b then x ∷ r ∷ rows else (if x.number == r.number then x ∷ rows else r ∷ rows_with x rows)) t

pub instead : (x r : StoredRow) (rows : List StoredRow) → nat_lt x.number r.number ≡ false → (x.number == r.number) ≡ true → rows_with x (r ∷ rows) ≡ x ∷ rows
instead x r rows t e =
    ap (λ b. if b then x ∷ r ∷ rows else (if x.number == r.number then x ∷ rows else r ∷ rows_with x rows)) t
    ∙ ap (λ b. if b then x ∷ rows else r ∷ rows_with x rows) e

pub further : (x r : StoredRow) (rows : List StoredRow) → nat_lt x.number r.number ≡ false → (x.number == r.number) ≡ false
    → rows_with x (r ∷ rows) ≡ r ∷ rows_with x rows
further x r rows t e =
    ap (λ b. if b then x ∷ r ∷ rows else (if x.number == r.number then x ∷ rows else r ∷ rows_with x rows)) t
    ∙ ap (λ b. if b then x ∷ rows else r ∷ rows_with x rows) e

-- a row goes before those above it
pub in_front : (low : ℕ) (x : StoredRow) (rows : List StoredRow) → Rises low rows → x.number ≤ low → rows_with x rows ≡ x ∷ rows
in_front low x [] h le = refl
in_front low x (r ∷ rows) h le = front x r rows (less x.number r.number (omega (arith, h.0, le))).0

-- what is found among the rows with one more is that one, or was found before
pub found_with : (x : StoredRow) (n : ℕ) (rows : List StoredRow) (r : StoredRow) → row_at (rows_with x rows) n ≡ Some r
    → ((x ≡ r) × (x.number ≡ n)) ⊎ (row_at rows n ≡ Some r)
found_with x n rows r e = among rows e where
  own : (l : List StoredRow) → row_at (x ∷ l) n ≡ Some r → ((x ≡ r) × (x.number ≡ n)) ⊎ (((x.number ≡ n) → ⊥) × (row_at l n ≡ Some r))
  own l g = elim (same_tells x.number n) [
    | inl q ↦ (let it : Some x ≡ Some r = sym (found n x l q.0) ∙ g in inl (cc, q.1))
    | inr d ↦ inr (d.1, sym (passed n x l d.0) ∙ g)
  ]

  among : (rows : List StoredRow) → row_at (rows_with x rows) n ≡ Some r → ((x ≡ r) × (x.number ≡ n)) ⊎ (row_at rows n ≡ Some r)
  among [] g = elim (own [] g) [ inl a ↦ inl a | inr b ↦ inr b.1 ]
  among (s ∷ rows) g = by (tells x.number s.number) (among rows) where
    by : Less x.number s.number ⊎ (Same x.number s.number ⊎ Less s.number x.number)
        → (row_at (rows_with x rows) n ≡ Some r → ((x ≡ r) × (x.number ≡ n)) ⊎ (row_at rows n ≡ Some r))
        → ((x ≡ r) × (x.number ≡ n)) ⊎ (row_at (s ∷ rows) n ≡ Some r)
    by (inl t) more = elim (own (s ∷ rows) (sym (ap (λ l. row_at l n) (front x s rows t.0)) ∙ g)) [ inl a ↦ inl a | inr b ↦ inr b.1 ]
    by (inr (inl q)) more = elim (own rows (sym (ap (λ l. row_at l n) (instead x s rows q.0 q.2)) ∙ g)) [
      | inl a ↦ inl a
      | inr b ↦ inr (elim (same_tells s.number n) [
        | inl w ↦ absurd (b.0 (q.4 ∙ w.1))
        | inr d ↦ passed n s rows d.0 ∙ b.1
      ])
    ]
    by (inr (inr f)) more = elim (same_tells s.number n) [
      | inl w ↦ inr (found n s rows w.0 ∙ sym (found n s (rows_with x rows) w.0) ∙ sym (ap (λ l. row_at l n) (further x s rows f.1 f.3)) ∙ g)
      | inr d ↦ elim (more (sym (passed n s (rows_with x rows) d.0) ∙ sym (ap (λ l. row_at l n) (further x s rows f.1 f.3)) ∙ g)) [
        | inl a ↦ inl a
        | inr b ↦ inr (passed n s rows d.0 ∙ b)
      ]
    ]

-- ---- without a row

without_this : (n : ℕ) (r : StoredRow) (rows : List StoredRow) → (n == r.number) ≡ true → without_row n (r ∷ rows) ≡ without_row n rows
without_this n r rows e = ap (λ b. if not b then r ∷ without_row n rows else without_row n rows) e

without_other : (n : ℕ) (r : StoredRow) (rows : List StoredRow) → (n == r.number) ≡ false → without_row n (r ∷ rows) ≡ r ∷ without_row n rows
without_other n r rows e = ap (λ b. if not b then r ∷ without_row n rows else without_row n rows) e

pub all_others : (low n : ℕ) (rows : List StoredRow) → Rises low rows → n ≤ low → without_row n rows ≡ rows
all_others low n [] h le = refl
all_others low n (r ∷ rows) h le =
    let l : n < r.number = omega (arith, h.0, le) in
    without_other n r rows (less n r.number l).2 ∙ ap (λ l. r ∷ l) (all_others r.number n rows h.2 (omega (arith, l)))

-- a row that is left out isn't found
pub gone_without : (n : ℕ) (rows : List StoredRow) → row_at (without_row n rows) n ≡ None
gone_without n [] = refl
gone_without n (r ∷ rows) = by (same_tells n r.number) (same_tells r.number n) (gone_without n rows) where
  by : (((n == r.number) ≡ true) × (n ≡ r.number)) ⊎ (((n == r.number) ≡ false) × (n ≡ r.number → ⊥))
      → (((r.number == n) ≡ true) × (r.number ≡ n)) ⊎ (((r.number == n) ≡ false) × (r.number ≡ n → ⊥)) → row_at (without_row n rows) n ≡ None
      → row_at (without_row n (r ∷ rows)) n ≡ None
  by (inl a) b more = ap (λ k. row_at k n) (without_this n r rows a.0) ∙ more
  by (inr d) (inl b) more = absurd (d.1 (sym b.1))
  by (inr d) (inr b) more = ap (λ k. row_at k n) (without_other n r rows d.0) ∙ passed n r (without_row n rows) b.0 ∙ more

-- what is found without a row was found before
pub found_without : (m n : ℕ) (rows : List StoredRow) (r : StoredRow) → row_at (without_row m rows) n ≡ Some r → row_at rows n ≡ Some r
found_without m n [] r e = e
found_without m n (s ∷ rows) r e = by (same_tells m s.number) (same_tells s.number n) (found_without m n rows r) where
  none_left : (l : List StoredRow) → s.number ≡ n → m ≡ s.number → row_at (without_row m l) n ≡ Some r → ⊥
  none_left [] q w g = cc
  none_left (z ∷ l) q w g = elim (same_tells m z.number) [
    | inl a ↦ none_left l q w (sym (ap (λ k. row_at k n) (without_this m z l a.0)) ∙ g)
    | inr d ↦ none_left l q w (sym (ap (λ k. row_at k n) (without_other m z l d.0) ∙ passed n z (without_row m l) (unlike d.1)) ∙ g)
  ] where
    unlike : (m ≡ z.number → ⊥) → (z.number == n) ≡ false
    unlike d = elim (same_tells z.number n) [
      | inl a ↦ absurd (d (w ∙ q ∙ sym a.1))
      | inr b ↦ b.0
    ]

  by : (((m == s.number) ≡ true) × (m ≡ s.number)) ⊎ (((m == s.number) ≡ false) × (m ≡ s.number → ⊥))
      → (((s.number == n) ≡ true) × (s.number ≡ n)) ⊎ (((s.number == n) ≡ false) × (s.number ≡ n → ⊥))
      → (row_at (without_row m rows) n ≡ Some r → row_at rows n ≡ Some r) → row_at (s ∷ rows) n ≡ Some r
  by (inl a) (inl q) more = absurd (none_left rows q.1 a.1 (sym (ap (λ k. row_at k n) (without_this m s rows a.0)) ∙ e))
  by (inl a) (inr d) more = passed n s rows d.0 ∙ more (sym (ap (λ k. row_at k n) (without_this m s rows a.0)) ∙ e)
  by (inr b) (inl q) more = found n s rows q.0 ∙ sym (found n s (without_row m rows) q.0) ∙ sym (ap (λ k. row_at k n) (without_other m s rows b.0)) ∙ e
  by (inr b) (inr d) more = passed n s rows d.0 ∙ more (sym (ap (λ k. row_at k n) (without_other m s rows b.0) ∙ passed n s (without_row m rows) d.0) ∙ e)

-- ---- a row is set again

-- a row in the place of another of its number
with_with : (low : ℕ) (x y : StoredRow) (rows : List StoredRow) → Rises low rows → x.number ≡ y.number → rows_with x (rows_with y rows) ≡ rows_with x rows
with_with low x y [] h e = instead x y [] (ap (λ n. nat_lt n y.number) e ∙ (itself y.number)) (ap (λ n. n == y.number) e ∙ equal_itself y.number) where
  itself : (n : ℕ) → nat_lt n n ≡ false
  itself n = elim (tells n n) [
    | inl t ↦ t.1
    | inr o ↦ elim o [ inl s ↦ s.0 | inr t ↦ t.1 ]
  ]
with_with low x y (r ∷ rows) h e = by (tells y.number r.number) (with_with r.number x y rows h.2 e) where
  itself : (n : ℕ) → nat_lt n n ≡ false
  itself n = elim (tells n n) [
    | inl t ↦ t.1
    | inr o ↦ elim o [ inl s ↦ s.0 | inr t ↦ t.1 ]
  ]

  not_below : nat_lt x.number y.number ≡ false
  not_below = ap (λ n. nat_lt n y.number) e ∙ itself y.number

  same : (x.number == y.number) ≡ true
  same = ap (λ n. n == y.number) e ∙ equal_itself y.number

  by : Less y.number r.number ⊎ (Same y.number r.number ⊎ Less r.number y.number) → rows_with x (rows_with y rows) ≡ rows_with x rows
      → rows_with x (rows_with y (r ∷ rows)) ≡ rows_with x (r ∷ rows)
  by (inl t) more =
      ap (rows_with x) (front y r rows t.0) ∙ instead x y (r ∷ rows) not_below same
      ∙ sym (front x r rows (ap (λ n. nat_lt n r.number) e ∙ t.0))
  by (inr (inl q)) more =
      ap (rows_with x) (instead y r rows q.0 q.2) ∙ instead x y rows not_below same
      ∙ sym (instead x r rows (ap (λ n. nat_lt n r.number) e ∙ q.0) (ap (λ n. n == r.number) e ∙ q.2))
  by (inr (inr f)) more =
      ap (rows_with x) (further y r rows f.1 f.3) ∙ further x r (rows_with y rows) (ap (λ n. nat_lt n r.number) e ∙ f.1) (ap (λ n. n == r.number) e ∙ f.3)
      ∙ ap (λ l. r ∷ l) more
      ∙ sym (further x r rows (ap (λ n. nat_lt n r.number) e ∙ f.1) (ap (λ n. n == r.number) e ∙ f.3))

-- a row is put back after it was taken out
with_without : (low : ℕ) (x : StoredRow) (rows : List StoredRow) → Rises low rows → rows_with x (without_row x.number rows) ≡ rows_with x rows
with_without low x [] h = refl
with_without low x (r ∷ rows) h = by (tells x.number r.number) (with_without r.number x rows h.2) where
  by : Less x.number r.number ⊎ (Same x.number r.number ⊎ Less r.number x.number) → rows_with x (without_row x.number rows) ≡ rows_with x rows
      → rows_with x (without_row x.number (r ∷ rows)) ≡ rows_with x (r ∷ rows)
  by (inl t) more = ap (rows_with x) (all_others x.number x.number (r ∷ rows) (t.4, h.1, h.2) (omega arith))
  by (inr (inl q)) more =
      ap (rows_with x) (without_this x.number r rows q.2 ∙ all_others r.number x.number rows h.2 (omega (arith, q.4)))
      ∙ in_front r.number x rows h.2 (omega (arith, q.4)) ∙ sym (instead x r rows q.0 q.2)
  by (inr (inr f)) more =
      ap (rows_with x) (without_other x.number r rows f.3) ∙ further x r (without_row x.number rows) f.1 f.3 ∙ ap (λ l. r ∷ l) more
      ∙ sym (further x r rows f.1 f.3)

-- a row is taken out after it was put in
without_with : (x : StoredRow) (rows : List StoredRow) → without_row x.number (rows_with x rows) ≡ without_row x.number rows
without_with x [] = without_this x.number x [] (equal_itself x.number)
without_with x (r ∷ rows) = by (tells x.number r.number) (without_with x rows) where
  by : Less x.number r.number ⊎ (Same x.number r.number ⊎ Less r.number x.number) → without_row x.number (rows_with x rows) ≡ without_row x.number rows
      → without_row x.number (rows_with x (r ∷ rows)) ≡ without_row x.number (r ∷ rows)
  by (inl t) more = ap (without_row x.number) (front x r rows t.0) ∙ without_this x.number x (r ∷ rows) (equal_itself x.number)
  by (inr (inl q)) more =
      ap (without_row x.number) (instead x r rows q.0 q.2) ∙ without_this x.number x rows (equal_itself x.number) ∙ sym (without_this x.number r rows q.2)
  by (inr (inr f)) more =
      ap (without_row x.number) (further x r rows f.1 f.3) ∙ without_other x.number r (rows_with x rows) f.3 ∙ ap (λ l. r ∷ l) more
      ∙ sym (without_other x.number r rows f.3)

without_without : (n : ℕ) (rows : List StoredRow) → without_row n (without_row n rows) ≡ without_row n rows
without_without n [] = refl
without_without n (r ∷ rows) = by (cases_Bool (n == r.number)) (without_without n rows) where
  by : ((n == r.number) ≡ true) ⊎ ((n == r.number) ≡ false) → without_row n (without_row n rows) ≡ without_row n rows
      → without_row n (without_row n (r ∷ rows)) ≡ without_row n (r ∷ rows)
  by (inl e) more = ap (without_row n) (without_this n r rows e) ∙ more ∙ sym (without_this n r rows e)
  by (inr f) more =
      ap (without_row n) (without_other n r rows f) ∙ without_other n r (without_row n rows) f ∙ ap (λ l. r ∷ l) more ∙ sym (without_other n r rows f)

pub set_again : (table number : ℕ) (o p : Option (List Value)) (rows : List StoredRow) → Rises 0 rows
    → set_row table number o (set_row table number p rows) ≡ set_row table number o rows
set_again table number (Some v) (Some w) rows h =
    with_with 0 (record { table = table; number = number; values = v }) (record { table = table; number = number; values = w }) rows h refl
set_again table number (Some v) None rows h = with_without 0 (record { table = table; number = number; values = v }) rows h
set_again table number None (Some w) rows h = without_with (record { table = table; number = number; values = w }) rows
set_again table number None None rows h = without_without number rows

-- ---- a row is set to what it is

with_itself : (low n : ℕ) (x : StoredRow) (rows : List StoredRow) → Rises low rows → row_at rows n ≡ Some x → rows_with x rows ≡ rows
with_itself low n x [] h e = cc
with_itself low n x (r ∷ rows) h e = by (cases_Bool (r.number == n)) (with_itself r.number n x rows h.2) where
  itself : Less r.number r.number ⊎ (Same r.number r.number ⊎ Less r.number r.number) → rows_with r (r ∷ rows) ≡ r ∷ rows
  itself (inl t) = absurd (omega (arith, t.4))
  itself (inr (inl q)) = instead r r rows q.0 q.2
  itself (inr (inr t)) = absurd (omega (arith, t.4))

  by : ((r.number == n) ≡ true) ⊎ ((r.number == n) ≡ false) → (row_at rows n ≡ Some x → rows_with x rows ≡ rows) → rows_with x (r ∷ rows) ≡ r ∷ rows
  by (inl t) more =
      let it : Some r ≡ Some x = sym (found n r rows t) ∙ e in
      let same : r ≡ x = cc in
      subst (λ (q : StoredRow). rows_with q (r ∷ rows) ≡ r ∷ rows) same (itself (tells r.number r.number))
  by (inr f) more =
      let later : row_at rows n ≡ Some x = sym (passed n r rows f) ∙ e in
      let above : r.number < n = found_above r.number n rows x h.2 later in
      let own : x.number ≡ n = numbered n rows x later in
      let l : Less r.number x.number = less r.number x.number (omega (arith, above, own)) in
      further x r rows l.1 l.3 ∙ ap (λ l. r ∷ l) (more later)

without_absent : (n : ℕ) (rows : List StoredRow) → row_at rows n ≡ None → without_row n rows ≡ rows
without_absent n [] e = refl
without_absent n (r ∷ rows) e = by (tells n r.number) (without_absent n rows) where
  there : (r.number == n) ≡ true → ⊥
  there t = (let bad : Some r ≡ None = sym (found n r rows t) ∙ e in cc)

  by : Less n r.number ⊎ (Same n r.number ⊎ Less r.number n) → (row_at rows n ≡ None → without_row n rows ≡ rows) → without_row n (r ∷ rows) ≡ r ∷ rows
  by (inl t) more = without_other n r rows t.2 ∙ ap (λ l. r ∷ l) (more (sym (passed n r rows t.3) ∙ e))
  by (inr (inl q)) more = absurd (there q.3)
  by (inr (inr t)) more = without_other n r rows t.3 ∙ ap (λ l. r ∷ l) (more (sym (passed n r rows t.2) ∙ e))

pub set_itself : (table number : ℕ) (old : Option (List Value)) (rows : List StoredRow) → Rises 0 rows → values_at rows number ≡ old
    → IfSome (row_at rows number) (λ (r : StoredRow). r.table ≡ table) → set_row table number old rows ≡ rows
set_itself table number old rows h e own = by (row_at rows number) refl where
  by : (o : Option StoredRow) → row_at rows number ≡ o → set_row table number old rows ≡ rows
  by None f =
      let gone : old ≡ None = sym e ∙ ap (λ o. elim o [ Some r ↦ Some r.values | None ↦ None ]) f in
      ap (λ o. set_row table number o rows) gone ∙ without_absent number rows f
  by (Some r) f =
      let there : old ≡ Some r.values = sym e ∙ ap (λ o. elim o [ Some r ↦ Some r.values | None ↦ None ]) f in
      let of_table : r.table ≡ table = subst (λ (o : Option StoredRow). IfSome o (λ (q : StoredRow). q.table ≡ table)) f own in
      let it : record { table = table; number = number; values = r.values } ≡ r =
      ap (λ t. record { table = t; number = number; values = r.values }) (sym of_table)
      ∙ ap (λ n. record { table = r.table; number = n; values = r.values }) (sym (numbered number rows r f)) in
      ap (λ o. set_row table number o rows) there
      ∙ with_itself 0 number (record { table = table; number = number; values = r.values }) rows h (f ∙ ap (λ (q : StoredRow). Some q) (sym it))

-- Undoing a change gives the rows from before it.
pub back_again : (c : Change) (rows : List StoredRow) → Rises 0 rows → values_at rows c.row ≡ c.old
    → IfSome (row_at rows c.row) (λ (r : StoredRow). r.table ≡ c.table) → rows_before c (set_row c.table c.row c.new rows) ≡ rows
back_again c rows h e own = set_again c.table c.row c.old c.new rows h ∙ set_itself c.table c.row c.old rows h e own

-- ---- the row that was set

-- what is found after a row is set is that row, or none if it is taken out
pub row_after_set : (table number : ℕ) (o : Option (List Value)) (rows : List StoredRow)
    → row_at (set_row table number o rows) number ≡ elim o [ Some values ↦ Some (record { table = table; number = number; values = values }) | None ↦ None ]
row_after_set table number (Some values) rows = with_found (record { table = table; number = number; values = values }) rows where
  with_found : (x : StoredRow) (rows : List StoredRow) → row_at (rows_with x rows) x.number ≡ Some x
  with_found x [] = found x.number x [] (equal_itself x.number)
  with_found x (r ∷ rows) = by (tells x.number r.number) (with_found x rows) where
    by : Less x.number r.number ⊎ (Same x.number r.number ⊎ Less r.number x.number) → row_at (rows_with x rows) x.number ≡ Some x
        → row_at (rows_with x (r ∷ rows)) x.number ≡ Some x
    by (inl t) more = ap (λ l. row_at l x.number) (front x r rows t.0) ∙ found x.number x (r ∷ rows) (equal_itself x.number)
    by (inr (inl q)) more = ap (λ l. row_at l x.number) (instead x r rows q.0 q.2) ∙ found x.number x rows (equal_itself x.number)
    by (inr (inr f)) more = ap (λ l. row_at l x.number) (further x r rows f.1 f.3) ∙ passed x.number r (rows_with x rows) f.2 ∙ more
row_after_set table number None rows = by (row_at (without_row number rows) number) refl where
  never : (l : List StoredRow) (r : StoredRow) → row_at (without_row number l) number ≡ Some r → ⊥
  never [] r e = cc
  never (s ∷ l) r e = elim (tells number s.number) [
    | inl t ↦ never l r (sym (ap (λ k. row_at k number) (without_other number s l t.2) ∙ passed number s (without_row number l) t.3) ∙ e)
    | inr o ↦ elim o [
      | inl q ↦ never l r (sym (ap (λ k. row_at k number) (without_this number s l q.2)) ∙ e)
      | inr t ↦ never l r (sym (ap (λ k. row_at k number) (without_other number s l t.3) ∙ passed number s (without_row number l) t.2) ∙ e)
    ]
  ]

  by : (o : Option StoredRow) → row_at (without_row number rows) number ≡ o → row_at (without_row number rows) number ≡ None
  by None e = e
  by (Some r) e = absurd (never rows r e)
