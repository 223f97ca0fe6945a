-- The rows of some numbers: which they are, and the next of them above a number.
use Rattle.std.proofs.Common.{◌≡◌, refl, ℕ, zero, suc, ◌-◌, ◌<◌, ◌≤◌, ◌⊎◌, inl, inr, Bool, true, false, ◌||◌, ◌==◌, if◌then◌else◌, List, [], ◌∷◌, map, filter, length, Option, Some, None, Result, Ok, Err, ap, sym, subst, ◌∙◌, arith}
use Rattle.std.specs.Prelude.{nat_lt, slice_index}
use Rattle.std.proofs.lemmas.Bool.Decides.{nat_tests}
use Rattle.iv_expr.specs.Types.{Value, Truth, StoredRow, ExprFault}
use Rattle.iv_value.specs.Truths.{is_true}
use Rattle.iv_expr.specs.Scopes.{Rises, contents, row_above}
use Rattle.iv_expr.specs.Evaluation.{any_true}
use Rattle.iv_expr.specs.Searches.{IsNotTrue, LeavesOut, NotTrueWhere, is_among, numbers_of, rows_among}
use Rattle.iv_numbers.specs.Rows.{IsRising, number_above}
use Rattle.iv_expr.specs.Found.{AreThere, searched}
use Rattle.iv_expr.proofs.Anys.{any_from, any_is}

tells : (a b : ℕ) → ((nat_lt a b ≡ true) × (a < b)) ⊎ ((nat_lt a b ≡ false) × (b ≤ a))
tells a b = grind (arith, nat_tests)

differ : (a b : ℕ) → a < b → ((a == b) ≡ false) × ((b == a) ≡ false)
differ a b l = (grind (arith, nat_tests), grind (arith, nat_tests))

itself : (n : ℕ) → (n == n) ≡ true
itself n = grind (arith, nat_tests)

-- ---- rows by rising number, with some left out

lower : (low up : ℕ) (rows : List StoredRow) → low ≤ up → Rises up rows → Rises low rows
lower low up [] le h = tt
lower low up (r ∷ rows) le h = (omega (arith, le, h.0), h.1, h.2)

pub part_rises : (low : ℕ) (p : StoredRow → Bool) (rows : List StoredRow) → Rises low rows → Rises low (filter p rows)
part_rises low p [] h = tt
part_rises low p (r ∷ rows) h = by (p r) (part_rises r.number p rows h.2)
  where
    by : (b : Bool) → Rises r.number (filter p rows) → Rises low (if b then r ∷ filter p rows else filter p rows)
    by true rest = (h.0, h.1, rest)
    by false rest = lower low r.number (filter p rows) (omega (arith, h.0)) rest

-- the numbers rise, from above this one
abbrev pub AreRising : ℕ → List ℕ → Type 0
AreRising low [] = Unit {0}
AreRising low (n ∷ numbers) = (low < n) × AreRising n numbers

above_low : (low j : ℕ) (numbers : List ℕ) → AreRising low numbers → j < length numbers → low < slice_index numbers j
above_low low j [] h l = absurd (omega (arith, l))
above_low low zero (n ∷ numbers) h l = h.0
above_low low (suc j) (n ∷ numbers) h l = (let more : n < slice_index numbers j = above_low n j numbers h.1 (omega (arith, l)) in omega (arith, more, h.0))

is_rising : (low : ℕ) (numbers : List ℕ) → AreRising low numbers → IsRising numbers
is_rising low [] h i j less l = absurd (omega (arith, l))
is_rising low (n ∷ numbers) h zero zero less l = absurd (omega (arith, less))
is_rising low (n ∷ numbers) h zero (suc j) less l = above_low n j numbers h.1 (omega (arith, l))
is_rising low (n ∷ numbers) h (suc i) zero less l = absurd (omega (arith, less))
is_rising low (n ∷ numbers) h (suc i) (suc j) less l = is_rising n numbers h.1 i j (omega (arith, less)) (omega (arith, l))

pub numbers_rise : (low : ℕ) (rows : List StoredRow) → Rises low rows → AreRising low (numbers_of rows)
numbers_rise low [] h = tt
numbers_rise low (r ∷ rows) h = (h.0, numbers_rise r.number rows h.2)

-- ---- the rows of the numbers of rows that pass a test

below_none : (low n : ℕ) (numbers : List ℕ) → n ≤ low → AreRising low numbers → is_among numbers n ≡ false
below_none low n [] le h = refl
below_none low n (m ∷ numbers) le h =
    let less : n < m = omega (arith, le, h.0) in
    ap (λ b. b || is_among numbers n) (differ n m less).1 ∙ below_none m n numbers (omega (arith, less)) h.1

-- one number more in front changes nothing for rows above it
among_rest : (n : ℕ) (numbers : List ℕ) (rows : List StoredRow) → Rises n rows → rows_among (n ∷ numbers) rows ≡ rows_among numbers rows
among_rest n numbers [] h = refl
among_rest n numbers (r ∷ rows) h =
    ap (λ b. if b || is_among numbers r.number then r ∷ rows_among (n ∷ numbers) rows else rows_among (n ∷ numbers) rows) (differ n r.number h.0).0
    ∙ ap (λ (l : List StoredRow). if is_among numbers r.number then r ∷ l else l) (among_rest n numbers rows (lower n r.number rows (omega (arith, h.0)) h.2))

pub among_is : (low : ℕ) (p : StoredRow → Bool) (rows : List StoredRow) → Rises low rows → rows_among (numbers_of (filter p rows)) rows ≡ filter p rows
among_is low p [] h = refl
among_is low p (r ∷ rows) h = by (p r) (among_is r.number p rows h.2)
  where
    rest : List ℕ
    rest = numbers_of (filter p rows)

    by : (b : Bool) → rows_among rest rows ≡ filter p rows
        → rows_among (numbers_of (if b then r ∷ filter p rows else filter p rows)) (r ∷ rows) ≡ (if b then r ∷ filter p rows else filter p rows)
    by true ih =
        ap (λ b. if b || is_among rest r.number then r ∷ rows_among (r.number ∷ rest) rows else rows_among (r.number ∷ rest) rows) (itself r.number)
        ∙ ap (λ (l : List StoredRow). r ∷ l) (among_rest r.number rest rows h.2 ∙ ih)
    by false ih =
        ap (λ b. if b then r ∷ rows_among rest rows else rows_among rest rows)
        (below_none r.number r.number rest (omega arith) (numbers_rise r.number (filter p rows) (part_rises r.number p rows h.2)))
        ∙ ih

-- ---- the next row

-- the row above a number among rows that pass a test is the next row above the number before that row's
abbrev pub above_at : Option ℕ → List StoredRow → Option StoredRow
above_at None rows = None
above_at (Some n) rows = row_above (n - 1) rows

-- the first number above one
abbrev pub first_found : ℕ → List StoredRow → Option ℕ
first_found after rows = number_above after (numbers_of rows)

found_above : (low after n : ℕ) (rows : List StoredRow) → Rises low rows → first_found after rows ≡ Some n → low < n
found_above low after n [] h e = absurd (none e)
  where
    none : ◌≡◌ {A = Option ℕ} None (Some n) → ⊥
    none x = cc
found_above low after n (r ∷ rows) h e = by (nat_lt after r.number) e (λ g. found_above r.number after n rows h.2 g)
  where
    some_is : (a b : ℕ) → ◌≡◌ {A = Option ℕ} (Some a) (Some b) → a ≡ b
    some_is a b e = cc

    by : (b : Bool) → (if b then Some r.number else first_found after rows) ≡ Some n → (first_found after rows ≡ Some n → r.number < n) → low < n
    by true g more = (let same = some_is r.number n g in omega (arith, same, h.0))
    by false g more = (let up = more g in omega (arith, up, h.0))

skipped : (r : StoredRow) (rows : List StoredRow) (o : Option ℕ) → ((n : ℕ) → o ≡ Some n → r.number < n) → above_at o (r ∷ rows) ≡ above_at o rows
skipped r rows None h = refl
skipped r rows (Some n) h = by (tells (n - 1) r.number)
  where
    by : ((nat_lt (n - 1) r.number ≡ true) × (n - 1 < r.number)) ⊎ ((nat_lt (n - 1) r.number ≡ false) × (r.number ≤ n - 1)) → above_at (Some n) (r ∷ rows) ≡ above_at (Some n) rows
    by (inl t) = (let up = h n refl in absurd (omega (arith, up, t.1)))
    by (inr f) = ap (λ b. if b then Some r else row_above (n - 1) rows) f.0

pub next_of : (low after : ℕ) (p : StoredRow → Bool) (rows : List StoredRow) → Rises low rows → above_at (first_found after (filter p rows)) rows ≡ row_above after (filter p rows)
next_of low after p [] h = refl
next_of low after p (r ∷ rows) h = by (p r) (next_of r.number after p rows h.2)
  where
    found : List StoredRow
    found = filter p rows

    further : above_at (first_found after found) (r ∷ rows) ≡ above_at (first_found after found) rows
    further = skipped r rows (first_found after found) (λ n e. found_above r.number after n found (part_rises r.number p rows h.2) e)

    here : row_above (r.number - 1) (r ∷ rows) ≡ Some r
    here = ap (λ b. if b then Some r else row_above (r.number - 1) rows) (less (r.number - 1) r.number (omega (arith, h.0)))
      where
        less : (a b : ℕ) → a < b → nat_lt a b ≡ true
        less a b l = grind (arith, nat_tests)

    by : (b : Bool) → above_at (first_found after found) rows ≡ row_above after found
        → above_at (first_found after (if b then r ∷ found else found)) (r ∷ rows) ≡ row_above after (if b then r ∷ found else found)
    by false ih = further ∙ ih
    by true ih = on (nat_lt after r.number)
      where
        on : (t : Bool) → above_at (if t then Some r.number else first_found after found) (r ∷ rows) ≡ (if t then Some r else row_above after found)
        on true = here
        on false = further ∙ ih

-- ---- what a search goes through

pub searched_rises : (found : Option (List ℕ)) (rows : List StoredRow) → Rises 0 rows → Rises 0 (searched found rows)
searched_rises None rows h = h
searched_rises (Some numbers) rows h = part_rises 0 (λ r. is_among numbers r.number) rows h

pub there_rise : (found : Option (List ℕ)) (numbers : List ℕ) (rows : List StoredRow) → found ≡ Some numbers → AreThere found rows → Rises 0 rows → IsRising numbers
there_rise None numbers rows e t h = cc
there_rise (Some others) numbers rows e t h =
    let same : others ≡ numbers = some_numbers others numbers e in
    subst IsRising (sym t ∙ same) (is_rising 0 _ (numbers_rise 0 (rows_among others rows) (part_rises 0 (λ r. is_among others r.number) rows h)))
  where
    some_numbers : (a b : List ℕ) → ◌≡◌ {A = Option (List ℕ)} (Some a) (Some b) → a ≡ b
    some_numbers a b e = cc

pub next_found : (found : Option (List ℕ)) (numbers : List ℕ) (rows : List StoredRow) (after : ℕ) (o : Option ℕ) → found ≡ Some numbers → AreThere found rows → Rises 0 rows
    → o ≡ number_above after numbers → above_at o rows ≡ row_above after (searched found rows)
next_found None numbers rows after o e t h is = cc
next_found (Some others) numbers rows after o e t h is =
    let same : others ≡ numbers = some_numbers others numbers e in
    let told : o ≡ first_found after (rows_among others rows) = is ∙ ap (λ (l : List ℕ). number_above after l) (sym same ∙ t) in
    ap (λ (x : Option ℕ). above_at x rows) told ∙ next_of 0 after (λ r. is_among others r.number) rows h
  where
    some_numbers : (a b : List ℕ) → ◌≡◌ {A = Option (List ℕ)} (Some a) (Some b) → a ≡ b
    some_numbers a b e = cc

-- ---- EXISTS

or_false : (a b : Bool) → b ≡ false → (a || b) ≡ a
or_false true b h = refl
or_false false b h = h

any_left_out : (found : Bool) (r : Result Truth ExprFault) (more : List (Result Truth ExprFault)) → IsNotTrue r → any_from found (r ∷ more) ≡ any_from found more
any_left_out found r more n =
    ap (λ (x : Result Truth ExprFault). any_from found (x ∷ more)) n.1 ∙ ap (λ b. any_from b more) (or_false found (is_true n.0) n.2)

any_kept : (found : Bool) (r : Result Truth ExprFault) (all some : List (Result Truth ExprFault)) → ((b : Bool) → any_from b all ≡ any_from b some)
    → any_from found (r ∷ all) ≡ any_from found (r ∷ some)
any_kept found (Ok t) all some h = h (found || is_true t)
any_kept found (Err e) all some h = refl

any_some : (f : List Value → Result Truth ExprFault) (p : StoredRow → Bool) (rows : List StoredRow) → NotTrueWhere f p rows → (found : Bool)
    → any_from found (map f (contents rows)) ≡ any_from found (map f (contents (filter p rows)))
any_some f p [] h found = refl
any_some f p (r ∷ rows) h found = by (p r) refl (any_some f p rows h.1)
  where
    by : (b : Bool) → p r ≡ b → ((a : Bool) → any_from a (map f (contents rows)) ≡ any_from a (map f (contents (filter p rows))))
        → any_from found (map f (contents (r ∷ rows))) ≡ any_from found (map f (contents (if b then r ∷ filter p rows else filter p rows)))
    by true e ih = any_kept found (f r.values) (map f (contents rows)) (map f (contents (filter p rows))) ih
    by false e ih = any_left_out found (f r.values) (map f (contents rows)) (h.0 e) ∙ ih found

-- Whether some row makes a condition true isn't changed by rows that are left out.
pub any_of_found : (f : List Value → Result Truth ExprFault) (rows found : List StoredRow) → LeavesOut f rows found
    → any_true (map f (contents rows)) ≡ any_true (map f (contents found))
any_of_found f rows found h =
    sym (any_is (map f (contents rows))) ∙ any_some f h.0 rows h.2 false ∙ any_is (map f (contents (filter h.0 rows)))
    ∙ ap (λ (l : List StoredRow). any_true (map f (contents l))) (sym h.1)
