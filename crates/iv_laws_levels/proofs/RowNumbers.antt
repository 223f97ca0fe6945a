-- Rows by their numbers: two lists in rising number that have the same row at each number are the same.
use Rattle.std.proofs.Common.{◌≡◌, refl, ℕ, ◌<◌, ◌≤◌, Bool, true, false, if◌then◌else◌, List, [], ◌∷◌, filter, Option, Some, None, sym, ap, ◌∙◌, arith}
use Rattle.std.specs.Bool.{nat_lt, ◌==◌}
use Rattle.std.proofs.lemmas.Bool.{eqb-true, eq-eqb, ltb-true}
use Rattle.iv_laws_levels.specs.Types.{StoredRow}
use Rattle.iv_machine.specs.Databases.{row_at, rows_with, in_order}
use Rattle.iv_laws_levels.specs.RisingRows.{Above, InOrder}

pub some_none : {A : Type 0} (a : A) → ◌≡◌ {A = Option A} (Some a) None → ⊥
some_none a h = cc

pub some_same : {A : Type 0} (a b : A) → ◌≡◌ {A = Option A} (Some a) (Some b) → a ≡ b
some_same a b h = cc

pub row_at_head : (r : StoredRow) (rows : List StoredRow) → row_at (r ∷ rows) r.number ≡ Some r
row_at_head r rows = rw (eq-eqb r.number r.number refl) refl

pub row_at_other : (r : StoredRow) (rows : List StoredRow) (n : ℕ) → (r.number == n) ≡ false → row_at (r ∷ rows) n ≡ row_at rows n
row_at_other r rows n e = rw e refl

-- the row at a number has that number
pub number_of_row_at : (rows : List StoredRow) (n : ℕ) (found : StoredRow) → row_at rows n ≡ Some found → found.number ≡ n
number_of_row_at [] n found e = absurd (some_none found (sym e))
number_of_row_at (r ∷ rows) n found e =
    elim (r.number == n) as (λ b. (r.number == n) ≡ b → (if b then Some r else row_at rows n) ≡ Some found → found.number ≡ n) [
      | true ↦ λ is h. ap (λ x. x.number) (sym (some_same r found h)) ∙ eqb-true r.number n is
      | false ↦ λ is h. number_of_row_at rows n found h
    ] refl e

-- ---- a row put among others

pub row_at_put : (r : StoredRow) (rows : List StoredRow) (n : ℕ) → row_at (rows_with r rows) n ≡ (if r.number == n then Some r else row_at rows n)
row_at_put r [] n = refl
row_at_put r (s ∷ rows) n =
    elim (nat_lt r.number s.number) as (λ b. row_at (if b then r ∷ s ∷ rows else (if r.number == s.number then r ∷ rows else s ∷ rows_with r rows)) n ≡ (if r.number == n then Some r else row_at (s ∷ rows) n)) [
      | true ↦ refl
      | false ↦ elim (r.number == s.number) as (λ b. (r.number == s.number) ≡ b → row_at (if b then r ∷ rows else s ∷ rows_with r rows) n ≡ (if r.number == n then Some r else row_at (s ∷ rows) n)) [
        | true ↦ λ e. grind (arith, eqb-true _ _ e)
        | false ↦ λ e. grind (arith, e, row_at_put r rows n)
      ] refl
    ]

pub row_at_in_order : (rows : List StoredRow) (n : ℕ) → row_at (in_order rows) n ≡ row_at rows n
row_at_in_order [] n = refl
row_at_in_order (r ∷ rows) n = row_at_put r (in_order rows) n ∙ ap (λ o. if r.number == n then Some r else o) (row_at_in_order rows n)

-- ---- rising numbers

pub above_lower : (low n : ℕ) (rows : List StoredRow) → low ≤ n → Above n rows → Above low rows
above_lower low n [] h a = tt
above_lower low n (r ∷ rows) h a = (omega (arith, a.0), above_lower low n rows h a.1)

above_put : (n : ℕ) (r : StoredRow) (rows : List StoredRow) → n < r.number → Above n rows → Above n (rows_with r rows)
above_put n r [] h a = (h, tt)
above_put n r (s ∷ rows) h a =
    elim (nat_lt r.number s.number) as (λ b. Above n (if b then r ∷ s ∷ rows else (if r.number == s.number then r ∷ rows else s ∷ rows_with r rows))) [
      | true ↦ (h, a)
      | false ↦ elim (r.number == s.number) as (λ b. Above n (if b then r ∷ rows else s ∷ rows_with r rows)) [ true ↦ (h, a.1) | false ↦ (a.0, above_put n r rows h a.1) ]
    ]

in_order_put : (r : StoredRow) (rows : List StoredRow) → InOrder rows → InOrder (rows_with r rows)
in_order_put r [] h = (tt, tt)
in_order_put r (s ∷ rows) h =
    elim (nat_lt r.number s.number) as (λ b. nat_lt r.number s.number ≡ b → InOrder (if b then r ∷ s ∷ rows else (if r.number == s.number then r ∷ rows else s ∷ rows_with r rows))) [
      | true ↦ λ e. let less : r.number < s.number = ltb-true _ _ e in ((less, above_lower r.number s.number rows (omega (arith, less)) h.0), h)
      | false ↦ λ e. elim (r.number == s.number) as (λ b. (r.number == s.number) ≡ b → InOrder (if b then r ∷ rows else s ∷ rows_with r rows)) [
        | true ↦ λ f. let is = eqb-true r.number s.number f in (rw is h.0, h.1)
        | false ↦ λ f. (above_put s.number r rows (grind (arith, e, f)) h.0, in_order_put r rows h.1)
      ] refl
    ] refl

pub sorted_in_order : (rows : List StoredRow) → InOrder (in_order rows)
sorted_in_order [] = tt
sorted_in_order (r ∷ rows) = in_order_put r (in_order rows) (sorted_in_order rows)

pub row_at_above : (n low : ℕ) (rows : List StoredRow) → n ≤ low → Above low rows → row_at rows n ≡ None
row_at_above n low [] h a = refl
row_at_above n low (r ∷ rows) h a = grind (arith, a.0, row_at_above n low rows h a.1)

above_filter : (p : StoredRow → Bool) (n : ℕ) (rows : List StoredRow) → Above n rows → Above n (filter p rows)
above_filter p n [] a = tt
above_filter p n (r ∷ rows) a =
    elim (p r) as (λ b. Above n (if b then r ∷ filter p rows else filter p rows)) [ true ↦ (a.0, above_filter p n rows a.1) | false ↦ above_filter p n rows a.1 ]

pub in_order_filter : (p : StoredRow → Bool) (rows : List StoredRow) → InOrder rows → InOrder (filter p rows)
in_order_filter p [] h = tt
in_order_filter p (r ∷ rows) h =
    elim (p r) as (λ b. InOrder (if b then r ∷ filter p rows else filter p rows)) [
      | true ↦ (above_filter p r.number rows h.0, in_order_filter p rows h.1)
      | false ↦ in_order_filter p rows h.1
    ]

-- ---- lists that have the same row at each number

-- a first number that is below all others' isn't among them
least_is_absent : (r s : StoredRow) (rows others : List StoredRow) → r.number < s.number → Above s.number others
    → row_at (r ∷ rows) r.number ≡ row_at (s ∷ others) r.number → ⊥
least_is_absent r s rows others h a e =
    some_none r (sym (row_at_head r rows) ∙ e ∙ row_at_above r.number r.number (s ∷ others) (omega arith) (h, above_lower r.number s.number others (omega (arith, h)) a))

pub same_rows : (rows others : List StoredRow) → InOrder rows → InOrder others → ((n : ℕ) → row_at rows n ≡ row_at others n) → rows ≡ others
same_rows [] [] a b h = refl
same_rows [] (s ∷ others) a b h = absurd (some_none s (sym (row_at_head s others) ∙ sym (h s.number)))
same_rows (r ∷ rows) [] a b h = absurd (some_none r (sym (row_at_head r rows) ∙ h r.number))
same_rows (r ∷ rows) (s ∷ others) a b h =
    elim (nat_lt r.number s.number) as (λ t. nat_lt r.number s.number ≡ t → r ∷ rows ≡ s ∷ others) [
      | true ↦ λ e. absurd (least_is_absent r s rows others (ltb-true _ _ e) b.0 (h r.number))
      | false ↦ λ e. elim (nat_lt s.number r.number) as (λ t. nat_lt s.number r.number ≡ t → r ∷ rows ≡ s ∷ others) [
        | true ↦ λ f. absurd (least_is_absent s r others rows (ltb-true _ _ f) a.0 (sym (h s.number)))
        | false ↦ λ f.
            let number : r.number ≡ s.number = grind (arith, e, f) in
            let first : r ≡ s = some_same r s (sym (row_at_head r rows) ∙ h r.number ∙ ap (row_at (s ∷ others)) number ∙ row_at_head s others) in
            let tails : rows ≡ others = same_rows rows others a.1 b.1 (λ n. elim (r.number == n) as (λ t. (r.number == n) ≡ t → row_at rows n ≡ row_at others n) [
              | true ↦ λ g. let is = eqb-true r.number n g in
                  row_at_above n r.number rows (omega (arith, is)) a.0 ∙ sym (row_at_above n s.number others (omega (arith, is, number)) b.0)
              | false ↦ λ g. sym (row_at_other r rows n g) ∙ h n ∙ row_at_other s others n (rw (← number) g)
            ] refl) in
            λ i. first i ∷ tails i
      ] refl
    ] refl

-- ---- the rows that pass a test

-- a row that passes the test
abbrev pub passing : (StoredRow → Bool) → Option StoredRow → Option StoredRow
passing p None = None
passing p (Some r) = if p r then Some r else None

-- no two rows have one number
abbrev pub Apart : List StoredRow → Type 0
Apart [] = Unit {0}
Apart (r ∷ rows) = (row_at rows r.number ≡ None) × Apart rows

pub apart_from_in_order : (rows : List StoredRow) → InOrder rows → Apart rows
apart_from_in_order [] h = tt
apart_from_in_order (r ∷ rows) h = (row_at_above r.number r.number rows (omega arith) h.0, apart_from_in_order rows h.1)

pub row_at_filter : (p : StoredRow → Bool) (rows : List StoredRow) (n : ℕ) → Apart rows → row_at (filter p rows) n ≡ passing p (row_at rows n)
row_at_filter p [] n a = refl
row_at_filter p (r ∷ rows) n a =
    elim (r.number == n) as (λ b. (r.number == n) ≡ b → row_at (filter p (r ∷ rows)) n ≡ passing p (if b then Some r else row_at rows n)) [
      | true ↦ λ e.
          let gone : row_at rows n ≡ None = ap (row_at rows) (sym (eqb-true r.number n e)) ∙ a.0 in
          elim (p r) as (λ b. row_at (if b then r ∷ filter p rows else filter p rows) n ≡ (if b then Some r else None)) [
            | true ↦ ap (λ b. if b then Some r else row_at (filter p rows) n) e
            | false ↦ row_at_filter p rows n a.1 ∙ ap (passing p) gone
          ]
      | false ↦ λ e. elim (p r) as (λ b. row_at (if b then r ∷ filter p rows else filter p rows) n ≡ passing p (row_at rows n)) [
        | true ↦ ap (λ b. if b then Some r else row_at (filter p rows) n) e ∙ row_at_filter p rows n a.1
        | false ↦ row_at_filter p rows n a.1
      ]
    ] refl

pub row_at_filter_in_order : (p : StoredRow → Bool) (rows : List StoredRow) (n : ℕ) → InOrder rows → row_at (filter p rows) n ≡ passing p (row_at rows n)
row_at_filter_in_order p rows n h = row_at_filter p rows n (apart_from_in_order rows h)
