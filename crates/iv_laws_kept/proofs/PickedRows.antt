-- Rows that are picked from a list by their numbers.
use Rattle.std.proofs.Common.{◌≡◌, refl, ℕ, ◌≤◌, Bool, true, false, ◌||◌, if◌then◌else◌, List, [], ◌∷◌, filter, filter_map, Option, Some, None, sym, ap, ◌∙◌, arith}
use Rattle.std.specs.Bool.{◌==◌}
use Rattle.std.specs.List.{cons_option}
use Rattle.std.proofs.lemmas.Bool.{eqb-true}
use Rattle.iv_expr.specs.declared.row.StoredRow.{StoredRow}
use Rattle.iv_machine.specs.Databases.{row_at}
use Rattle.iv_store.specs.Stores.{RisingNumbers}
use Rattle.iv_laws_levels.specs.RisingRows.{Above, InOrder}
use Rattle.iv_laws_levels.proofs.RowNumbers.{passing, number_of_row_at, same_rows, in_order_filter, row_at_filter_in_order}
use Rattle.iv_laws_levels.proofs.FittingWaves.{Present, present_itself}
use Rattle.iv_laws_levels.proofs.LosingWaves.{filter_map_part}
use Rattle.iv_laws_kept.specs.FollowingWaves.{is_among}

-- the rows of these numbers
abbrev pub picked : (ℕ → Option StoredRow) → List ℕ → List StoredRow
picked at numbers = filter_map at numbers

-- each number is that of its row
abbrev pub Numbers : (ℕ → Option StoredRow) → Type 0
Numbers at = (n : ℕ) (r : StoredRow) → at n ≡ Some r → r.number ≡ n

above_picked : (at : ℕ → Option StoredRow) → Numbers at → (n low : ℕ) (numbers : List ℕ) → n ≤ low → RisingNumbers low numbers → Above n (picked at numbers)
above_picked at number n low [] le h = tt
above_picked at number n low (m ∷ more) le h = with_row (at m) refl (above_picked at number n m more (omega (arith, le, h.0)) h.1)
  where
    with_row : (o : Option StoredRow) → at m ≡ o → Above n (picked at more) → Above n (cons_option o (picked at more))
    with_row None e rest = rest
    with_row (Some r) e rest = let is = number m r e in (omega (arith, is, le, h.0), rest)

in_order_picked : (at : ℕ → Option StoredRow) → Numbers at → (low : ℕ) (numbers : List ℕ) → RisingNumbers low numbers → InOrder (picked at numbers)
in_order_picked at number low [] h = tt
in_order_picked at number low (m ∷ more) h = with_row (at m) refl (in_order_picked at number m more h.1)
  where
    with_row : (o : Option StoredRow) → at m ≡ o → InOrder (picked at more) → InOrder (cons_option o (picked at more))
    with_row None e rest = rest
    with_row (Some r) e rest = let is = number m r e in (above_picked at number r.number m more (omega (arith, is)) h.1, rest)

-- the row of a number among the picked ones
row_at_picked : (at : ℕ → Option StoredRow) → Numbers at → (low : ℕ) (numbers : List ℕ) (n : ℕ) → RisingNumbers low numbers
    → row_at (picked at numbers) n ≡ (if is_among numbers n then at n else None)
row_at_picked at number low [] n h = refl
row_at_picked at number low (m ∷ more) n h = with_row (at m) refl (row_at_picked at number m more n h.1)
  where
    with_row : (o : Option StoredRow) → at m ≡ o → row_at (picked at more) n ≡ (if is_among more n then at n else None)
        → row_at (cons_option o (picked at more)) n ≡ (if (m == n) || is_among more n then at n else None)
    with_row None e rest =
        elim (m == n) as (λ b. (m == n) ≡ b → row_at (picked at more) n ≡ (if b || is_among more n then at n else None)) [
          | true ↦ λ f.
              let none : at n ≡ None = ap at (sym (eqb-true m n f)) ∙ e in
              rest ∙ ap (λ o. if is_among more n then o else None) none
              ∙ elim (is_among more n) as (λ b. ◌≡◌ {A = Option StoredRow} (if b then None else None) None) [ true ↦ refl | false ↦ refl ] ∙ sym none
          | false ↦ λ f. rest
        ] refl
    with_row (Some r) e rest =
        elim (m == n) as (λ b. (m == n) ≡ b → (if r.number == n then Some r else row_at (picked at more) n) ≡ (if b || is_among more n then at n else None)) [
          | true ↦ λ f.
              ap (λ b. if b then Some r else row_at (picked at more) n) (ap (λ x. x == n) (number m r e) ∙ f) ∙ sym e ∙ ap at (eqb-true m n f)
          | false ↦ λ f. ap (λ b. if b then Some r else row_at (picked at more) n) (ap (λ x. x == n) (number m r e) ∙ f) ∙ rest
        ] refl

-- Of rows in order, those whose numbers are among these are the rows of these numbers.
picked_is : (rows : List StoredRow) (at : ℕ → Option StoredRow) (numbers : List ℕ) → InOrder rows → ((n : ℕ) → row_at rows n ≡ at n) → RisingNumbers 0 numbers
    → filter (λ r. is_among numbers r.number) rows ≡ picked at numbers
picked_is rows at numbers h same up =
    same_rows (filter p rows) (picked at numbers) (in_order_filter p rows h) (in_order_picked at number 0 numbers up) (λ n.
    row_at_filter_in_order p rows n h ∙ chosen n (row_at rows n) refl ∙ sym (row_at_picked at number 0 numbers n up))
  where
    p : StoredRow → Bool
    p r = is_among numbers r.number

    number : Numbers at
    number n r e = number_of_row_at rows n r (same n ∙ e)

    chosen : (n : ℕ) (o : Option StoredRow) → row_at rows n ≡ o → passing p o ≡ (if is_among numbers n then at n else None)
    chosen n None e =
        elim (is_among numbers n) as (λ b. ◌≡◌ {A = Option StoredRow} None (if b then None else None)) [ true ↦ refl | false ↦ refl ]
        ∙ ap (λ o. if is_among numbers n then o else None) (sym e ∙ same n)
    chosen n (Some r) e =
        ap (λ m. if is_among numbers m then Some r else None) (number_of_row_at rows n r e)
        ∙ ap (λ o. if is_among numbers n then o else None) (sym e ∙ same n)

-- ---- what is made of rows, where nothing comes of the others

pub made_of_picked : {B : Type 0} (f : StoredRow → Option B) (rows : List StoredRow) (at : ℕ → Option StoredRow) (numbers : List ℕ) → InOrder rows
    → ((n : ℕ) → row_at rows n ≡ at n) → RisingNumbers 0 numbers
    → ((r : StoredRow) → row_at rows r.number ≡ Some r → is_among numbers r.number ≡ false → f r ≡ None)
    → filter_map f rows ≡ filter_map f (picked at numbers)
made_of_picked f rows at numbers h same up none =
    filter_map_part f (λ r. is_among numbers r.number) rows rows (present_itself rows h) none
    ∙ ap (filter_map f) (picked_is rows at numbers h same up)

filter_part : (q p : StoredRow → Bool) (rows some : List StoredRow) → Present rows some
    → ((r : StoredRow) → row_at rows r.number ≡ Some r → p r ≡ false → q r ≡ false) → filter q some ≡ filter q (filter p some)
filter_part q p rows [] h none = refl
filter_part q p rows (r ∷ some) h none =
    elim (p r) as (λ b. p r ≡ b → (if q r then r ∷ filter q some else filter q some) ≡ filter q (if b then r ∷ filter p some else filter p some)) [
      | true ↦ λ _. ap (λ l. if q r then r ∷ l else l) (filter_part q p rows some h.1 none)
      | false ↦ λ e. ap (λ b. if b then r ∷ filter q some else filter q some) (none r h.0 e) ∙ filter_part q p rows some h.1 none
    ] refl

pub filter_of_picked : (q : StoredRow → Bool) (rows : List StoredRow) (at : ℕ → Option StoredRow) (numbers : List ℕ) → InOrder rows
    → ((n : ℕ) → row_at rows n ≡ at n) → RisingNumbers 0 numbers
    → ((r : StoredRow) → row_at rows r.number ≡ Some r → is_among numbers r.number ≡ false → q r ≡ false)
    → filter q rows ≡ filter q (picked at numbers)
filter_of_picked q rows at numbers h same up none =
    filter_part q (λ r. is_among numbers r.number) rows rows (present_itself rows h) none
    ∙ ap (filter q) (picked_is rows at numbers h same up)
