-- The rows that hold a key before a wave.
use Rattle.std.proofs.Common.{◌≡◌, refl, ℕ, Bool, true, false, ◌&&◌, ◌||◌, not, if◌then◌else◌, List, [], ◌∷◌, ◌++◌, filter, Option, Some, None, sym, ap, ◌∙◌}
use Rattle.std.specs.Bool.{◌==◌}
use Rattle.std.specs.List.{cons_option, find}
use Rattle.std.specs.Option.{option_or}
use Rattle.std.proofs.lemmas.List.Folds.{find-append}
use Rattle.std.proofs.lemmas.Bool.{eqb-true}
use Rattle.iv_laws_levels.specs.Types.{Value, StoredRow, Change, Database}
use Rattle.iv_expr.specs.Changes.{Wave}
use Rattle.iv_expr.specs.Scopes.{table_rows}
use Rattle.iv_key.specs.Keys.{holds_key}
use Rattle.iv_machine.specs.Databases.{row_at, has_change, in_order, database_after}
use Rattle.iv_laws_levels.specs.RisingRows.{InOrder}
use Rattle.iv_laws_levels.specs.Reorderings.{Distinct, after_changes}
use Rattle.iv_laws_levels.specs.FittingWaves.{old_row, Current}
use Rattle.iv_laws_levels.specs.Holders.{holders, old_rows, is_outside, row_before}
use Rattle.iv_laws_levels.proofs.RowNumbers.{some_none, some_same, number_of_row_at, row_at_in_order, sorted_in_order, in_order_filter, same_rows, passing, Apart, row_at_filter, row_at_filter_in_order}
use Rattle.iv_laws_levels.proofs.AppliedRows.{row_of, side_here, side_elsewhere, no_side, news, row_at_rows_after, rows_after_in_order}
use Rattle.iv_laws_levels.proofs.Filters.{filter_both}

-- ---- the rows of the wave, as they were

-- of a wave that says what the rows hold
pub row_at_old_rows : (rows : List StoredRow) (wave : List Change) (n : ℕ) → Distinct wave → Current rows wave
    → row_at (old_rows wave) n ≡ (if has_change wave n then row_at rows n else None)
row_at_old_rows rows [] n d c = refl
row_at_old_rows rows (x ∷ wave) n d c =
    elim (x.row == n) as (λ b. (x.row == n) ≡ b → row_at (old_rows (x ∷ wave)) n ≡ (if b || has_change wave n then row_at rows n else None)) [
      | true ↦ λ e.
          let is = eqb-true x.row n e in
          let gone : has_change wave n ≡ false = ap (has_change wave) (sym is) ∙ d.0 in
          side_here x x.old (old_rows wave) n e (no_side (λ y. y.old) wave n gone) ∙ sym c.0 ∙ ap (row_at rows) is
      | false ↦ λ e. side_elsewhere x x.old (old_rows wave) n e ∙ row_at_old_rows rows wave n d.1 c.1
    ] refl

apart_option : (x : Change) (side : Option (List Value)) (rows : List StoredRow) → row_at rows x.row ≡ None → Apart rows → Apart (cons_option (row_of x side) rows)
apart_option x None rows e a = a
apart_option x (Some values) rows e a = (e, a)

apart_old_rows : (wave : List Change) → Distinct wave → Apart (old_rows wave)
apart_old_rows [] d = tt
apart_old_rows (x ∷ wave) d = apart_option x x.old (old_rows wave) (no_side (λ y. y.old) wave x.row d.0) (apart_old_rows wave d.1)

-- ---- rows that pass a test, before a wave

passing_outside : (wave : List Change) (n : ℕ) (found : Option StoredRow) → ((r : StoredRow) → found ≡ Some r → r.number ≡ n)
    → passing (is_outside wave) found ≡ (if has_change wave n then None else found)
passing_outside wave n None h = elim (has_change wave n) as (λ b. ◌≡◌ {A = Option StoredRow} None (if b then None else None)) [ true ↦ refl | false ↦ refl ]
passing_outside wave n (Some r) h =
    ap (λ m. if not (has_change wave m) then Some r else None) (h r refl)
    ∙ elim (has_change wave n) as (λ b. (if not b then Some r else None) ≡ (if b then None else Some r)) [ true ↦ refl | false ↦ refl ]

pub before_wave : (db : Database) (wave : List Change) (p : StoredRow → Bool) → InOrder db.rows → Distinct wave → Current db.rows wave
    → filter p db.rows ≡ in_order (filter (is_outside wave) (filter p (after_changes db wave).rows) ++ filter p (old_rows wave))
before_wave db wave p h d c =
    same_rows (filter p db.rows) (in_order both) (in_order_filter p db.rows h) (sorted_in_order both) (λ n.
    row_at_filter_in_order p db.rows n h ∙ sym (at n))
  where
    later : List StoredRow
    later = (after_changes db wave).rows

    left : List StoredRow
    left = filter (is_outside wave) (filter p later)

    both : List StoredRow
    both = left ++ filter p (old_rows wave)

    rising : InOrder (filter p later)
    rising = in_order_filter p later (rows_after_in_order db.rows wave)

    at_left : (n : ℕ) → row_at left n ≡ (if has_change wave n then None else passing p (row_at db.rows n))
    at_left n =
        row_at_filter_in_order (is_outside wave) (filter p later) n rising
        ∙ passing_outside wave n (row_at (filter p later) n) (number_of_row_at (filter p later) n)
        ∙ ap (λ o. if has_change wave n then None else o) (row_at_filter_in_order p later n (rows_after_in_order db.rows wave))
        ∙ ap (λ o. if has_change wave n then None else passing p o) (row_at_rows_after db.rows wave n)
        ∙ elim (has_change wave n) as (λ b. (if b then None else passing p (if b then row_at (news wave) n else row_at db.rows n)) ≡ (if b then None else passing p (row_at db.rows n))) [
          | true ↦ refl
          | false ↦ refl
        ]

    at_old : (n : ℕ) → row_at (filter p (old_rows wave)) n ≡ passing p (if has_change wave n then row_at db.rows n else None)
    at_old n = row_at_filter p (old_rows wave) n (apart_old_rows wave d) ∙ ap (passing p) (row_at_old_rows db.rows wave n d c)

    or_none : (o : Option StoredRow) → option_or o None ≡ o
    or_none None = refl
    or_none (Some r) = refl

    at : (n : ℕ) → row_at (in_order both) n ≡ passing p (row_at db.rows n)
    at n =
        row_at_in_order both n
        ∙ find-append (λ r. r.number == n) left (filter p (old_rows wave))
        ∙ (λ i. option_or (at_left n i) (at_old n i))
        ∙ elim (has_change wave n) as (λ b. option_or (if b then None else passing p (row_at db.rows n)) (passing p (if b then row_at db.rows n else None)) ≡ passing p (row_at db.rows n)) [
          | true ↦ refl
          | false ↦ or_none (passing p (row_at db.rows n))
        ]

-- the rows of a table that pass a test, before a wave
pub table_rows_before : (db : Database) (wave : List Change) (t : ℕ) (p : StoredRow → Bool) → InOrder db.rows → Distinct wave → Current db.rows wave
    → filter p (table_rows db.rows t)
    ≡ in_order (filter (is_outside wave) (filter p (table_rows (after_changes db wave).rows t)) ++ filter p (table_rows (old_rows wave) t))
table_rows_before db wave t p h d c =
    as_one db.rows
    ∙ before_wave db wave (λ r. (r.table == t) && p r) h d c
    ∙ (λ i. in_order (filter (is_outside wave) (sym (as_one (after_changes db wave).rows) i) ++ sym (as_one (old_rows wave)) i))
  where
    as_one : (rows : List StoredRow) → filter p (table_rows rows t) ≡ filter (λ r. (r.table == t) && p r) rows
    as_one rows = filter_both p (λ r. r.table == t) rows

pub holders_before : (db : Database) (wave : Wave) (t : ℕ) (columns : List ℕ) (key : List Value)
    → InOrder db.rows → Distinct wave.changes → Current db.rows wave.changes
    → holders db.rows t columns key
    ≡ in_order (filter (is_outside wave.changes) (holders (database_after db wave).rows t columns key) ++ holders (old_rows wave.changes) t columns key)
holders_before db wave t columns key h d c = table_rows_before db wave.changes t (λ r. holds_key columns key r.values) h d c

-- ---- one row before a wave

pub rows_before : (db : Database) (wave : Wave) (n : ℕ) → Current db.rows wave.changes → row_at db.rows n ≡ row_before wave (database_after db wave).rows n
rows_before db wave n c = by_changes wave.changes c outside
  where
    later : List StoredRow
    later = (database_after db wave).rows

    outside : has_change wave.changes n ≡ false → row_at db.rows n ≡ row_at later n
    outside e = sym (row_at_rows_after db.rows wave.changes n ∙ ap (λ b. if b then row_at (news wave.changes) n else row_at db.rows n) e)

    by_changes : (some : List Change) → Current db.rows some → (has_change some n ≡ false → row_at db.rows n ≡ row_at later n)
        → row_at db.rows n ≡ elim (find (λ x. x.row == n) some) [ Some x ↦ old_row x | None ↦ row_at later n ]
    by_changes [] h rest = rest refl
    by_changes (x ∷ some) h rest =
        elim (x.row == n) as (λ b. (x.row == n) ≡ b → ((b || has_change some n) ≡ false → row_at db.rows n ≡ row_at later n)
        → row_at db.rows n ≡ elim (if b then Some x else find (λ y. y.row == n) some) [ Some y ↦ old_row y | None ↦ row_at later n ]) [
          | true ↦ λ e _. ap (row_at db.rows) (sym (eqb-true x.row n e)) ∙ h.0
          | false ↦ λ e more. by_changes some h.1 more
        ] refl rest

-- ---- rows of the wave

-- the wave changes this row
abbrev pub is_inside : List Change → StoredRow → Bool
is_inside wave r = has_change wave r.number

passing_inside : (wave : List Change) (n : ℕ) (found : Option StoredRow) → ((r : StoredRow) → found ≡ Some r → r.number ≡ n)
    → passing (is_inside wave) found ≡ (if has_change wave n then found else None)
passing_inside wave n None h = elim (has_change wave n) as (λ b. ◌≡◌ {A = Option StoredRow} None (if b then None else None)) [ true ↦ refl | false ↦ refl ]
passing_inside wave n (Some r) h = ap (λ m. if has_change wave m then Some r else None) (h r refl)

-- the rows of a wave that pass a test, before it
pub inside_wave : (db : Database) (wave : List Change) (p : StoredRow → Bool) → InOrder db.rows → Distinct wave → Current db.rows wave
    → filter (is_inside wave) (filter p db.rows) ≡ in_order (filter p (old_rows wave))
inside_wave db wave p h d c =
    same_rows (filter (is_inside wave) (filter p db.rows)) (in_order (filter p (old_rows wave)))
    (in_order_filter (is_inside wave) (filter p db.rows) (in_order_filter p db.rows h)) (sorted_in_order (filter p (old_rows wave))) (λ n.
    row_at_filter_in_order (is_inside wave) (filter p db.rows) n (in_order_filter p db.rows h)
    ∙ passing_inside wave n (row_at (filter p db.rows) n) (number_of_row_at (filter p db.rows) n)
    ∙ ap (λ o. if has_change wave n then o else None) (row_at_filter_in_order p db.rows n h)
    ∙ elim (has_change wave n) as (λ b. (if b then passing p (row_at db.rows n) else None) ≡ passing p (if b then row_at db.rows n else None)) [ true ↦ refl | false ↦ refl ]
    ∙ ap (passing p) (sym (row_at_old_rows db.rows wave n d c))
    ∙ sym (row_at_filter p (old_rows wave) n (apart_old_rows wave d))
    ∙ sym (row_at_in_order (filter p (old_rows wave)) n))

-- ---- tables

table_of_side : (c : Change) (side : Option (List Value)) (r : StoredRow) → row_of c side ≡ Some r → r.table ≡ c.table
table_of_side c None r e = absurd (some_none r (sym e))
table_of_side c (Some values) r e = ap (λ x. x.table) (sym (some_same _ r e))

table_of_news : (rows : List StoredRow) (wave : List Change) (n : ℕ) (r after : StoredRow) → Distinct wave → Current rows wave
    → row_at rows n ≡ Some r → row_at (news wave) n ≡ Some after → after.table ≡ r.table
table_of_news rows [] n r after d c e f = absurd (some_none after (sym f))
table_of_news rows (x ∷ wave) n r after d c e f =
    elim (x.row == n) as (λ b. (x.row == n) ≡ b → after.table ≡ r.table) [
      | true ↦ λ g.
          let is = eqb-true x.row n g in
          let gone : has_change wave n ≡ false = ap (has_change wave) (sym is) ∙ d.0 in
          table_of_side x x.new after (sym (side_here x x.new (news wave) n g (no_side (λ y. y.new) wave n gone)) ∙ f)
          ∙ sym (table_of_side x x.old r (sym c.0 ∙ ap (row_at rows) is ∙ e))
      | false ↦ λ g. table_of_news rows wave n r after d.1 c.1 e (sym (side_elsewhere x x.new (news wave) n g) ∙ f)
    ] refl

-- a row keeps its table
pub same_table : (db : Database) (wave : List Change) (n : ℕ) (r after : StoredRow) → Distinct wave → Current db.rows wave
    → row_at db.rows n ≡ Some r → row_at (after_changes db wave).rows n ≡ Some after → after.table ≡ r.table
same_table db wave n r after d c e f = by_wave (has_change wave n) (sym (row_at_rows_after db.rows wave n) ∙ f)
  where
    by_wave : (b : Bool) → (if b then row_at (news wave) n else row_at db.rows n) ≡ Some after → after.table ≡ r.table
    by_wave true g = table_of_news db.rows wave n r after d c e g
    by_wave false g = ap (λ x. x.table) (some_same after r (sym g ∙ e))
