-- Elsewhere than at a changed row and those that the change concerns, the same rows violate a constraint.
use Rattle.std.proofs.Common.{◌≡◌, refl, ℕ, Bool, true, false, ◌&&◌, not, if◌then◌else◌, List, [], ◌∷◌, filter, Option, Some, None, sym, ap, ◌∙◌}
use mathlib.Core.Bool.{or-false}
use Rattle.std.specs.Bool.{◌==◌}
use Rattle.std.proofs.lemmas.Bool.{eqb-true, eq-eqb, not-true}
use Rattle.iv_laws_levels.specs.Types.{StoredRow, Change, Constraint, Database}
use Rattle.iv_machine.specs.Databases.{row_at, violates}
use Rattle.iv_laws_levels.specs.Reorderings.{after_changes}
use Rattle.iv_laws_levels.specs.RisingRows.{InOrder}
use Rattle.iv_laws_levels.specs.FittingWaves.{old_row}
use Rattle.iv_laws_levels.specs.Locality.{concerns, is_elsewhere}
use Rattle.iv_laws_levels.proofs.RowNumbers.{number_of_row_at, in_order_filter, same_rows, passing, row_at_filter_in_order}
use Rattle.iv_laws_levels.proofs.AppliedRows.{news, row_at_rows_after, rows_after_in_order}
use Rattle.iv_laws_levels.proofs.Keys.{and_second}
use Rattle.iv_laws_levels.proofs.Locality.{change_is_local}

-- ---- two tests, one after another

-- what the last test fails, both fail
none_passes : (p q : StoredRow → Bool) (o : Option StoredRow) → ((r : StoredRow) → o ≡ Some r → p r ≡ false) → passing p (passing q o) ≡ None
none_passes p q None h = refl
none_passes p q (Some r) h =
    elim (q r) as (λ b. passing p (if b then Some r else None) ≡ None) [ true ↦ ap (λ b. if b then Some r else None) (h r refl) | false ↦ refl ]

-- two first tests that agree if the last one passes may replace one another
same_passes : (p q other : StoredRow → Bool) (o : Option StoredRow) → ((r : StoredRow) → p r ≡ true → q r ≡ other r)
    → passing p (passing q o) ≡ passing p (passing other o)
same_passes p q other None h = refl
same_passes p q other (Some r) h =
    elim (p r) as (λ b. p r ≡ b → passing p (passing q (Some r)) ≡ passing p (passing other (Some r))) [
      | true ↦ λ e. ap (λ b. passing p (if b then Some r else None)) (h r e)
      | false ↦ λ e. fails (q r) e ∙ sym (fails (other r) e)
    ] refl
  where
    fails : (b : Bool) → p r ≡ false → passing p (if b then Some r else None) ≡ None
    fails true e = ap (λ x. if x then Some r else None) e
    fails false e = refl

row_at_two : (p q : StoredRow → Bool) (rows : List StoredRow) (n : ℕ) → InOrder rows → row_at (filter p (filter q rows)) n ≡ passing p (passing q (row_at rows n))
row_at_two p q rows n h =
    row_at_filter_in_order p (filter q rows) n (in_order_filter q rows h) ∙ ap (passing p) (row_at_filter_in_order q rows n h)

-- ---- elsewhere

not_elsewhere : (c : Change) (k : Constraint) (n : ℕ) (r : StoredRow) → c.row ≡ n → r.number ≡ n → is_elsewhere c k r ≡ false
not_elsewhere c k n r e f = ap (λ b. not b && not (concerns c k r)) (eq-eqb c.row r.number (e ∙ sym f))

pub violations_elsewhere : (db : Database) (c : Change) (k : Constraint) → InOrder db.rows → row_at db.rows c.row ≡ old_row c
    → filter (is_elsewhere c k) (filter (violates (after_changes db (c ∷ [])).rows k) (after_changes db (c ∷ [])).rows) ≡ filter (is_elsewhere c k) (filter (violates db.rows k) db.rows)
violations_elsewhere db c k h current =
    same_rows (filter away (filter after later)) (filter away (filter before db.rows))
    (in_order_filter away (filter after later) (in_order_filter after later rising)) (in_order_filter away (filter before db.rows) (in_order_filter before db.rows h)) (λ n.
    row_at_two away after later n rising
    ∙ ap (λ o. passing away (passing after o)) (row_at_rows_after db.rows (c ∷ []) n)
    ∙ ap (λ b. passing away (passing after (if b then row_at (news (c ∷ [])) n else row_at db.rows n))) (or-false (c.row == n))
    ∙ by_number n (c.row == n) refl
    ∙ sym (row_at_two away before db.rows n h))
  where
    later : List StoredRow
    later = (after_changes db (c ∷ [])).rows

    rising : InOrder later
    rising = rows_after_in_order db.rows (c ∷ [])

    away : StoredRow → Bool
    away = is_elsewhere c k

    after : StoredRow → Bool
    after = violates later k

    before : StoredRow → Bool
    before = violates db.rows k

    agree : (r : StoredRow) → away r ≡ true → after r ≡ before r
    agree r e = ap (λ b. (r.table == k.table) && not b) (change_is_local db c k r h current (not-true (concerns c k r) (and_second (not (c.row == r.number)) (not (concerns c k r)) e)))

    here : (rows : List StoredRow) (n : ℕ) (q : StoredRow → Bool) → (c.row == n) ≡ true → passing away (passing q (row_at rows n)) ≡ None
    here rows n q e = none_passes away q (row_at rows n) (λ r f. not_elsewhere c k n r (eqb-true c.row n e) (number_of_row_at rows n r f))

    by_number : (n : ℕ) (b : Bool) → (c.row == n) ≡ b
        → passing away (passing after (if b then row_at (news (c ∷ [])) n else row_at db.rows n)) ≡ passing away (passing before (row_at db.rows n))
    by_number n true e = here (news (c ∷ [])) n after e ∙ sym (here db.rows n before e)
    by_number n false e = same_passes away after before (row_at db.rows n) agree
