-- A database after a change of one row: its rows with that row set.
use Rattle.std.proofs.Common.{◌≡◌, ℕ, ◌+◌, ◌^◌, ◌<◌, ◌≤◌, ◌⊎◌, inl, inr, max, Bool, true, false, not, ◌||◌, if◌then◌else◌, ◌==◌, Option, Some, None, List, [], ◌∷◌, ◌++◌, filter, arith, refl, ap, sym, ◌∙◌, append-nil}
use Rattle.std.specs.Prelude.{nat_lt}
use Rattle.std.proofs.lemmas.Bool.Decides.{nat_tests}
use Rattle.iv_value.specs.declared.value.Value.{Value}
use Rattle.iv_expr.specs.declared.row.StoredRow.{StoredRow}
use Rattle.iv_expr.specs.declared.row.Change.{Change}
use Rattle.iv_expr.specs.Changes.{wave_of}
use Rattle.iv_expr.specs.Scopes.{Rises}
use Rattle.iv_machine.specs.declared.database.Database.{Database}
use Rattle.iv_machine.specs.Bounds.{last_row_number, most_changes_in_a_transaction}
use Rattle.iv_machine.specs.Databases.{in_order, rows_with, rows_after, database_after}
use Rattle.iv_machine.specs.Invariants.{Rising}
use Rattle.iv_machine.proofs.Orders.{low_below, rising_in_order}
use Rattle.iv_machine.specs.SetRows.{InBounds, set_row}

-- ---- the numbers rise

-- numbers below the last one that a row may have
pub rises : (low : ℕ) (rows : List StoredRow) (next : ℕ) → Rising low rows next → next ≤ 2 ^ 63 → Rises low rows
rises low [] next h le = tt
rises low (r ∷ rows) next h le = (h.0, (let m : r.number < next = low_below r.number rows next h.1 in omega (arith, m, le)), rises r.number rows next h.1 le)

from_lower : (low up : ℕ) (rows : List StoredRow) (next : ℕ) → low ≤ up → Rising up rows next → Rising low rows next
from_lower low up [] next le h = omega (arith, le, h)
from_lower low up (r ∷ rows) next le h = (omega (arith, le, h.0), h.1)

pub up_to_higher : (low : ℕ) (rows : List StoredRow) (next higher : ℕ) → next ≤ higher → Rising low rows next → Rising low rows higher
up_to_higher low [] next higher le h = omega (arith, le, h)
up_to_higher low (r ∷ rows) next higher le h = (h.0, up_to_higher r.number rows next higher le h.1)

pub rising_part : (low : ℕ) (p : StoredRow → Bool) (rows : List StoredRow) (next : ℕ) → Rising low rows next → Rising low (filter p rows) next
rising_part low p [] next h = h
rising_part low p (r ∷ rows) next h = by (p r) (rising_part r.number p rows next h.1)
  where
    by : (b : Bool) → Rising r.number (filter p rows) next → Rising low (if b then r ∷ filter p rows else filter p rows) next
    by true rest = (h.0, rest)
    by false rest = from_lower low r.number (filter p rows) next (omega (arith, h.0)) rest

-- what two tests say
tells : (a b : ℕ) → ((nat_lt a b ≡ true) × (a < b)) ⊎ (((nat_lt a b ≡ false) × ((a == b) ≡ true) × (a ≡ b)) ⊎ ((nat_lt a b ≡ false) × ((a == b) ≡ false) × (b < a)))
tells a b = grind (arith, nat_tests)

pub rising_with : (low : ℕ) (x : StoredRow) (rows : List StoredRow) (next : ℕ) → low < x.number → x.number < next → Rising low rows next → Rising low (rows_with x rows) next
rising_with low x [] next l m h = (l, m)
rising_with low x (r ∷ rows) next l m h = elim (tells x.number r.number) [
  | inl t ↦ rw t.0 (l, (t.1, h.1))
  | inr o ↦ elim o [
    | inl e ↦ rw (e.0, e.1) (l, same e.2)
    | inr f ↦ rw (f.0, f.1) (h.0, rising_with r.number x rows next f.2 m h.1)
  ]
] where
  same : x.number ≡ r.number → Rising x.number rows next
  same e = rw e h.1

-- ---- the rows after one change

abbrev is_other : ℕ → StoredRow → Bool
is_other n r = not (n == r.number)

is_change_of : (n : ℕ) (rows : List StoredRow) → filter (λ r. not ((n == r.number) || false)) rows ≡ filter (is_other n) rows
is_change_of n [] = refl
is_change_of n (r ∷ rows) = by (n == r.number) (is_change_of n rows)
  where
    by : (b : Bool) → filter (λ r. not ((n == r.number) || false)) rows ≡ filter (is_other n) rows
        → (if not (b || false) then r ∷ filter (λ r. not ((n == r.number) || false)) rows else filter (λ r. not ((n == r.number) || false)) rows)
        ≡ (if not b then r ∷ filter (is_other n) rows else filter (is_other n) rows)
    by true e = e
    by false e = ap (λ l. r ∷ l) e

-- a row goes before those above it
in_front : (low : ℕ) (x : StoredRow) (rows : List StoredRow) (next : ℕ) → Rising low rows next → x.number ≤ low → rows_with x rows ≡ x ∷ rows
in_front low x [] next h le = refl
in_front low x (r ∷ rows) next h le = ap (λ b. if b then x ∷ r ∷ rows else (if x.number == r.number then x ∷ rows else r ∷ rows_with x rows)) (below h.0) where
  below : low < r.number → nat_lt x.number r.number ≡ true
  below l = grind (arith, nat_tests)

-- the other rows and then a row, in order
abbrev pub put_among : StoredRow → List StoredRow → List StoredRow
put_among x rows = in_order (filter (is_other x.number) rows ++ x ∷ [])

put_step : (low : ℕ) (x r : StoredRow) (rows : List StoredRow) (next : ℕ) → Rising low (r ∷ rows) next → x.number < next
    → put_among x rows ≡ rows_with x rows → put_among x (r ∷ rows) ≡ rows_with x (r ∷ rows)
put_step low x r rows next h m more = elim (tells x.number r.number) as (λ _. put_among x (r ∷ rows) ≡ rows_with x (r ∷ rows)) [
  | inl t ↦ before t.0 t.1
  | inr o ↦ elim o as (λ _. put_among x (r ∷ rows) ≡ rows_with x (r ∷ rows)) [
    | inl e ↦ same e.0 e.1 e.2
    | inr f ↦ later f.0 f.1 f.2
  ]
] where
  kept : (x.number == r.number) ≡ false → put_among x (r ∷ rows) ≡ rows_with r (rows_with x rows)
  kept e =
      ap (λ b. in_order ((if not b then r ∷ filter (is_other x.number) rows else filter (is_other x.number) rows) ++ x ∷ [])) e
      ∙ ap (rows_with r) more

  -- if the row goes in front, in the place of the first, and further back
  front : nat_lt x.number r.number ≡ true → rows_with x (r ∷ rows) ≡ x ∷ r ∷ rows
  front t = ap (λ b. if b then x ∷ r ∷ rows else (if x.number == r.number then x ∷ rows else r ∷ rows_with x rows)) t

  instead : nat_lt x.number r.number ≡ false → (x.number == r.number) ≡ true → rows_with x (r ∷ rows) ≡ x ∷ rows
  instead t e =
      ap (λ b. if b then x ∷ r ∷ rows else (if x.number == r.number then x ∷ rows else r ∷ rows_with x rows)) t
      ∙ ap (λ b. if b then x ∷ rows else r ∷ rows_with x rows) e

  further : nat_lt x.number r.number ≡ false → (x.number == r.number) ≡ false → rows_with x (r ∷ rows) ≡ r ∷ rows_with x rows
  further t e =
      ap (λ b. if b then x ∷ r ∷ rows else (if x.number == r.number then x ∷ rows else r ∷ rows_with x rows)) t
      ∙ ap (λ b. if b then x ∷ rows else r ∷ rows_with x rows) e

  before : nat_lt x.number r.number ≡ true → x.number < r.number → put_among x (r ∷ rows) ≡ rows_with x (r ∷ rows)
  before t l =
      let other : (x.number == r.number) ≡ false = grind (arith, nat_tests) in
      let not_below : nat_lt r.number x.number ≡ false = grind (arith, nat_tests) in
      let not_same : (r.number == x.number) ≡ false = grind (arith, nat_tests) in
      kept other ∙ ap (rows_with r) (in_front r.number x rows next h.1 (omega (arith, l)))
      ∙ ap (λ b. if b then r ∷ x ∷ rows else (if r.number == x.number then r ∷ rows else x ∷ rows_with r rows)) not_below
      ∙ ap (λ b. if b then r ∷ rows else x ∷ rows_with r rows) not_same
      ∙ ap (λ l. x ∷ l) (in_front r.number r rows next h.1 (omega arith))
      ∙ sym (front t)

  same : nat_lt x.number r.number ≡ false → (x.number == r.number) ≡ true → x.number ≡ r.number → put_among x (r ∷ rows) ≡ rows_with x (r ∷ rows)
  same t e n =
      ap (λ b. in_order ((if not b then r ∷ filter (is_other x.number) rows else filter (is_other x.number) rows) ++ x ∷ [])) e
      ∙ more ∙ in_front r.number x rows next h.1 (omega (arith, n)) ∙ sym (instead t e)

  later : nat_lt x.number r.number ≡ false → (x.number == r.number) ≡ false → r.number < x.number → put_among x (r ∷ rows) ≡ rows_with x (r ∷ rows)
  later t e l =
      kept e ∙ in_front r.number r (rows_with x rows) next (rising_with r.number x rows next l m h.1) (omega arith) ∙ sym (further t e)

pub put_after : (low : ℕ) (x : StoredRow) (rows : List StoredRow) (next : ℕ) → Rising low rows next → x.number < next → put_among x rows ≡ rows_with x rows
put_after low x [] next h m = refl
put_after low x (r ∷ rows) next h m = put_step low x r rows next h m (put_after r.number x rows next h.1 m)

-- The rows after the change of one row: with the row that it leaves.
pub rows_after_put : (rows : List StoredRow) (next table number : ℕ) (old : Option (List Value)) (values : List Value) → Rising 0 rows next → number < next
    → rows_after rows (record { table = table; row = number; old = old; new = Some values } ∷ [])
    ≡ rows_with (record { table = table; number = number; values = values }) rows
rows_after_put rows next table number old values h m =
    ap (λ l. in_order (l ++ record { table = table; number = number; values = values } ∷ [])) (is_change_of number rows)
    ∙ put_after 0 (record { table = table; number = number; values = values }) rows next h m

-- The rows after the change of one row: without it.
pub rows_after_taken : (rows : List StoredRow) (next table number : ℕ) (old : Option (List Value)) → Rising 0 rows next
    → rows_after rows (record { table = table; row = number; old = old; new = None } ∷ []) ≡ filter (is_other number) rows
rows_after_taken rows next table number old h =
    ap in_order (append-nil (filter (λ r. not ((number == r.number) || false)) rows) ∙ is_change_of number rows)
    ∙ rising_in_order 0 (filter (is_other number) rows) next (rising_part 0 (is_other number) rows next h)

-- ---- the database after one change

-- The rows after a change of one row, if all numbers are below a limit.
pub rows_after_set : (rows : List StoredRow) (limit : ℕ) (c : Change) → Rising 0 rows limit → c.row < limit → rows_after rows (c ∷ []) ≡ set_row c.table c.row c.new rows
rows_after_set rows limit c h m = by c.new where
  by : (o : Option (List Value)) → rows_after rows (record { table = c.table; row = c.row; old = c.old; new = o } ∷ []) ≡ set_row c.table c.row o rows
  by (Some values) = rows_after_put rows limit c.table c.row c.old values h m
  by None = rows_after_taken rows limit c.table c.row c.old h

pub set_rises : (rows : List StoredRow) (limit table number : ℕ) (values : Option (List Value)) → Rising 0 rows limit → 0 < number → number < limit
    → Rising 0 (set_row table number values rows) limit
set_rises rows limit table number (Some values) h l m = rising_with 0 (record { table = table; number = number; values = values }) rows limit l m h
set_rises rows limit table number None h l m = rising_part 0 (is_other number) rows limit h

-- the next number is not below the one before, and above the change's
pub higher : (db : Database) (c : Change) → InBounds db → Rising 0 db.rows (max (c.row + 1) db.next)
higher db c h = up_to_higher 0 db.rows db.next (max (c.row + 1) db.next) (omega arith) h.rising

pub changed_is : (db : Database) (c : Change) → InBounds db
    → record { rows = set_row c.table c.row c.new db.rows; next = max (c.row + 1) db.next; count = db.count + 1 } ≡ database_after db (wave_of (c ∷ []))
changed_is db c h =
    ap (λ (l : List StoredRow). record { rows = l; next = max (c.row + 1) db.next; count = db.count + 1 })
    (sym (rows_after_set db.rows (max (c.row + 1) db.next) c (higher db c h) (omega arith)))

pub changed_in_bounds : (db : Database) (c : Change) → InBounds db → 0 < c.row → c.row ≤ last_row_number → db.count < most_changes_in_a_transaction
    → InBounds (record { rows = set_row c.table c.row c.new db.rows; next = max (c.row + 1) db.next; count = db.count + 1 })
changed_in_bounds db c h l m n = record {
  rising = set_rises db.rows (max (c.row + 1) db.next) c.table c.row c.new (higher db c h) l (omega arith);
  next = omega (arith, m, h.next);
  count = omega (arith, n);
}
