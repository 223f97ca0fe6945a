-- The changes of a wave, one by one and in any order, are the wave.
use Rattle.std.proofs.Common.{◌≡◌, refl, ℕ, suc, ◌+◌, max, Bool, true, false, ◌||◌, if◌then◌else◌, List, [], ◌∷◌, length, Option, Some, None, sym, ap, ◌∙◌, arith}
use mathlib.Core.Bool.{or-false}
use Rattle.std.specs.Bool.{◌==◌}
use Rattle.std.specs.List.{cons_option}
use Rattle.std.proofs.lemmas.Bool.{eqb-true, or_parts}
use Rattle.iv_laws_levels.specs.Types.{Value, StoredRow, Change, Database}
use Rattle.iv_expr.specs.Changes.{Wave}
use Rattle.iv_machine.specs.Databases.{row_at, has_change, next_after, database_after}
use Rattle.iv_laws_levels.specs.RisingRows.{InOrder}
use Rattle.iv_laws_levels.specs.Reorderings.{after_changes, Distinct, Reordered, same, further, swapped, twice, one_by_one}
use Rattle.iv_laws_levels.proofs.RowNumbers.{same_rows}
use Rattle.iv_laws_levels.proofs.AppliedRows.{row_of, side_here, side_elsewhere, no_side, news, row_at_rows_after, rows_after_in_order, same_database}

-- ---- one by one, in the order of the wave

row_at_one : (db : Database) (c : Change) (n : ℕ) → row_at (after_changes db (c ∷ [])).rows n ≡ (if c.row == n then row_at (news (c ∷ [])) n else row_at db.rows n)
row_at_one db c n = row_at_rows_after db.rows (c ∷ []) n ∙ ap (λ b. if b then row_at (news (c ∷ [])) n else row_at db.rows n) (or-false (c.row == n))

row_at_one_by_one : (db : Database) (wave : List Change) (n : ℕ) → Distinct wave
    → row_at (one_by_one db wave).rows n ≡ (if has_change wave n then row_at (news wave) n else row_at db.rows n)
row_at_one_by_one db [] n d = refl
row_at_one_by_one db (c ∷ wave) n d =
    row_at_one_by_one (after_changes db (c ∷ [])) wave n d.1
    ∙ ap (λ o. if has_change wave n then row_at (news wave) n else o) (row_at_one db c n)
    ∙ elim (c.row == n) as (λ b. (c.row == n) ≡ b
    → (if has_change wave n then row_at (news wave) n else (if b then row_at (news (c ∷ [])) n else row_at db.rows n))
    ≡ (if b || has_change wave n then row_at (news (c ∷ wave)) n else row_at db.rows n)) [
      | true ↦ λ e.
          let out : has_change wave n ≡ false = ap (has_change wave) (sym (eqb-true c.row n e)) ∙ d.0 in
          ap (λ b. if b then row_at (news wave) n else row_at (news (c ∷ [])) n) out
          ∙ side_here c c.new [] n e refl
          ∙ sym (side_here c c.new (news wave) n e (no_side (λ x. x.new) wave n out))
      | false ↦ λ e. ap (λ o. if has_change wave n then o else row_at db.rows n) (sym (side_elsewhere c c.new (news wave) n e))
    ] refl

in_order_one_by_one : (db : Database) (wave : List Change) → InOrder db.rows → InOrder (one_by_one db wave).rows
in_order_one_by_one db [] h = h
in_order_one_by_one db (c ∷ wave) h = in_order_one_by_one (after_changes db (c ∷ [])) wave (rows_after_in_order db.rows (c ∷ []))

next_after_max : (m next : ℕ) (wave : List Change) → next_after (max m next) wave ≡ max m (next_after next wave)
next_after_max m next [] = refl
next_after_max m next (c ∷ wave) = omega (arith, next_after_max m next wave)

next_one_by_one : (db : Database) (wave : List Change) → (one_by_one db wave).next ≡ next_after db.next wave
next_one_by_one db [] = refl
next_one_by_one db (c ∷ wave) = next_one_by_one (after_changes db (c ∷ [])) wave ∙ next_after_max (c.row + 1) db.next wave

count_one_by_one : (db : Database) (wave : List Change) → (one_by_one db wave).count ≡ db.count + length wave
count_one_by_one db [] = omega arith
count_one_by_one db (c ∷ wave) = count_one_by_one (after_changes db (c ∷ [])) wave ∙ omega arith

pub applied_one_by_one : (db : Database) (wave : List Change) → InOrder db.rows → Distinct wave → one_by_one db wave ≡ after_changes db wave
applied_one_by_one db wave h d =
    same_database (one_by_one db wave) (after_changes db wave)
    (same_rows (one_by_one db wave).rows (after_changes db wave).rows (in_order_one_by_one db wave h) (rows_after_in_order db.rows wave)
    (λ n. row_at_one_by_one db wave n d ∙ sym (row_at_rows_after db.rows wave n)))
    (next_one_by_one db wave) (count_one_by_one db wave)

-- ---- in any order

in_wave_reordered : (wave other : List Change) (n : ℕ) → Reordered wave other → has_change wave n ≡ has_change other n
in_wave_reordered wave other n same = refl
in_wave_reordered wave other n (further {changes = xs} {other = ys} c p) = ap (λ b. (c.row == n) || b) (in_wave_reordered xs ys n p)
in_wave_reordered wave other n (swapped {changes = xs} c d) = or_swap (c.row == n) (d.row == n) (has_change xs n)
  where
    or_swap : (a b c : Bool) → (a || (b || c)) ≡ (b || (a || c))
    or_swap true true c = refl
    or_swap true false c = refl
    or_swap false true c = refl
    or_swap false false c = refl
in_wave_reordered wave other n (twice {middle = xs} p q) = in_wave_reordered wave xs n p ∙ in_wave_reordered xs other n q

eqb_swap : (a b : ℕ) → (a == b) ≡ (b == a)
eqb_swap a b = grind arith

distinct_reordered : (wave other : List Change) → Reordered wave other → Distinct wave → Distinct other
distinct_reordered wave other same d = d
distinct_reordered wave other (further {changes = xs} {other = ys} c p) d = (sym (in_wave_reordered xs ys c.row p) ∙ d.0, distinct_reordered xs ys p d.1)
distinct_reordered wave other (swapped {changes = xs} c e) d =
    let parts = or_parts (e.row == c.row) (has_change xs c.row) d.0 in
    (ap (λ b. b || has_change xs e.row) (eqb_swap c.row e.row ∙ parts.0) ∙ d.1.0, (parts.1, d.1.1))
distinct_reordered wave other (twice {middle = xs} p q) d = distinct_reordered xs other q (distinct_reordered wave xs p d)

cons_alike : (o : Option StoredRow) (xs ys : List StoredRow) (n : ℕ) → row_at xs n ≡ row_at ys n → row_at (cons_option o xs) n ≡ row_at (cons_option o ys) n
cons_alike None xs ys n e = e
cons_alike (Some r) xs ys n e = ap (λ o. if r.number == n then Some r else o) e

cons_swap : (c d : Change) (one other : Option (List Value)) (rows : List StoredRow) (n : ℕ) → (c.row == d.row) ≡ false
    → row_at (cons_option (row_of c one) (cons_option (row_of d other) rows)) n ≡ row_at (cons_option (row_of d other) (cons_option (row_of c one) rows)) n
cons_swap c d None other rows n e = refl
cons_swap c d (Some v) None rows n e = refl
cons_swap c d (Some v) (Some u) rows n e =
    elim (c.row == n) as (λ b. (c.row == n) ≡ b
    → (if b then Some (record { number = c.row; table = c.table; values = v }) else (if d.row == n then Some (record { number = d.row; table = d.table; values = u }) else row_at rows n))
    ≡ (if d.row == n then Some (record { number = d.row; table = d.table; values = u }) else (if b then Some (record { number = c.row; table = c.table; values = v }) else row_at rows n))) [
      | true ↦ λ f. rw (← eqb-true c.row n f, eqb_swap d.row c.row, e) refl
      | false ↦ λ f. refl
    ] refl

news_reordered : (wave other : List Change) (n : ℕ) → Reordered wave other → Distinct wave → row_at (news wave) n ≡ row_at (news other) n
news_reordered wave other n same d = refl
news_reordered wave other n (further {changes = xs} {other = ys} c p) d = cons_alike (row_of c c.new) (news xs) (news ys) n (news_reordered xs ys n p d.1)
news_reordered wave other n (swapped {changes = xs} c e) d =
    cons_swap c e c.new e.new (news xs) n (eqb_swap c.row e.row ∙ (or_parts (e.row == c.row) (has_change xs c.row) d.0).0)
news_reordered wave other n (twice {middle = xs} p q) d = news_reordered wave xs n p d ∙ news_reordered xs other n q (distinct_reordered wave xs p d)

next_reordered : (next : ℕ) (wave other : List Change) → Reordered wave other → next_after next wave ≡ next_after next other
next_reordered next wave other same = refl
next_reordered next wave other (further {changes = xs} {other = ys} c p) = ap (max (c.row + 1)) (next_reordered next xs ys p)
next_reordered next wave other (swapped {changes = xs} c d) = omega arith
next_reordered next wave other (twice {middle = xs} p q) = next_reordered next wave xs p ∙ next_reordered next xs other q

length_reordered : (wave other : List Change) → Reordered wave other → length wave ≡ length other
length_reordered wave other same = refl
length_reordered wave other (further {changes = xs} {other = ys} c p) = ap suc (length_reordered xs ys p)
length_reordered wave other (swapped {changes = xs} c d) = refl
length_reordered wave other (twice {middle = xs} p q) = length_reordered wave xs p ∙ length_reordered xs other q

applied_reordered : (db : Database) (wave other : List Change) → Distinct wave → Reordered wave other → after_changes db other ≡ after_changes db wave
applied_reordered db wave other d p =
    same_database (after_changes db other) (after_changes db wave)
    (same_rows (after_changes db other).rows (after_changes db wave).rows (rows_after_in_order db.rows other) (rows_after_in_order db.rows wave) (λ n.
    row_at_rows_after db.rows other n
    ∙ ap (λ b. if b then row_at (news other) n else row_at db.rows n) (sym (in_wave_reordered wave other n p))
    ∙ ap (λ o. if has_change wave n then o else row_at db.rows n) (sym (news_reordered wave other n p d))
    ∙ sym (row_at_rows_after db.rows wave n)))
    (sym (next_reordered db.next wave other p))
    (ap (λ n. db.count + n) (sym (length_reordered wave other p)))

pub any_order : (db : Database) (wave : Wave) (other : List Change) → InOrder db.rows → Distinct wave.changes → Reordered wave.changes other
    → one_by_one db other ≡ database_after db wave
any_order db wave other h d p =
    applied_one_by_one db other h (distinct_reordered wave.changes other p d) ∙ applied_reordered db wave.changes other d p
