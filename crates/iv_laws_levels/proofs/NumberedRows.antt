-- A database with rising numbers below the next one has them after a wave.
use Rattle.std.proofs.Common.{ℕ, ◌<◌, ◌≤◌, Bool, true, false, if◌then◌else◌, List, [], ◌∷◌, ◌++◌, filter, Option, Some, None, arith}
use Rattle.std.specs.Bool.{nat_lt, ◌==◌}
use Rattle.std.specs.List.{cons_option}
use Rattle.iv_laws_levels.specs.Types.{Value, StoredRow, Change, Database}
use Rattle.iv_machine.specs.Databases.{rows_with, in_order, rows_after, next_after}
use Rattle.iv_machine.specs.Invariants.{Rising}
use Rattle.iv_laws_levels.specs.Reorderings.{after_changes}
use Rattle.iv_laws_levels.specs.RisingRows.{Every, Above, InOrder}
use Rattle.iv_laws_levels.specs.Holders.{is_outside}
use Rattle.iv_laws_levels.specs.FittingWaves.{Numbered}
use Rattle.iv_laws_levels.proofs.RowNumbers.{above_lower}
use Rattle.iv_laws_levels.proofs.AppliedRows.{row_of, news, rows_after_in_order}

-- ---- what each row has, each row after a wave has

module _ (P : StoredRow → Type 0) where
  every_put : (r : StoredRow) (rows : List StoredRow) → P r → Every P rows → Every P (rows_with r rows)
  every_put r [] h e = (h, tt)
  every_put r (s ∷ rows) h e =
      elim (nat_lt r.number s.number) as (λ t. Every P (if t then r ∷ s ∷ rows else (if r.number == s.number then r ∷ rows else s ∷ rows_with r rows))) [
        | true ↦ (h, e)
        | false ↦ elim (r.number == s.number) as (λ t. Every P (if t then r ∷ rows else s ∷ rows_with r rows)) [ true ↦ (h, e.1) | false ↦ (e.0, every_put r rows h e.1) ]
      ]

  every_in_order : (rows : List StoredRow) → Every P rows → Every P (in_order rows)
  every_in_order [] e = tt
  every_in_order (r ∷ rows) e = every_put r (in_order rows) e.0 (every_in_order rows e.1)

  every_append : (rows others : List StoredRow) → Every P rows → Every P others → Every P (rows ++ others)
  every_append [] others e o = o
  every_append (r ∷ rows) others e o = (e.0, every_append rows others e.1 o)

  every_filter : (p : StoredRow → Bool) (rows : List StoredRow) → Every P rows → Every P (filter p rows)
  every_filter p [] e = tt
  every_filter p (r ∷ rows) e =
      elim (p r) as (λ t. Every P (if t then r ∷ filter p rows else filter p rows)) [ true ↦ (e.0, every_filter p rows e.1) | false ↦ every_filter p rows e.1 ]

  pub every_after : (rows : List StoredRow) (wave : List Change) → Every P rows → Every P (news wave) → Every P (rows_after rows wave)
  every_after rows wave e n =
      every_in_order (filter (is_outside wave) rows ++ news wave) (every_append (filter (is_outside wave) rows) (news wave) (every_filter (is_outside wave) rows e) n)

  -- of a row that a change leaves
  pub every_side : (c : Change) (side : Option (List Value)) (rows : List StoredRow) → ((values : List Value) → P (record { table = c.table; number = c.row; values = values }))
      → Every P rows → Every P (cons_option (row_of c side) rows)
  every_side c None rows h e = e
  every_side c (Some values) rows h e = (h values, e)

-- ---- the parts of rising numbers

-- all numbers are below this one
abbrev pub Below : ℕ → List StoredRow → Type 0
Below n rows = Every (λ r. r.number < n) rows

pub below_raised : (n m : ℕ) (rows : List StoredRow) → n ≤ m → Below n rows → Below m rows
below_raised n m [] le b = tt
below_raised n m (r ∷ rows) le b = (omega (arith, b.0, le), below_raised n m rows le b.1)

pub record Parts (low : ℕ) (rows : List StoredRow) (next : ℕ) : Type 0 where
  pub order : InOrder rows
  pub above : Above low rows
  pub below : Below next rows
  pub next_above : low < next

pub parts_of : (low : ℕ) (rows : List StoredRow) (next : ℕ) → Rising low rows next → Parts low rows next
parts_of low [] next h = record { order = tt; above = tt; below = tt; next_above = h }
parts_of low (r ∷ rows) next h =
    let rest = parts_of r.number rows next h.1 in
    record {
      order = (rest.above, rest.order);
      above = (h.0, above_lower low r.number rows (omega (arith, h.0)) rest.above);
      below = (rest.next_above, rest.below);
      next_above = omega (arith, h.0, rest.next_above);
    }

rising_from : (low : ℕ) (rows : List StoredRow) (next : ℕ) → InOrder rows → Above low rows → Below next rows → low < next → Rising low rows next
rising_from low [] next order above below h = h
rising_from low (r ∷ rows) next order above below h = (above.0, rising_from r.number rows next order.1 order.0 below.1 below.0)

-- ---- after a wave

-- all numbers of the wave are above 0
abbrev pub Positive : List Change → Type 0
Positive [] = Unit {0}
Positive (c ∷ wave) = (0 < c.row) × Positive wave

above_news : (wave : List Change) → Positive wave → Above 0 (news wave)
above_news [] p = tt
above_news (c ∷ wave) p = every_side (λ r. 0 < r.number) c c.new (news wave) (λ values. p.0) (above_news wave p.1)

next_after_least : (next : ℕ) (wave : List Change) → next ≤ next_after next wave
next_after_least next [] = omega arith
next_after_least next (c ∷ wave) = omega (arith, next_after_least next wave)

below_news : (next : ℕ) (wave : List Change) → Below (next_after next wave) (news wave)
below_news next [] = tt
below_news next (c ∷ wave) =
    let less : c.row < next_after next (c ∷ wave) = omega arith in
    every_side (λ r. r.number < next_after next (c ∷ wave)) c c.new (news wave) (λ values. less)
    (below_raised (next_after next wave) (next_after next (c ∷ wave)) (news wave) (omega arith) (below_news next wave))

pub numbered_applied : (db : Database) (wave : List Change) → Numbered db → Positive wave → Numbered (after_changes db wave)
numbered_applied db wave h p =
    let parts = parts_of 0 db.rows db.next h in
    let least = next_after_least db.next wave in
    rising_from 0 (after_changes db wave).rows (next_after db.next wave) (rows_after_in_order db.rows wave)
    (every_after (λ r. 0 < r.number) db.rows wave parts.above (above_news wave p))
    (every_after (λ r. r.number < next_after db.next wave) db.rows wave (below_raised db.next (next_after db.next wave) db.rows least parts.below) (below_news db.next wave))
    (omega (arith, parts.next_above, least))
