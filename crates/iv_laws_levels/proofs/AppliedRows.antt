-- The row at a number after a wave.
use Rattle.std.proofs.Common.{◌≡◌, refl, ℕ, Bool, true, false, not, ◌||◌, if◌then◌else◌, List, [], ◌∷◌, ◌++◌, filter, filter_map, Option, Some, None, sym, ap, ◌∙◌}
use Rattle.std.specs.Bool.{◌==◌}
use Rattle.std.specs.List.{cons_option}
use Rattle.std.specs.Option.{option_or}
use Rattle.std.proofs.lemmas.List.Folds.{find-append}
use Rattle.std.proofs.lemmas.Bool.{eqb-true, true≢false}
use Rattle.iv_laws_levels.specs.Types.{Value, StoredRow, Change, Database}
use Rattle.iv_machine.specs.Databases.{row_at, has_change, rows_after}
use Rattle.iv_laws_levels.specs.RisingRows.{InOrder}
use Rattle.iv_laws_levels.specs.Holders.{is_outside}
use Rattle.iv_laws_levels.proofs.RowNumbers.{row_at_in_order, sorted_in_order}

pub row_at_outside : (wave : List Change) (rows : List StoredRow) (n : ℕ)
    → row_at (filter (is_outside wave) rows) n ≡ (if has_change wave n then None else row_at rows n)
row_at_outside wave [] n = elim (has_change wave n) as (λ b. ◌≡◌ {A = Option StoredRow} None (if b then None else None)) [ true ↦ refl | false ↦ refl ]
row_at_outside wave (r ∷ rows) n =
    elim (r.number == n) as (λ b. (r.number == n) ≡ b → row_at (filter (is_outside wave) (r ∷ rows)) n ≡ (if has_change wave n then None else (if b then Some r else row_at rows n))) [
      | true ↦ λ e. let is = eqb-true r.number n e in
          elim (has_change wave r.number) as (λ b. has_change wave r.number ≡ b
          → row_at (if not b then r ∷ filter (is_outside wave) rows else filter (is_outside wave) rows) n ≡ (if has_change wave n then None else Some r)) [
            | true ↦ λ f. let g : has_change wave n ≡ true = ap (has_change wave) (sym is) ∙ f in
                row_at_outside wave rows n ∙ ap (λ b. if b then None else row_at rows n) g ∙ ap (λ b. if b then None else Some r) (sym g)
            | false ↦ λ f. let g : has_change wave n ≡ false = ap (has_change wave) (sym is) ∙ f in
                ap (λ b. if b then Some r else row_at (filter (is_outside wave) rows) n) e ∙ ap (λ b. if b then None else Some r) (sym g)
          ] refl
      | false ↦ λ e.
          elim (has_change wave r.number) as (λ b. row_at (if not b then r ∷ filter (is_outside wave) rows else filter (is_outside wave) rows) n
          ≡ (if has_change wave n then None else row_at rows n)) [
            | true ↦ row_at_outside wave rows n
            | false ↦ ap (λ b. if b then Some r else row_at (filter (is_outside wave) rows) n) e ∙ row_at_outside wave rows n
          ]
    ] refl

-- ---- a side of a change as a row

abbrev pub row_of : Change → Option (List Value) → Option StoredRow
row_of c side = elim side [ Some values ↦ Some (record { table = c.table; number = c.row; values = values }) | None ↦ None ]

pub side_here : (c : Change) (side : Option (List Value)) (rows : List StoredRow) (n : ℕ)
    → (c.row == n) ≡ true → row_at rows n ≡ None → row_at (cons_option (row_of c side) rows) n ≡ row_of c side
side_here c None rows n e h = h
side_here c (Some values) rows n e h = rw e refl

pub side_elsewhere : (c : Change) (side : Option (List Value)) (rows : List StoredRow) (n : ℕ)
    → (c.row == n) ≡ false → row_at (cons_option (row_of c side) rows) n ≡ row_at rows n
side_elsewhere c None rows n e = refl
side_elsewhere c (Some values) rows n e = rw e refl

-- one side of the changes of a wave, as rows
abbrev pub sides : (Change → Option (List Value)) → List Change → List StoredRow
sides side wave = filter_map (λ c. row_of c (side c)) wave

pub no_side : (side : Change → Option (List Value)) (wave : List Change) (n : ℕ) → has_change wave n ≡ false → row_at (sides side wave) n ≡ None
no_side side [] n h = refl
no_side side (c ∷ wave) n h =
    elim (c.row == n) as (λ b. (c.row == n) ≡ b → (b || has_change wave n) ≡ false → row_at (cons_option (row_of c (side c)) (sides side wave)) n ≡ None) [
      | true ↦ λ e f. absurd (true≢false f)
      | false ↦ λ e f. side_elsewhere c (side c) (sides side wave) n e ∙ no_side side wave n f
    ] refl h

-- the rows that the wave leaves
abbrev pub news : List Change → List StoredRow
news wave = sides (λ c. c.new) wave

-- ---- after a wave

or_none : {A : Type 0} (o : Option A) → option_or o None ≡ o
or_none None = refl
or_none (Some x) = refl

-- the row at a number after a wave is that of the wave's change of that number, else the one before
pub row_at_rows_after : (rows : List StoredRow) (wave : List Change) (n : ℕ)
    → row_at (rows_after rows wave) n ≡ (if has_change wave n then row_at (news wave) n else row_at rows n)
row_at_rows_after rows wave n =
    row_at_in_order (filter (is_outside wave) rows ++ news wave) n
    ∙ find-append (λ r. r.number == n) (filter (is_outside wave) rows) (news wave)
    ∙ ap (λ o. option_or o (row_at (news wave) n)) (row_at_outside wave rows n)
    ∙ either (has_change wave n) refl
  where
    either : (b : Bool) → has_change wave n ≡ b
        → option_or (if has_change wave n then None else row_at rows n) (row_at (news wave) n) ≡ (if has_change wave n then row_at (news wave) n else row_at rows n)
    either true e = rw e refl
    either false e = rw (e, no_side (λ c. c.new) wave n e) (or_none (row_at rows n))

pub rows_after_in_order : (rows : List StoredRow) (wave : List Change) → InOrder (rows_after rows wave)
rows_after_in_order rows wave = sorted_in_order (filter (is_outside wave) rows ++ news wave)

pub same_database : (db other : Database) → db.rows ≡ other.rows → db.next ≡ other.next → db.count ≡ other.count → db ≡ other
same_database db other rows next count = λ i. record { rows = rows i; next = next i; count = count i }
