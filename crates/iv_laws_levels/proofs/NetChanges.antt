-- Rows before and after a chain of waves, and its net changes.
use Rattle.std.proofs.Common.{◌≡◌, refl, ℕ, Bool, true, false, ◌&&◌, ◌||◌, if◌then◌else◌, List, [], ◌∷◌, ◌++◌, map, filter, Option, Some, None, is_none, sym, ap, ◌∙◌}
use Rattle.std.specs.Bool.{◌==◌}
use Rattle.std.specs.List.{find}
use Rattle.iv_laws_levels.specs.Types.{StoredRow, Change, Database}
use Rattle.iv_expr.specs.Changes.{Wave, wave_of}
use Rattle.iv_machine.specs.Databases.{row_at, has_change, new_row, database_after}
use Rattle.iv_machine.specs.Waves.{in_waves, net_change, net_insertion, net_wave}
use Rattle.iv_laws_levels.specs.RisingRows.{InOrder}
use Rattle.iv_laws_levels.specs.FittingWaves.{old_row, Numbered, Chain}
use Rattle.iv_laws_levels.specs.NetChanges.{row_before_waves, row_after_waves}
use Rattle.iv_laws_levels.proofs.RowNumbers.{some_none, number_of_row_at, in_order_filter, same_rows, passing, row_at_filter_in_order}
use Rattle.iv_laws_levels.proofs.NumberedRows.{parts_of}
use Rattle.iv_laws_levels.proofs.FittingWaves.{rising_distinct, chain_ends}
use Rattle.iv_laws_levels.proofs.Holders.{rows_before}
use Rattle.iv_laws_levels.proofs.WaveEquations.{rows_after_a_wave}

-- ---- rows before and after

pub rows_before_waves : (db last : Database) (waves : List Wave) (n : ℕ) → Chain db waves last → row_at db.rows n ≡ row_before_waves waves last.rows n
rows_before_waves db last [] n h = ap (λ d. row_at d.rows n) h.1
rows_before_waves db last (wave ∷ waves) n h =
    rows_before db wave n h.1.current
    ∙ ap (λ o. elim (find (λ c. c.row == n) wave.changes) [ Some c ↦ old_row c | None ↦ o ]) (rows_before_waves (database_after db wave) last waves n h.2)

pub rows_after_waves : (db last : Database) (waves : List Wave) (n : ℕ) → Chain db waves last → row_at last.rows n ≡ row_after_waves waves n (row_at db.rows n)
rows_after_waves db last [] n h = ap (λ d. row_at d.rows n) (sym h.1)
rows_after_waves db last (wave ∷ waves) n h =
    rows_after_waves (database_after db wave) last waves n h.2
    ∙ ap (row_after_waves waves n) (rows_after_a_wave db wave n (rising_distinct wave.changes h.1.rising))

-- ---- a row that the waves change

-- what no change is of, none is found of
not_changed : (changes : List Change) (n : ℕ) → find (λ c. c.row == n) changes ≡ None → has_change changes n ≡ false
not_changed [] n e = refl
not_changed (c ∷ changes) n e =
    elim (c.row == n) as (λ b. (if b then Some c else find (λ x. x.row == n) changes) ≡ None → (b || has_change changes n) ≡ false) [
      | true ↦ λ f. absurd (some_none c f)
      | false ↦ λ f. not_changed changes n f
    ] e

-- one of the waves after changes it
changed_later : (wave : Wave) (waves : List Wave) (n : ℕ) → in_waves (wave ∷ waves) n ≡ true → find (λ c. c.row == n) wave.changes ≡ None → in_waves waves n ≡ true
changed_later wave waves n e f = sym (ap (λ b. b || in_waves waves n) (not_changed wave.changes n f)) ∙ e

same_before : (waves : List Wave) (later other : List StoredRow) (n : ℕ) → in_waves waves n ≡ true → row_before_waves waves later n ≡ row_before_waves waves other n
same_before [] later other n e = cc
same_before (wave ∷ waves) later other n e =
    by_found (find (λ c. c.row == n) wave.changes) refl (same_before waves later other n)
  where
    by_found : (o : Option Change) → find (λ c. c.row == n) wave.changes ≡ o
        → (in_waves waves n ≡ true → row_before_waves waves later n ≡ row_before_waves waves other n)
        → ◌≡◌ {A = Option StoredRow} (elim o [ Some c ↦ old_row c | None ↦ row_before_waves waves later n ])
        (elim o [ Some c ↦ old_row c | None ↦ row_before_waves waves other n ])
    by_found (Some c) f rest = refl
    by_found None f rest = rest (changed_later wave waves n e f)

same_after : (waves : List Wave) (n : ℕ) (before other : Option StoredRow) → in_waves waves n ≡ true → row_after_waves waves n before ≡ row_after_waves waves n other
same_after [] n before other e = cc
same_after (wave ∷ waves) n before other e =
    by_found (find (λ c. c.row == n) wave.changes) refl (same_after waves n before other)
  where
    by_found : (o : Option Change) → find (λ c. c.row == n) wave.changes ≡ o
        → (in_waves waves n ≡ true → row_after_waves waves n before ≡ row_after_waves waves n other)
        → row_after_waves waves n (elim o [ Some c ↦ new_row c | None ↦ before ]) ≡ row_after_waves waves n (elim o [ Some c ↦ new_row c | None ↦ other ])
    by_found (Some c) f rest = refl
    by_found None f rest = rest (changed_later wave waves n e f)

-- ---- rows that pass a test of their number

passing_at : (t : ℕ → Bool) (n : ℕ) (found : Option StoredRow) → ((r : StoredRow) → found ≡ Some r → r.number ≡ n)
    → passing (λ r. t r.number) found ≡ (if t n then found else None)
passing_at t n None h = elim (t n) as (λ b. ◌≡◌ {A = Option StoredRow} None (if b then None else None)) [ true ↦ refl | false ↦ refl ]
passing_at t n (Some r) h = ap (λ m. if t m then Some r else None) (h r refl)

row_at_passing : (t : ℕ → Bool) (rows : List StoredRow) (n : ℕ) → InOrder rows → row_at (filter (λ r. t r.number) rows) n ≡ (if t n then row_at rows n else None)
row_at_passing t rows n h =
    row_at_filter_in_order (λ r. t r.number) rows n h ∙ passing_at t n (row_at rows n) (number_of_row_at rows n)

-- filters by numbers of two lists are the same if the rows that pass are
same_passing : (t u : ℕ → Bool) (rows others : List StoredRow) → InOrder rows → InOrder others
    → ((n : ℕ) → (if t n then row_at rows n else None) ≡ (if u n then row_at others n else None))
    → filter (λ r. t r.number) rows ≡ filter (λ r. u r.number) others
same_passing t u rows others h k same =
    same_rows (filter (λ r. t r.number) rows) (filter (λ r. u r.number) others)
    (in_order_filter (λ r. t r.number) rows h) (in_order_filter (λ r. u r.number) others k)
    (λ n. row_at_passing t rows n h ∙ same n ∙ sym (row_at_passing u others n k))

-- ---- the net changes

module _ (db last other ending : Database) (waves : List Wave) (h : Chain db waves last) (k : Chain other waves ending) where
  row_same : (n : ℕ) → in_waves waves n ≡ true → row_at db.rows n ≡ row_at other.rows n
  row_same n e = rows_before_waves db last waves n h ∙ same_before waves last.rows ending.rows n e ∙ sym (rows_before_waves other ending waves n k)

  later_same : (n : ℕ) → in_waves waves n ≡ true → row_at last.rows n ≡ row_at ending.rows n
  later_same n e =
      rows_after_waves db last waves n h ∙ same_after waves n (row_at db.rows n) (row_at other.rows n) e ∙ sym (rows_after_waves other ending waves n k)

  in_order_first : (x y : Database) → Chain x waves y → InOrder x.rows
  in_order_first x y c = (parts_of 0 x.rows x.next (first_numbered x y waves c)).order
    where
      first_numbered : (x' y' : Database) (ws : List Wave) → Chain x' ws y' → Numbered x'
      first_numbered x' y' [] d = d.0
      first_numbered x' y' (w ∷ ws) d = d.0

  in_order_last : (x y : Database) → Chain x waves y → InOrder y.rows
  in_order_last x y c = (parts_of 0 y.rows y.next (chain_ends x y waves c)).order

  there_same : filter (λ r. in_waves waves r.number) db.rows ≡ filter (λ r. in_waves waves r.number) other.rows
  there_same =
      same_passing (in_waves waves) (in_waves waves) db.rows other.rows (in_order_first db last h) (in_order_first other ending k)
      (λ n. at n (in_waves waves n) refl)
    where
      at : (n : ℕ) (b : Bool) → in_waves waves n ≡ b → (if b then row_at db.rows n else None) ≡ (if b then row_at other.rows n else None)
      at n true e = row_same n e
      at n false e = refl

  changes_same : (rows : List StoredRow)
      → map (net_change last.rows) (filter (λ r. in_waves waves r.number) rows) ≡ map (net_change ending.rows) (filter (λ r. in_waves waves r.number) rows)
  changes_same [] = refl
  changes_same (r ∷ rows) =
      elim (in_waves waves r.number) as (λ b. in_waves waves r.number ≡ b
      → map (net_change last.rows) (if b then r ∷ filter (λ x. in_waves waves x.number) rows else filter (λ x. in_waves waves x.number) rows)
      ≡ map (net_change ending.rows) (if b then r ∷ filter (λ x. in_waves waves x.number) rows else filter (λ x. in_waves waves x.number) rows)) [
        | true ↦ λ e i. change_same e i ∷ changes_same rows i
        | false ↦ λ e. changes_same rows
      ] refl
    where
      change_same : in_waves waves r.number ≡ true → net_change last.rows r ≡ net_change ending.rows r
      change_same e =
          ap (λ (o : Option StoredRow). record { table = r.table; row = r.number; old = Some r.values; new = elim o [ Some x ↦ Some x.values | None ↦ None ] })
          (later_same r.number e)

  new_same : filter (λ r. in_waves waves r.number && is_none (row_at db.rows r.number)) last.rows
      ≡ filter (λ r. in_waves waves r.number && is_none (row_at other.rows r.number)) ending.rows
  new_same =
      same_passing (λ n. in_waves waves n && is_none (row_at db.rows n)) (λ n. in_waves waves n && is_none (row_at other.rows n)) last.rows ending.rows
      (in_order_last db last h) (in_order_last other ending k) (λ n. at n (in_waves waves n) refl)
    where
      at : (n : ℕ) (b : Bool) → in_waves waves n ≡ b
          → (if b && is_none (row_at db.rows n) then row_at last.rows n else None) ≡ (if b && is_none (row_at other.rows n) then row_at ending.rows n else None)
      at n true e = λ i. if is_none (row_same n e i) then later_same n e i else None
      at n false e = refl

  pub net_same : net_wave db.rows last.rows waves ≡ net_wave other.rows ending.rows waves
  net_same =
      ap (λ l. wave_of (map (net_change last.rows) l ++ map net_insertion (filter (λ r. in_waves waves r.number && is_none (row_at db.rows r.number)) last.rows))) there_same
      ∙ (λ i. wave_of (changes_same other.rows i ++ map net_insertion (new_same i)))

pub net_changes_follow : (db last other ending : Database) (waves : List Wave) → Chain db waves last → Chain other waves ending
    → net_wave db.rows last.rows waves ≡ net_wave other.rows ending.rows waves
net_changes_follow db last other ending waves h k = net_same db last other ending waves h k
