-- The changes of a wave as it is applied may be made one after another.
use Rattle.std.proofs.Common.{◌≡◌, ℕ, ◌+◌, ◌≤◌, nat_lt, Bool, true, false, ◌||◌, if◌then◌else◌, List, [], ◌∷◌, ◌∙◌, Option, Some, None, IfSome, Ok, refl, sym, ap, subst, length, arith}
use Rattle.std.proofs.lemmas.Bool.{ne_eqb, and_parts, or_parts}
use Rattle.std.proofs.lemmas.Bool.Decides.{nat_tests}
use Rattle.iv_laws_rows.specs.Types.{Value, StoredRow, Change, Table, Database}
use Rattle.iv_laws_rows.specs.Types.cause.{TooManyChanges, TransactionTooLarge, Limit}
use Rattle.iv_expr.specs.Changes.{Wave, RisingChangesFrom}
use Rattle.iv_machine.specs.Bounds.{most_changes_in_a_transaction, last_row_number}
use Rattle.iv_machine.specs.Databases.{row_at, has_change, size}
use Rattle.iv_machine.specs.Context.{Context, fails, with_count}
use Rattle.iv_machine.specs.BeforeTriggers.{wave_after_triggers}
use Rattle.iv_machine.specs.Waves.{values_at, with_numbers, numbered_wave, is_beyond_last_row, wave_as_applied}
use Rattle.iv_store.specs.Stores.{fits_table}
use Rattle.iv_laws_levels.specs.FittingWaves.{Current}
use Rattle.iv_laws_levels.specs.Reorderings.{after_changes}
use Rattle.iv_laws_levels.proofs.Chains.{not_ok}
use Rattle.iv_laws_levels.proofs.AppliedRows.{row_of, news, row_at_rows_after}
use Rattle.iv_laws_levels.proofs.BeforeRows.{AllAlike, applied_alike}
use Rattle.iv_laws_levels.proofs.Settling.{applied_is, size_applied}
use Rattle.iv_laws_rows.specs.RowFits.{side_fits, change_fits, changes_fit}
use Rattle.iv_laws_rows.specs.Starting.{AllMayBeMade, ChangesMayBeMade}
use Rattle.iv_laws_rows.proofs.FittingChanges.{fitting, applied_waves_fit}

-- ---- one change

old_is_current : (rows : List StoredRow) (c : Change) (old : Option (List Value)) → row_at rows c.row ≡ row_of c old → values_at rows c.row ≡ old
old_is_current rows c None h = ap (λ (o : Option StoredRow). elim o as (λ x. Option (List Value)) [ Some r ↦ Some r.values | None ↦ None ]) h
old_is_current rows c (Some values) h = ap (λ (o : Option StoredRow). elim o as (λ x. Option (List Value)) [ Some r ↦ Some r.values | None ↦ None ]) h

old_is_own : (rows : List StoredRow) (c : Change) (old : Option (List Value)) → row_at rows c.row ≡ row_of c old → IfSome (row_at rows c.row) (λ row. row.table ≡ c.table)
old_is_own rows c None h = subst (λ (o : Option StoredRow). IfSome o (λ row. row.table ≡ c.table)) (sym h) tt
old_is_own rows c (Some values) h = subst (λ (o : Option StoredRow). IfSome o (λ row. row.table ≡ c.table)) (sym h) refl

new_fits : (tables : List Table) (table : ℕ) (new : Option (List Value)) → side_fits tables table new ≡ true → IfSome new (λ values. fits_table tables table values ≡ true)
new_fits tables table None h = tt
new_fits tables table (Some values) h = h

-- ---- one after another

-- later changes are of other rows
current_after : (db : Database) (c : Change) (low : ℕ) (changes : List Change) → c.row ≤ low → RisingChangesFrom low changes → Current db.rows changes
    → Current (after_changes db (c ∷ [])).rows changes
current_after db c low [] le h current = tt
current_after db c low (d ∷ changes) le h current =
    let other : has_change (c ∷ []) d.row ≡ false = ap (λ b. b || false) (ne_eqb c.row d.row (λ e. absurd (omega (arith, e, h.0, le)))) in (
      row_at_rows_after db.rows (c ∷ []) d.row ∙ ap (λ b. if b then row_at (news (c ∷ [])) d.row else row_at db.rows d.row) other ∙ current.0,
      current_after db c d.row changes (omega (arith, h.0, le)) h.1 current.1,
    )

all_made : (tables : List Table) (db : Database) (low : ℕ) (changes : List Change) → RisingChangesFrom low changes → Current db.rows changes → changes_fit tables changes ≡ true
    → is_beyond_last_row changes ≡ false → db.count + length changes ≤ most_changes_in_a_transaction → AllMayBeMade tables db changes
all_made tables db low [] h current fits beyond room = tt
all_made tables db low (c ∷ changes) h current fits beyond room =
    let parts = and_parts (change_fits tables c) (changes_fit tables changes) fits in
    let f = fitting tables c parts.0 in
    let last = or_parts (nat_lt last_row_number c.row) (is_beyond_last_row changes) beyond in
    let there = f.there in
    let low_row = last.0 in (
      record {
        added = grind (arith, nat_tests, there);
        current = old_is_current db.rows c c.old current.0;
        own = old_is_own db.rows c c.old current.0;
        fits = new_fits tables c.table c.new f.new;
        positive = omega (arith, h.0);
        small = grind (arith, nat_tests, low_row);
        room = omega (arith, room);
      },
      all_made tables (after_changes db (c ∷ [])) c.row changes h.1 (current_after db c c.row changes (omega arith) h.1 current.1) parts.1 last.1 (omega (arith, room)),
    )

-- ---- what an accepted wave keeps within

pub record Within (db : Database) (wave : Wave) : Type 0 where
  pub count : nat_lt most_changes_in_a_transaction (db.count + size wave) ≡ false
  pub beyond : is_beyond_last_row (with_numbers db.next wave.changes) ≡ false

within_limits : (w : Context) (db : Database) (budget : ℕ) (wave out : Wave) → wave_as_applied w db budget wave ≡ Ok out → Within db wave
within_limits w db budget wave out e =
    by (nat_lt budget (size wave)) (nat_lt most_changes_in_a_transaction (db.count + size wave)) (is_beyond_last_row (with_numbers db.next wave.changes)) refl refl e
  where
    by : (a b c : Bool) → nat_lt most_changes_in_a_transaction (db.count + size wave) ≡ b → is_beyond_last_row (with_numbers db.next wave.changes) ≡ c
        → (if a then fails db TooManyChanges else (if b then fails db TransactionTooLarge else (if c then fails db Limit
        else with_count db (wave_after_triggers w db.rows (numbered_wave db.next wave))))) ≡ Ok out → Within db wave
    by true b c f g h = absurd (not_ok _ out h)
    by false true c f g h = absurd (not_ok _ out h)
    by false false true f g h = absurd (not_ok _ out h)
    by false false false f g h = record { count = f; beyond = g }

beyond_alike : (changes other : List Change) → AllAlike changes other → is_beyond_last_row changes ≡ is_beyond_last_row other
beyond_alike [] [] h = refl
beyond_alike [] (d ∷ other) h = absurd h
beyond_alike (c ∷ changes) [] h = absurd h
beyond_alike (c ∷ changes) (d ∷ other) h = λ i. nat_lt last_row_number (h.0.row i) || beyond_alike changes other h.1 i

pub changes_may_be_made : ChangesMayBeMade
changes_may_be_made w db budget wave out start e =
    let fits = start.applied budget out e in
    let within = within_limits w db budget wave out e in
    let same = size_applied w db budget wave out (applied_is w db budget wave out e) in
    let counted = within.count in
    let low : db.count + size wave ≤ most_changes_in_a_transaction = grind (arith, nat_tests, counted) in
    all_made w.schema.tables db 0 out.changes fits.rising fits.current (applied_waves_fit w db budget wave out start.changes e)
    (sym (beyond_alike (with_numbers db.next wave.changes) out.changes (applied_alike w db budget wave out e)) ∙ within.beyond) (omega (arith, same, low))
