-- The waves of a level fit the databases that they are applied to.
use Rattle.std.proofs.Common.{◌≡◌, refl, ℕ, zero, suc, ◌+◌, ◌<◌, ◌≤◌, false, ◌||◌, if◌then◌else◌, List, [], ◌∷◌, Option, Some, None, is_none, Ok, sym, ap, subst, ◌∙◌, arith, inl, inr}
use Rattle.std.proofs.lemmas.Bool.{ne_eqb}
use Rattle.iv_laws_levels.specs.Types.{Value, StoredRow, Change, DataStatement, Database}
use Rattle.iv_expr.specs.Changes.{Wave, wave_of, RisingChangesFrom, RisingChanges}
use Rattle.iv_expr.specs.Scopes.{Frame}
use Rattle.iv_machine.specs.Databases.{no_rows, row_at, has_change, database_after}
use Rattle.iv_machine.specs.Context.{Context}
use Rattle.iv_machine.specs.Proposals.{proposed_wave}
use Rattle.iv_machine.specs.Waves.{with_numbers, wave_as_applied, SettledWaves, settled_waves, net_wave}
use Rattle.iv_machine.specs.Levels.{Finished, Runs, level_columns, firings, nested_level, level}
use Rattle.iv_laws_levels.specs.RisingRows.{Above, InOrder}
use Rattle.iv_laws_levels.specs.Reorderings.{Distinct}
use Rattle.iv_laws_levels.specs.FittingWaves.{old_row, Current, NumbersFrom, Numbered, FitsDatabase, Chain}
use Rattle.iv_laws_levels.proofs.Chains.{not_ok}
use Rattle.iv_laws_levels.proofs.Settling.{every_settled}
use Rattle.iv_laws_levels.proofs.Firings.{Keeps, Steps, steps_of, all_fired_keeps}
use Rattle.iv_laws_levels.proofs.RowNumbers.{row_at_head, row_at_other}
use Rattle.iv_laws_levels.proofs.AppliedRows.{row_of}
use Rattle.iv_laws_levels.proofs.NumberedRows.{Below, below_raised, parts_of, Positive, numbered_applied}
use Rattle.iv_laws_levels.proofs.Drawn.{Drawn, nothing, passed, taken}
use Rattle.iv_laws_levels.proofs.Readying.{OfRow, Insertions, Ready, proposed_ready, followed_ready}
use Rattle.iv_laws_levels.proofs.BeforeRows.{AllAlike, applied_alike, current_alike}

-- ---- changes of rows that are there

-- each of these rows is the one of its number
abbrev pub Present : List StoredRow → List StoredRow → Type 0
Present rows [] = Unit {0}
Present rows (r ∷ some) = (row_at rows r.number ≡ Some r) × Present rows some

present_more : (r : StoredRow) (rows some : List StoredRow) → Above r.number some → Present rows some → Present (r ∷ rows) some
present_more r rows [] a h = tt
present_more r rows (s ∷ some) a h = (row_at_other r rows s.number (ne_eqb r.number s.number (λ e. absurd (omega (arith, e, a.0)))) ∙ h.0, present_more r rows some a.1 h.1)

pub present_itself : (rows : List StoredRow) → InOrder rows → Present rows rows
present_itself [] h = tt
present_itself (r ∷ rows) h = (row_at_head r rows, present_more r rows rows h.0 (present_itself rows h.1))

old_of_row : (r : StoredRow) (c : Change) → OfRow r c → old_row c ≡ Some r
old_of_row r c h = ap (row_of c) h.old ∙ (λ i. Some (record { table = h.table i; number = h.number i; values = r.values }))

current_drawn : (rows some : List StoredRow) (wave : List Change) → Present rows some → Drawn OfRow some wave → Current rows wave
current_drawn rows some wave h nothing = tt
current_drawn rows some wave h (passed {xs = more} r d) = current_drawn rows more wave h.1 d
current_drawn rows some wave h (taken {xs = more} {ys = others} r c is d) = (ap (row_at rows) is.number ∙ h.0 ∙ sym (old_of_row r c is), current_drawn rows more others h.1 d)

-- ---- rising numbers

rising_drawn : (low : ℕ) (rows : List StoredRow) (changes : List Change) → Above low rows → InOrder rows → Drawn OfRow rows changes → RisingChangesFrom low changes
rising_drawn low rows changes a h nothing = tt
rising_drawn low rows changes a h (passed {xs = more} r d) = rising_drawn low more changes a.1 h.1 d
rising_drawn low rows changes a h (taken {xs = more} {ys = others} r c is d) =
    (omega (arith, is.number, a.0), rising_drawn c.row more others (subst (λ n. Above n more) (sym is.number) h.0) h.1 d)

pub absent_rising : (n low : ℕ) (changes : List Change) → n ≤ low → RisingChangesFrom low changes → has_change changes n ≡ false
absent_rising n low [] le h = refl
absent_rising n low (c ∷ changes) le h =
    ap (λ b. b || has_change changes n) (ne_eqb c.row n (λ e. absurd (omega (arith, e, h.0, le))))
    ∙ absent_rising n c.row changes (omega (arith, h.0, le)) h.1

distinct_from : (low : ℕ) (changes : List Change) → RisingChangesFrom low changes → Distinct changes
distinct_from low [] h = tt
distinct_from low (c ∷ changes) h = (absent_rising c.row c.row changes (omega arith) h.1, distinct_from c.row changes h.1)

-- rising numbers are of different rows
pub rising_distinct : (changes : List Change) → RisingChanges changes → Distinct changes
rising_distinct changes h = distinct_from 0 changes h

positive_from : (low : ℕ) (changes : List Change) → RisingChangesFrom low changes → Positive changes
positive_from low [] h = tt
positive_from low (c ∷ changes) h = (omega (arith, h.0), positive_from c.row changes h.1)

-- rising numbers are above 0
pub rising_positive : (changes : List Change) → RisingChanges changes → Positive changes
rising_positive changes h = positive_from 0 changes h

pub numbered_drawn : (next : ℕ) (rows : List StoredRow) (changes : List Change) → Drawn OfRow rows changes → with_numbers next changes ≡ changes
numbered_drawn next rows changes nothing = refl
numbered_drawn next rows changes (passed {xs = more} r d) = numbered_drawn next more changes d
numbered_drawn next rows changes (taken {xs = more} {ys = others} r c is d) =
    ap (λ o. if is_none o then record c { row = next } ∷ with_numbers (next + 1) others else c ∷ with_numbers next others) is.old
    ∙ ap (λ l. c ∷ l) (numbered_drawn next more others d)

no_new_drawn : (next : ℕ) (rows : List StoredRow) (changes : List Change) → Drawn OfRow rows changes → NumbersFrom next changes
no_new_drawn next rows changes nothing = tt
no_new_drawn next rows changes (passed {xs = more} r d) = no_new_drawn next more changes d
no_new_drawn next rows changes (taken {xs = more} {ys = others} r c is d) = ((λ none. absurd (not_there r.values (sym is.old ∙ none))), no_new_drawn next more others d)
  where
    not_there : (values : List Value) → ◌≡◌ {A = Option (List Value)} (Some values) None → ⊥
    not_there values e = cc

-- ---- insertions

numbered_new : (next : ℕ) (c : Change) (changes : List Change) → c.old ≡ None → with_numbers next (c ∷ changes) ≡ record c { row = next } ∷ with_numbers (next + 1) changes
numbered_new next c changes e = ap (λ o. if is_none o then record c { row = next } ∷ with_numbers (next + 1) changes else c ∷ with_numbers next changes) e

rising_numbered : (low next : ℕ) (changes : List Change) → low < next → Insertions changes → RisingChangesFrom low (with_numbers next changes)
rising_numbered low next [] less h = tt
rising_numbered low next (c ∷ changes) less h =
    subst (RisingChangesFrom low) (sym (numbered_new next c changes h.0)) (less, rising_numbered next (next + 1) changes (omega arith) h.1)

row_at_below : (n next : ℕ) (rows : List StoredRow) → next ≤ n → Below next rows → row_at rows n ≡ None
row_at_below n next [] le b = refl
row_at_below n next (r ∷ rows) le b = row_at_other r rows n (ne_eqb r.number n (λ e. absurd (omega (arith, e, b.0, le)))) ∙ row_at_below n next rows le b.1

current_numbered : (rows : List StoredRow) (next : ℕ) (changes : List Change) → Below next rows → Insertions changes → Current rows (with_numbers next changes)
current_numbered rows next [] b h = tt
current_numbered rows next (c ∷ changes) b h =
    subst (Current rows) (sym (numbered_new next c changes h.0)) (
      row_at_below next next rows (omega arith) b ∙ sym (ap (row_of (record c { row = next })) h.0),
      current_numbered rows (next + 1) changes (below_raised next (next + 1) rows (omega arith) b) h.1,
    )

new_numbered : (start next : ℕ) (changes : List Change) → start ≤ next → Insertions changes → NumbersFrom start (with_numbers next changes)
new_numbered start next [] le h = tt
new_numbered start next (c ∷ changes) le h =
    subst (NumbersFrom start) (sym (numbered_new next c changes h.0)) ((λ none. le), new_numbered start (next + 1) changes (omega (arith, le)) h.1)

-- ---- a wave as it is applied

pub drawn_fits : (db : Database) (changes : List Change) → Numbered db → Drawn OfRow db.rows changes → FitsDatabase db (wave_of changes)
drawn_fits db changes h d =
    let parts = parts_of 0 db.rows db.next h in
    record {
      rising = rising_drawn 0 db.rows changes parts.above parts.order d;
      current = current_drawn db.rows db.rows changes (present_itself db.rows parts.order) d;
      new = no_new_drawn db.next db.rows changes d;
    }

numbered_fits : (db : Database) (changes : List Change) → Numbered db → Ready db.rows changes → FitsDatabase db (wave_of (with_numbers db.next changes))
numbered_fits db changes h (inl d) = subst (λ l. FitsDatabase db (wave_of l)) (sym (numbered_drawn db.next db.rows changes d)) (drawn_fits db changes h d)
numbered_fits db changes h (inr i) =
    let parts = parts_of 0 db.rows db.next h in
    record {
      rising = rising_numbered 0 db.next changes parts.next_above i;
      current = current_numbered db.rows db.next changes parts.below i;
      new = new_numbered db.next db.next changes (omega arith) i;
    }

rising_alike : (low : ℕ) (changes other : List Change) → AllAlike changes other → RisingChangesFrom low changes → RisingChangesFrom low other
rising_alike low [] [] h p = tt
rising_alike low [] (d ∷ other) h p = absurd h
rising_alike low (c ∷ changes) [] h p = absurd h
rising_alike low (c ∷ changes) (d ∷ other) h p =
    (omega (arith, h.0.row, p.0), rising_alike d.row changes other h.1 (subst (λ n. RisingChangesFrom n changes) h.0.row p.1))

new_alike : (next : ℕ) (changes other : List Change) → AllAlike changes other → NumbersFrom next changes → NumbersFrom next other
new_alike next [] [] h p = tt
new_alike next [] (d ∷ other) h p = absurd h
new_alike next (c ∷ changes) [] h p = absurd h
new_alike next (c ∷ changes) (d ∷ other) h p =
    ((λ none. subst (λ n. next ≤ n) h.0.row (p.0 (h.0.old ∙ none))), new_alike next changes other h.1 p.1)

-- a wave that fits a database, except for its new values, fits it
pub alike_fits : (db : Database) (wave other : Wave) → AllAlike wave.changes other.changes → FitsDatabase db wave → FitsDatabase db other
alike_fits db wave other h fits = record {
  rising = rising_alike 0 wave.changes other.changes h fits.rising;
  current = current_alike db.rows wave.changes other.changes h fits.current;
  new = new_alike db.next wave.changes other.changes h fits.new;
}

pub applied_fits : (w : Context) (db : Database) (budget : ℕ) (wave out : Wave) → Numbered db → Ready db.rows wave.changes
    → wave_as_applied w db budget wave ≡ Ok out → FitsDatabase db out
applied_fits w db budget wave out h ready e =
    alike_fits db (wave_of (with_numbers db.next wave.changes)) out (applied_alike w db budget wave out e) (numbered_fits db wave.changes h ready)

-- ---- the waves

pub settled_fits : (w : Context) (db : Database) (budget : ℕ) (wave : Wave) (s : SettledWaves)
    → settled_waves w db budget wave ≡ Ok s → Numbered db → Ready db.rows wave.changes → Chain db s.waves s.last
settled_fits w db budget wave s e =
    every_settled w (λ db' budget' wave' s'. Numbered db' → Ready db'.rows wave'.changes → Chain db' s'.waves s'.last)
    (λ db' budget' wave' none h ready. (h, refl))
    (λ db' budget' wave' one others is_applied is_followed more h ready.
    let fits = applied_fits w db' budget' wave' one.wave h ready is_applied in (
      h,
      fits,
      more (numbered_applied db' one.wave.changes h (rising_positive one.wave.changes fits.rising))
          (followed_ready w db' (database_after db' one.wave) one.next is_followed),
    ))
    db budget wave s e

pub waves_are_a_chain : (w : Context) (d : DataStatement) (f : Frame) (db : Database) (budget : ℕ) (wave : Wave) (s : SettledWaves)
    → Numbered db → proposed_wave w db f d ≡ Ok wave → settled_waves w db budget wave ≡ Ok s → Chain db s.waves s.last
waves_are_a_chain w d f db budget wave s h is_proposed e = settled_fits w db budget wave s e h (proposed_ready w db f d wave is_proposed)

pub chain_ends : (db last : Database) (waves : List Wave) → Chain db waves last → Numbered last
chain_ends db last [] h = subst Numbered h.1 h.0
chain_ends db last (wave ∷ waves) h = chain_ends (database_after db wave) last waves h.2

-- ---- levels

steps_number : (run : Runs) (w : Context) (d : DataStatement) (f : Frame) (db : Database) (budget : ℕ) (done : Finished)
    → Keeps (λ x _. Numbered x) run → Numbered db → Steps run w d f db budget done → Numbered done.database
steps_number run w d f db budget done keeps h s =
    let last = chain_ends db s.waves.last s.waves.waves (waves_are_a_chain w d f db budget s.wave s.waves h s.is_proposed s.is_settled) in
    let kept = all_fired_keeps (λ x _. Numbered x) run keeps
    (firings w d (level_columns d s.waves.waves) (net_wave db.rows s.waves.last.rows s.waves.waves)) (record { database = s.waves.last; budget = s.waves.rest }) s.progress s.is_fired last in
    subst (λ x. Numbered x.database) s.is_done kept

pub nested_numbers : (depth : ℕ) (w : Context) (trigger : ℕ) (d : DataStatement) (f : Frame) (db : Database) (budget : ℕ) (done : Finished)
    → Numbered db → nested_level depth w trigger d f db budget ≡ Ok done → Numbered done.database
nested_numbers zero w trigger d f db budget done h e = absurd (not_ok _ done e)
nested_numbers (suc depth) w trigger d f db zero done h e = absurd (not_ok _ done e)
nested_numbers (suc depth) w trigger d f db (suc budget) done h e =
    steps_number (nested_level depth w) w d f db budget done
    (λ trigger' d' f' db' budget' done' e' h'. nested_numbers depth w trigger' d' f' db' budget' done' h' e') h
    (steps_of (nested_level depth w) w d f db budget done e)

pub level_numbers : (deeper : ℕ) (w : Context) (d : DataStatement) (f : Frame) (db : Database) (budget : ℕ) (done : Finished)
    → Numbered db → level deeper w d f db budget ≡ Ok done → Numbered done.database
level_numbers deeper w d f db budget done h e = nested_numbers (suc deeper) w 0 d f db budget done h e

pub no_rows_numbered : Numbered no_rows
no_rows_numbered = omega arith
