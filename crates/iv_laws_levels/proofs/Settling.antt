-- What an accepted wave and an accepted settling of waves say of their steps.
use Rattle.std.proofs.Common.{◌≡◌, refl, ℕ, zero, suc, ◌+◌, ◌-◌, ◌≤◌, Bool, true, false, if◌then◌else◌, List, [], ◌∷◌, length, filter, Ok, is_none, Result, sym, ap, subst, ◌∙◌, arith}
use Rattle.std.specs.Bool.{nat_lt}
use Rattle.iv_laws_levels.specs.Types.{StoredRow, Change, Database}
use Rattle.iv_laws_levels.specs.Types.cause.{TooManyChanges, TransactionTooLarge, Limit}
use Rattle.iv_expr.specs.Changes.{Wave}
use Rattle.iv_expr.specs.Evaluation.{and_then}
use Rattle.iv_catalogue.specs.declared.plan.Trigger.{Trigger}
use Rattle.iv_machine.specs.Bounds.{most_changes_in_a_transaction}
use Rattle.iv_machine.specs.Databases.{size, database_after}
use Rattle.iv_machine.specs.Context.{Context, Failure, fails, with_count, each}
use Rattle.iv_machine.specs.BeforeTriggers.{is_before_row_on, change_after_trigger, changes_after_triggers, wave_after_triggers}
use Rattle.iv_machine.specs.ReferentialActions.{following_wave}
use Rattle.iv_machine.specs.Waves.{with_numbers, numbered_wave, is_beyond_last_row, wave_as_applied, AppliedWave, one_wave, is_empty, SettledWaves, Settles, none_settled, settled_within, settled_waves}
use Rattle.iv_laws_levels.proofs.Chains.{not_ok, ok_same, step_of, ok_with_count, length_each}

length_after_triggers : (w : Context) (rows : List StoredRow) (ts : List Trigger) (changes out : List Change)
    → changes_after_triggers w rows ts changes ≡ Ok out → length out ≡ length changes
length_after_triggers w rows [] changes out e = ap length (sym (ok_same changes out e))
length_after_triggers w rows (t ∷ ts) changes out e =
    let one = step_of (each (change_after_trigger w rows t) changes) _ out e in
    length_after_triggers w rows ts one.0 out one.2 ∙ length_each (change_after_trigger w rows t) changes one.0 one.1

length_numbered : (next : ℕ) (changes : List Change) → length (with_numbers next changes) ≡ length changes
length_numbered next [] = refl
length_numbered next (c ∷ changes) =
    elim (is_none c.old) as (λ b. length (if b then record c { row = next } ∷ with_numbers (next + 1) changes else c ∷ with_numbers next changes) ≡ suc (length changes)) [
      | true ↦ ap suc (length_numbered (next + 1) changes)
      | false ↦ ap suc (length_numbered next changes)
    ]

-- a wave that is applied fits in the budget, and is what the BEFORE row triggers made of the wave with row numbers
pub record Applied (w : Context) (db : Database) (budget : ℕ) (wave out : Wave) : Type 0 where
  pub fits : size wave ≤ budget
  pub after_triggers : changes_after_triggers w db.rows (filter (is_before_row_on wave.columns) w.schema.triggers) (with_numbers db.next wave.changes) ≡ Ok out.changes

applied_from : (w : Context) (db : Database) (budget : ℕ) (wave out : Wave) → size wave ≤ budget
    → with_count db (wave_after_triggers w db.rows (numbered_wave db.next wave)) ≡ Ok out → Applied w db budget wave out
applied_from w db budget wave out fits e =
    let made = step_of (changes_after_triggers w db.rows (filter (is_before_row_on wave.columns) w.schema.triggers) (with_numbers db.next wave.changes)) _ out
    (ok_with_count db _ out e) in
    record { fits = fits; after_triggers = made.1 ∙ ap Ok (ap (λ x. x.changes) (ok_same (record wave { changes = made.0 }) out made.2)) }

pub applied_is : (w : Context) (db : Database) (budget : ℕ) (wave out : Wave) → wave_as_applied w db budget wave ≡ Ok out → Applied w db budget wave out
applied_is w db budget wave out e = small (nat_lt budget (size wave)) refl e
  where
    last : (b : Bool) → (if b then fails db Limit else with_count db (wave_after_triggers w db.rows (numbered_wave db.next wave))) ≡ Ok out
        → with_count db (wave_after_triggers w db.rows (numbered_wave db.next wave)) ≡ Ok out
    last true h = absurd (not_ok _ out h)
    last false h = h

    large : (a b : Bool)
        → (if a then fails db TransactionTooLarge else (if b then fails db Limit else with_count db (wave_after_triggers w db.rows (numbered_wave db.next wave)))) ≡ Ok out
        → with_count db (wave_after_triggers w db.rows (numbered_wave db.next wave)) ≡ Ok out
    large true b h = absurd (not_ok _ out h)
    large false b h = last b h

    small : (t : Bool) → nat_lt budget (size wave) ≡ t
        → (if t then fails db TooManyChanges
        else (if nat_lt most_changes_in_a_transaction (db.count + size wave) then fails db TransactionTooLarge
        else (if is_beyond_last_row (with_numbers db.next wave.changes) then fails db Limit
        else with_count db (wave_after_triggers w db.rows (numbered_wave db.next wave))))) ≡ Ok out → Applied w db budget wave out
    small true f h = absurd (not_ok _ out h)
    small false f h =
        applied_from w db budget wave out (grind (arith, f))
        (large (nat_lt most_changes_in_a_transaction (db.count + size wave)) (is_beyond_last_row (with_numbers db.next wave.changes)) h)

-- a wave keeps its size as it is applied
pub size_applied : (w : Context) (db : Database) (budget : ℕ) (wave out : Wave) → Applied w db budget wave out → size out ≡ size wave
size_applied w db budget wave out h =
    length_after_triggers w db.rows _ (with_numbers db.next wave.changes) out.changes h.after_triggers ∙ length_numbered db.next wave.changes

-- ---- accepted waves

-- one wave was applied, and the rest was settled
pub record Settling (rest : Settles) (w : Context) (db : Database) (budget : ℕ) (wave : Wave) (s : SettledWaves) : Type 0 where
  pub one : AppliedWave
  pub others : SettledWaves
  pub is_applied : wave_as_applied w db budget wave ≡ Ok one.wave
  pub is_followed : following_wave w db (database_after db one.wave) ≡ Ok one.next
  pub is_settled : rest (database_after db one.wave) (budget - size one.wave) one.next ≡ Ok others
  pub is_done : record others { waves = one.wave ∷ others.waves } ≡ s

abbrev pub then_settled : Settles → Database → ℕ → AppliedWave → Result SettledWaves Failure
then_settled rest db budget one =
    and_then (rest (database_after db one.wave) (budget - size one.wave) one.next) (λ s. Ok (record s { waves = one.wave ∷ s.waves }))

abbrev pub nothing_settled : Database → ℕ → Result SettledWaves Failure
nothing_settled db budget = Ok (record { last = db; waves = []; rest = budget })

abbrev pub then_next : Context → Database → Wave → Result AppliedWave Failure
then_next w db applied = and_then (following_wave w db (database_after db applied)) (λ next. Ok (record { wave = applied; next = next }))

-- of one wave: what was applied, and what followed
pub applied_of_one : (w : Context) (db : Database) (budget : ℕ) (wave : Wave) (one : AppliedWave)
    → one_wave w db budget wave ≡ Ok one → wave_as_applied w db budget wave ≡ Ok one.wave
applied_of_one w db budget wave one e =
    let applied = step_of (wave_as_applied w db budget wave) (then_next w db) one e in
    let followed = step_of (following_wave w db (database_after db applied.0)) (λ next. Ok (record { wave = applied.0; next = next })) one applied.2 in
    applied.1 ∙ ap Ok (ap (λ x. x.wave) (ok_same (record { wave = applied.0; next = followed.0 }) one followed.2))

pub followed_of_one : (w : Context) (db : Database) (budget : ℕ) (wave : Wave) (one : AppliedWave)
    → one_wave w db budget wave ≡ Ok one → following_wave w db (database_after db one.wave) ≡ Ok one.next
followed_of_one w db budget wave one e =
    let applied = step_of (wave_as_applied w db budget wave) (then_next w db) one e in
    let followed = step_of (following_wave w db (database_after db applied.0)) (λ next. Ok (record { wave = applied.0; next = next })) one applied.2 in
    let same : record { wave = applied.0; next = followed.0 } ≡ one = ok_same (record { wave = applied.0; next = followed.0 }) one followed.2 in
    (λ i. following_wave w db (database_after db ((sym same i).wave))) ∙ followed.1 ∙ (λ i. Ok ((same i).next))

settling_from : (rest : Settles) (w : Context) (db : Database) (budget : ℕ) (wave : Wave) (s : SettledWaves)
    → and_then (one_wave w db budget wave) (then_settled rest db budget) ≡ Ok s → Settling rest w db budget wave s
settling_from rest w db budget wave s e =
    let made = step_of (one_wave w db budget wave) (then_settled rest db budget) s e in
    let settled = step_of (rest (database_after db made.0.wave) (budget - size made.0.wave) made.0.next) (λ x. Ok (record x { waves = made.0.wave ∷ x.waves })) s made.2 in
    record {
      one = made.0;
      others = settled.0;
      is_applied = applied_of_one w db budget wave made.0 made.1;
      is_followed = followed_of_one w db budget wave made.0 made.1;
      is_settled = settled.1;
      is_done = ok_same (record settled.0 { waves = made.0.wave ∷ settled.0.waves }) s settled.2;
    }

pub no_changes : (changes : List Change) → is_empty changes ≡ true → changes ≡ []
no_changes [] e = refl
no_changes (c ∷ changes) e = cc

-- What an empty wave has, and one wave gives to what follows, every accepted settling has.
module _ (w : Context) (P : Database → ℕ → Wave → SettledWaves → Type 0)
    (ended : (db : Database) (budget : ℕ) (wave : Wave) → wave.changes ≡ [] → P db budget wave (record { last = db; waves = []; rest = budget }))
    (went : (db : Database) (budget : ℕ) (wave : Wave) (one : AppliedWave) (others : SettledWaves)
    → wave_as_applied w db budget wave ≡ Ok one.wave → following_wave w db (database_after db one.wave) ≡ Ok one.next
    → P (database_after db one.wave) (budget - size one.wave) one.next others
    → P db budget wave (record others { waves = one.wave ∷ others.waves })) where
  by_rest : (rest : Settles) (db : Database) (budget : ℕ) (wave : Wave) (s : SettledWaves) (empty : Bool) → is_empty wave.changes ≡ empty
      → ((db' : Database) (budget' : ℕ) (wave' : Wave) (s' : SettledWaves) → rest db' budget' wave' ≡ Ok s' → P db' budget' wave' s')
      → (if empty then nothing_settled db budget else and_then (one_wave w db budget wave) (then_settled rest db budget)) ≡ Ok s → P db budget wave s
  by_rest rest db budget wave s true is others e =
      subst (P db budget wave) (ok_same (record { last = db; waves = []; rest = budget }) s e) (ended db budget wave (no_changes wave.changes is))
  by_rest rest db budget wave s false is others e =
      let steps = settling_from rest w db budget wave s e in
      subst (P db budget wave) steps.is_done
      (went db budget wave steps.one steps.others steps.is_applied steps.is_followed
      (others (database_after db steps.one.wave) (budget - size steps.one.wave) steps.one.next steps.others steps.is_settled))

  pub every_settled_within : (most : ℕ) (db : Database) (budget : ℕ) (wave : Wave) (s : SettledWaves)
      → settled_within most w db budget wave ≡ Ok s → P db budget wave s
  every_settled_within zero db budget wave s e =
      by_rest none_settled db budget wave s (is_empty wave.changes) refl (λ db' budget' wave' s' f. absurd (not_ok _ s' f)) e
  every_settled_within (suc most) db budget wave s e =
      by_rest (settled_within most w) db budget wave s (is_empty wave.changes) refl (every_settled_within most) e

  pub every_settled : (db : Database) (budget : ℕ) (wave : Wave) (s : SettledWaves) → settled_waves w db budget wave ≡ Ok s → P db budget wave s
  every_settled db budget wave s e = every_settled_within budget db budget wave s e
