-- A wave that is entered: it is tested, numbered, and goes through its BEFORE row triggers.
use Rattle.std.proofs.Common.{◌≡◌, refl, ℕ, ◌+◌, ◌≤◌, Bool, true, false, ◌||◌, if◌then◌else◌, List, [], ◌∷◌, ◌++◌, length, take, drop, Result, Ok, Err, sym, ap, subst, ◌∙◌, arith}
use Rattle.std.specs.Bool.{nat_lt}
use Rattle.std.proofs.lemmas.Bool.Decides.{nat_tests}
use Rattle.std.proofs.lemmas.List.{drop_all, take_all, append-nil}
use Rattle.iv_expr.specs.declared.row.Change.{Change}
use Rattle.iv_expr.specs.Changes.{Wave}
use Rattle.iv_expr.specs.Evaluation.{and_then}
use Rattle.iv_catalogue.specs.declared.cause.Cause.TheVariants.{TooManyChanges, TransactionTooLarge, Limit}
use Rattle.iv_catalogue.specs.declared.cause.Refusal.{Refusal}
use Rattle.iv_catalogue.specs.Refusals.{is_memory_cause}
use Rattle.iv_machine.specs.declared.database.Database.{Database}
use Rattle.iv_machine.specs.Bounds.{last_row_number, most_changes_in_a_transaction}
use Rattle.iv_machine.specs.Databases.{size}
use Rattle.iv_machine.specs.Context.{Context, Failure, fails, with_count}
use Rattle.iv_machine.specs.BeforeTriggers.{wave_after_triggers}
use Rattle.iv_machine.specs.Waves.{with_numbers, numbered_wave, is_beyond_last_row, wave_as_applied}
use Rattle.iv_store.specs.Stores.{StoreState}
use Rattle.iv_laws_levels.proofs.Chains.{not_ok}
use Rattle.iv_laws_levels.proofs.Settling.{applied_is, size_applied}
use Rattle.iv_laws_levels.proofs.BeforeRows.{AllAlike, applied_alike}
use Rattle.iv_laws_levels.proofs.FittingWaves.{applied_fits}
use Rattle.iv_exec_context.specs.Answering.{AnswersRefusal}
use Rattle.iv_exec_context.proofs.Answers.{unless_memory}
use Rattle.iv_laws_rows.specs.RowFits.{changes_fit}
use Rattle.iv_laws_rows.specs.Changing.{AnswersAt}
use Rattle.iv_exec_waves.specs.Applying.{Applicable}
use Rattle.iv_exec_waves.specs.Progress.{Progress}
use Rattle.iv_exec_waves.proofs.Applied.{least}
use Rattle.iv_exec_waves.proofs.Rows.{applied_wave_fits}

not_below : (a b : ℕ) → b ≤ a → nat_lt a b ≡ false
not_below a b h = grind (arith, nat_tests)

-- what is left of a wave as it is applied, once it is small enough
abbrev last_test : Context → Database → Wave → Bool → Result Wave Failure
last_test w db wave beyond = if beyond then fails db Limit else with_count db (wave_after_triggers w db.rows (numbered_wave db.next wave))

abbrev second_test : Context → Database → Wave → Bool → Result Wave Failure
second_test w db wave large = if large then fails db TransactionTooLarge else last_test w db wave (is_beyond_last_row (numbered_wave db.next wave).changes)

-- a wave that passes the tests is what its BEFORE row triggers make of it
pub tested : (w : Context) (db : Database) (budget : ℕ) (wave : Wave) → size wave ≤ budget → db.count + size wave ≤ most_changes_in_a_transaction
    → is_beyond_last_row (numbered_wave db.next wave).changes ≡ false
    → wave_as_applied w db budget wave ≡ with_count db (wave_after_triggers w db.rows (numbered_wave db.next wave))
tested w db budget wave fits room small =
    ap (λ b. if b then fails db TooManyChanges else second_test w db wave (nat_lt most_changes_in_a_transaction (db.count + size wave))) (not_below budget (size wave) fits)
    ∙ ap (second_test w db wave) (not_below most_changes_in_a_transaction (db.count + size wave) room)
    ∙ ap (last_test w db wave) small

-- one that takes more than the budget has, more than the transaction has room for, or a number that no row may have
pub too_many : (w : Context) (db : Database) (budget : ℕ) (wave : Wave) → nat_lt budget (size wave) ≡ true → wave_as_applied w db budget wave ≡ fails db TooManyChanges
too_many w db budget wave e = ap (λ b. if b then fails db TooManyChanges else second_test w db wave (nat_lt most_changes_in_a_transaction (db.count + size wave))) e

pub too_large : (w : Context) (db : Database) (budget : ℕ) (wave : Wave) → size wave ≤ budget → nat_lt most_changes_in_a_transaction (db.count + size wave) ≡ true
    → wave_as_applied w db budget wave ≡ fails db TransactionTooLarge
too_large w db budget wave fits e =
    ap (λ b. if b then fails db TooManyChanges else second_test w db wave (nat_lt most_changes_in_a_transaction (db.count + size wave))) (not_below budget (size wave) fits)
    ∙ ap (second_test w db wave) e

pub too_far : (w : Context) (db : Database) (budget : ℕ) (wave : Wave) → size wave ≤ budget → db.count + size wave ≤ most_changes_in_a_transaction
    → is_beyond_last_row (numbered_wave db.next wave).changes ≡ true
    → wave_as_applied w db budget wave ≡ fails db Limit
too_far w db budget wave fits room e =
    ap (λ b. if b then fails db TooManyChanges else second_test w db wave (nat_lt most_changes_in_a_transaction (db.count + size wave))) (not_below budget (size wave) fits)
    ∙ ap (second_test w db wave) (not_below most_changes_in_a_transaction (db.count + size wave) room)
    ∙ ap (last_test w db wave) e

-- what is answered over rows is answered with the count of row changes
pub counted : {A : Type 0} (db : Database) (wave : Wave) (view : A → List Change) (r : Result A Refusal) (said : Result (List Change) Refusal)
    → AnswersRefusal view r said → AnswersAt (λ a. record wave { changes = view a }) db.count r (with_count db (and_then said (λ changes. Ok (record wave { changes = changes }))))
counted db wave view (Ok a) said h = ap (λ s. with_count db (and_then s (λ changes. Ok (record wave { changes = changes })))) h
counted db wave view (Err r) said h =
    unless_memory (is_memory_cause r.cause) (said ≡ Err r)
    (with_count db (and_then said (λ changes. Ok (record wave { changes = changes }))) ≡ Err (record { cause = r.cause; trigger = r.trigger; count = db.count }))
    (λ e. ap (λ s. with_count db (and_then s (λ changes. Ok (record wave { changes = changes })))) e) h

-- ---- what an entered wave is like

beyond_alike : (changes other : List Change) → AllAlike changes other → is_beyond_last_row changes ≡ is_beyond_last_row other
beyond_alike [] [] h = refl
beyond_alike [] (d ∷ other) h = absurd h
beyond_alike (c ∷ changes) [] h = absurd h
beyond_alike (c ∷ changes) (d ∷ other) h = λ i. nat_lt last_row_number (h.0.row i) || beyond_alike changes other h.1 i

-- an entered wave passed the tests
record Passed (db : Database) (wave : Wave) : Type 0 where
  pub room : db.count + size wave ≤ most_changes_in_a_transaction
  pub small : is_beyond_last_row (with_numbers db.next wave.changes) ≡ false

passed : (w : Context) (db : Database) (budget : ℕ) (wave out : Wave) → wave_as_applied w db budget wave ≡ Ok out → Passed db wave
passed w db budget wave out e = by_budget (nat_lt budget (size wave)) e
  where
    by_limits : (large beyond : Bool) → nat_lt most_changes_in_a_transaction (db.count + size wave) ≡ large → is_beyond_last_row (with_numbers db.next wave.changes) ≡ beyond
        → (if large then fails db TransactionTooLarge else (if beyond then fails db Limit else with_count db (wave_after_triggers w db.rows (numbered_wave db.next wave)))) ≡ Ok out
        → Passed db wave
    by_limits true beyond p q h = absurd (not_ok _ out h)
    by_limits false true p q h = absurd (not_ok _ out h)
    by_limits false false p q h = record { room = least most_changes_in_a_transaction (db.count + size wave) p; small = q }

    by_budget : (b : Bool)
        → (if b then fails db TooManyChanges
        else (if nat_lt most_changes_in_a_transaction (db.count + size wave) then fails db TransactionTooLarge
        else (if is_beyond_last_row (with_numbers db.next wave.changes) then fails db Limit
        else with_count db (wave_after_triggers w db.rows (numbered_wave db.next wave))))) ≡ Ok out → Passed db wave
    by_budget true h = absurd (not_ok _ out h)
    by_budget false h =
        by_limits (nat_lt most_changes_in_a_transaction (db.count + size wave)) (is_beyond_last_row (with_numbers db.next wave.changes)) refl refl h

-- An entered wave can be applied, and is no longer than the budget.
pub record Enters (s : StoreState) (budget : ℕ) (wave out : Wave) : Type 0 where
  pub applicable : Applicable s.tables s.base out.changes
  pub fits : size out ≤ budget
  pub same : size out ≡ size wave

pub enters : (w : Context) (s : StoreState) (budget : ℕ) (wave out : Wave) → Progress w s wave.changes
    → wave_as_applied w s.base budget wave ≡ Ok out → Enters s budget wave out
enters w s budget wave out h e =
    let is = applied_is w s.base budget wave out e in
    let long = size_applied w s.base budget wave out is in
    let fits = applied_fits w s.base budget wave out h.numbered h.ready e in
    let limits = passed w s.base budget wave out e in
    record {
      applicable = record {
        numbered = h.numbered;
        rising = fits.rising;
        current = fits.current;
        small = sym (beyond_alike (with_numbers s.base.next wave.changes) out.changes (applied_alike w s.base budget wave out e)) ∙ limits.small;
        room = omega (arith, limits.room, long);
        fit = subst (λ tables. changes_fit tables out.changes ≡ true) (sym h.fits.tables) (applied_wave_fits w s budget wave out h e);
      };
      fits = omega (arith, is.fits, long);
      same = long;
    }

-- a slice that was changed in its place
pub written : (new old : List Change) (len : ℕ) → length new ≡ length old → len ≡ length old → take len (new ++ drop (length new) old) ≡ new
written new old len same long =
    ap (λ l. take len (new ++ l)) (drop_all (length new) old (omega (arith, same))) ∙ ap (take len) (append-nil new) ∙ take_all len new (omega (arith, same, long))
