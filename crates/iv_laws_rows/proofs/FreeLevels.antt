-- The waves of a statement that fits are well-typed, and so are the levels that it leads to.
use Rattle.std.proofs.Common.{◌≡◌, ℕ, zero, suc, ◌+◌, ◌-◌, nat_lt, Bool, true, false, if◌then◌else◌, List, [], ◌∷◌, ◌∙◌, Some, Result, Ok, Err, refl, ap, filter}
use Rattle.iv_laws_rows.specs.Types.{Change, Cause, BodyStatement, DataStatement, Database}
use Rattle.iv_laws_rows.specs.Types.cause.{Restrict, ActionConflict, Violation, TooManyChanges, TransactionTooLarge, Limit}
use Rattle.iv_laws_rows.specs.Types.body
use Rattle.iv_expr.specs.Changes.{Wave}
use Rattle.iv_expr.specs.Evaluation.{and_then}
use Rattle.iv_expr.specs.Scopes.{Frame, scope_of}
use Rattle.iv_machine.specs.declared.database.Which.TheVariants.{Immediate}
use Rattle.iv_machine.specs.Bounds.{most_changes_in_a_transaction}
use Rattle.iv_machine.specs.Databases.{scan, is_chosen, size, database_after}
use Rattle.iv_machine.specs.Context.{Context, fails, over, with_count}
use Rattle.iv_machine.specs.Proposals.{holds, proposed_changes, proposed_wave, set_columns}
use Rattle.iv_machine.specs.BeforeTriggers.{is_before_row_on, placed_statements, before_statement, changes_after_triggers, wave_after_triggers}
use Rattle.iv_machine.specs.ReferentialActions.{lost_keys, restricted_rows, conflicts, following_wave}
use Rattle.iv_machine.specs.Waves.{with_numbers, numbered_wave, is_beyond_last_row, wave_as_applied, AppliedWave, one_wave, is_empty, Settles, none_settled, settled_by, settled_within, settled_waves, net_wave}
use Rattle.iv_machine.specs.Levels.{Firing, Progress, Runs, statement_run, body_run, firing_run, firings_run, firings, level_columns, immediate_check, level_steps, nested_level}
use Rattle.iv_laws_fitting.specs.ConstraintShapes.{SchemaSuits}
use Rattle.iv_laws_fitting.specs.PlanShapes.{trigger_suits}
use Rattle.iv_laws_fitting.proofs.Running.{Plain, proposals_are_well_typed}
use Rattle.iv_laws_levels.proofs.Chains.{ok_over}
use Rattle.iv_laws_levels.proofs.FittingWaves.{chain_ends}
use Rattle.iv_laws_levels.proofs.Members.{In, all_in, of_filter}
use Rattle.iv_laws_levels.proofs.Settling.{applied_of_one, followed_of_one, then_next, then_settled}
use Rattle.iv_laws_rows.specs.RowFits.{wave_fits, rows_fit, StatementFits}
use Rattle.iv_laws_rows.specs.WellTyped.{WavesAreWellTyped, LevelsAreWellTyped, NestedLevelsAreWellTyped}
use Rattle.iv_laws_rows.proofs.FittingChanges.{numbered_changes_fit}
use Rattle.iv_laws_rows.proofs.FittingFrames.{FiringSuits, firing_fits, all_firings_suit}
use Rattle.iv_laws_rows.proofs.FittingLevels.{KeepsWhereFits, statement_keeps, fired_keeps, IsFitting, nested_fits}
use Rattle.iv_laws_rows.proofs.FreeResults.{FreeCause, FreeFailure, then_free, in_turn_free, plain_free, counted_free, over_free, inside_free, unless_free, free_refused}
use Rattle.iv_laws_rows.proofs.FreeTriggers.{when_free, row_triggers_free, statement_triggers_free}
use Rattle.iv_laws_rows.proofs.MoreMembers.{in_at, all_by_in, enumerated_in}
use Rattle.iv_laws_rows.proofs.NetRows.{net_changes_fit}
use Rattle.iv_laws_rows.proofs.SettledRows.{proposals_start, next_waves_start, started_waves_fit}
use Rattle.iv_laws_rows.specs.Starting.{Starts}

-- ---- what is proposed

proposed_free : (w : Context) (db : Database) (f : Frame) (d : DataStatement) → rows_fit w.schema.tables db.rows ≡ true → StatementFits w.schema.tables f d
    → FreeCause (proposed_wave w db f d)
proposed_free w db f d h fits =
    then_free (λ x. x) (proposed_changes w db f d) (λ changes. Ok (record { changes = changes; columns = set_columns d })) (plain_free (proposed_changes w db f d) (by (proposed_changes w db f d) refl)) (λ changes e. tt)
  where
    by : (r : Result (List Change) Cause) → proposed_changes w db f d ≡ r → Plain r
    by (Ok changes) e = tt
    by (Err cause) e = proposals_are_well_typed w db f fits.shape d cause (fits.holds db.rows h) fits.kinds fits.suits e

-- ---- one wave

applied_free : (w : Context) (db : Database) (budget : ℕ) (wave : Wave) → SchemaSuits w.schema → rows_fit w.schema.tables db.rows ≡ true
    → wave_fits w.schema.tables wave ≡ true → FreeFailure (wave_as_applied w db budget wave)
applied_free w db budget wave s h g =
    by (nat_lt budget (size wave)) (nat_lt most_changes_in_a_transaction (db.count + size wave)) (is_beyond_last_row (numbered_wave db.next wave).changes)
  where
    here : FreeFailure (with_count db (wave_after_triggers w db.rows (numbered_wave db.next wave)))
    here =
        counted_free db (wave_after_triggers w db.rows (numbered_wave db.next wave))
        (then_free (λ x. x.cause) (changes_after_triggers w db.rows (filter (is_before_row_on wave.columns) w.schema.triggers) (with_numbers db.next wave.changes))
        (λ changes. Ok (record (numbered_wave db.next wave) { changes = changes }))
        (row_triggers_free w db.rows (filter (is_before_row_on wave.columns) w.schema.triggers) (with_numbers db.next wave.changes)
        (all_by_in (trigger_suits w.schema.tables) (filter (is_before_row_on wave.columns) w.schema.triggers)
        (λ t i. all_in (trigger_suits w.schema.tables) t w.schema.triggers s.triggers (of_filter (is_before_row_on wave.columns) t w.schema.triggers i).0))
        h (numbered_changes_fit w.schema.tables db.next wave.changes g)) (λ changes e. tt))

    by : (a b c : Bool)
        → FreeFailure (if a then fails db TooManyChanges else (if b then fails db TransactionTooLarge else (if c then fails db Limit
        else with_count db (wave_after_triggers w db.rows (numbered_wave db.next wave)))))
    by true b c = refl
    by false true c = refl
    by false false true = refl
    by false false false = here

followed_free : (w : Context) (db later : Database) → FreeFailure (following_wave w db later)
followed_free w db later =
    unless_free later Restrict (restricted_rows (lost_keys db.rows later.rows) w.schema.constraints db.rows) _ (λ f. refl)
    (unless_free later ActionConflict (conflicts w.schema (lost_keys db.rows later.rows) db.rows later.rows) _ (λ f. refl) tt)

one_free : (w : Context) (db : Database) (budget : ℕ) (wave : Wave) → SchemaSuits w.schema → rows_fit w.schema.tables db.rows ≡ true
    → wave_fits w.schema.tables wave ≡ true → FreeFailure (one_wave w db budget wave)
one_free w db budget wave s h g =
    then_free (λ x. x.cause) (wave_as_applied w db budget wave) (then_next w db) (applied_free w db budget wave s h g)
    (λ applied e.
    then_free (λ x. x.cause) (following_wave w db (database_after db applied)) (λ next. Ok (record { wave = applied; next = next }))
    (followed_free w db (database_after db applied)) (λ next f. tt))

-- ---- all waves

starts_next : (w : Context) (db : Database) (budget : ℕ) (wave : Wave) (one : AppliedWave) → SchemaSuits w.schema → Starts w db wave
    → one_wave w db budget wave ≡ Ok one → Starts w (database_after db one.wave) one.next
starts_next w db budget wave one s start e =
    next_waves_start w db budget wave one.wave one.next s start (applied_of_one w db budget wave one e) (followed_of_one w db budget wave one e)

settled_by_free : (w : Context) (rest : Settles) (db : Database) (budget : ℕ) (wave : Wave) → SchemaSuits w.schema → Starts w db wave
    → ((db' : Database) (budget' : ℕ) (wave' : Wave) → Starts w db' wave' → FreeFailure (rest db' budget' wave')) → FreeFailure (settled_by rest w db budget wave)
settled_by_free w rest db budget wave s start others = by (is_empty wave.changes)
  where
    by : (b : Bool) → FreeFailure (if b then Ok (record { last = db; waves = []; rest = budget }) else and_then (one_wave w db budget wave) (then_settled rest db budget))
    by true = tt
    by false =
        then_free (λ x. x.cause) (one_wave w db budget wave) (then_settled rest db budget) (one_free w db budget wave s start.rows start.changes)
        (λ one e.
        then_free (λ x. x.cause) (rest (database_after db one.wave) (budget - size one.wave) one.next) (λ x. Ok (record x { waves = one.wave ∷ x.waves }))
        (others (database_after db one.wave) (budget - size one.wave) one.next (starts_next w db budget wave one s start e)) (λ x f. tt))

settled_within_free : (most : ℕ) (w : Context) (db : Database) (budget : ℕ) (wave : Wave) → SchemaSuits w.schema → Starts w db wave
    → FreeFailure (settled_within most w db budget wave)
settled_within_free zero w db budget wave s start = settled_by_free w none_settled db budget wave s start (λ db' budget' wave' start'. refl)
settled_within_free (suc most) w db budget wave s start =
    settled_by_free w (settled_within most w) db budget wave s start (λ db' budget' wave' start'. settled_within_free most w db' budget' wave' s start')

pub waves_are_well_typed : WavesAreWellTyped
waves_are_well_typed w db budget wave failure s start e =
    free_refused (λ x. x.cause) (settled_waves w db budget wave) failure (settled_within_free budget w db budget wave s start) e

-- ---- the triggers that fire

-- data statements that fit are well-typed
abbrev pub RunsFree : Context → Runs → Type 0
RunsFree w run =
    (trigger : ℕ) (d : DataStatement) (f : Frame) (db : Database) (budget : ℕ)
    → StatementFits w.schema.tables f d → IsFitting w db budget → FreeFailure (run trigger d f db budget)

module _ (w : Context) (run : Runs) (keeps : KeepsWhereFits w.schema.tables (IsFitting w) run) (free : RunsFree w run) where
  abbrev Stands : Progress → Type 0
  Stands at = IsFitting w at.database at.budget

  -- of a statement of a body: that it fits, if it is a data statement
  abbrev Placed : Firing → ℕ × BodyStatement → Type 0
  Placed x p = (d : DataStatement) → p.1 ≡ body.Data d → StatementFits w.schema.tables x.frame d

  run_free : (x : Firing) (place : ℕ) (statement : BodyStatement) (at : Progress) → Placed x (place, statement) → Stands at
      → FreeFailure (statement_run run x place statement at)
  run_free x place (body.Data d) at u h =
      then_free (λ y. y.cause) (run x.trigger.id d x.frame at.database at.budget) (λ done. Ok (record { database = done.database; budget = done.rest }))
      (free x.trigger.id d x.frame at.database at.budget (u d refl) h) (λ done e. tt)
  run_free x place (body.Signal text) at u h = refl
  run_free x place (body.Set s) at u h = tt

  firing_free : (x : Firing) (at : Progress) → FiringSuits w.schema.tables x → Stands at → FreeFailure (firing_run run x at)
  firing_free x at suits h =
      inside_free x.trigger.id _
      (then_free (λ y. y.cause) (over at.database (holds (scope_of x.frame at.database.rows) x.trigger.when))
      (λ fires. if fires then body_run run x (placed_statements x.trigger) at else Ok at)
      (over_free at.database (holds (scope_of x.frame at.database.rows) x.trigger.when)
      (when_free w.schema.tables x.trigger x.frame at.database.rows suits.suits suits.sees h.1))
      (λ fires e. by fires))
    where
      of_place : (p : ℕ × BodyStatement) → In p (placed_statements x.trigger) → Placed x p
      of_place p i d is =
          let at = in_at x.trigger.body p.1 (enumerated_in 1 x.trigger.body p i) in
          firing_fits w.schema.tables x suits at.0 d (at.1 ∙ ap (λ (b : BodyStatement). Some b) is)

      by : (fires : Bool) → FreeFailure (if fires then body_run run x (placed_statements x.trigger) at else Ok at)
      by false = tt
      by true =
          in_turn_free (λ y. y.cause) Stands (λ p. statement_run run x p.0 p.1) (placed_statements x.trigger)
          (λ p i b q. run_free x p.0 p.1 b (of_place p i) q)
          (λ p i b after q e. statement_keeps w.schema.tables (IsFitting w) run keeps x p.0 p.1 b after (of_place p i) e q)
          at h

  all_firings_free : (xs : List Firing) (at : Progress) → ((x : Firing) → In x xs → FiringSuits w.schema.tables x) → Stands at → FreeFailure (firings_run run xs at)
  all_firings_free xs at suits h =
      in_turn_free (λ y. y.cause) Stands (firing_run run) xs
      (λ x i b q. firing_free x b (suits x i) q)
      (λ x i b after q e. fired_keeps w.schema.tables (IsFitting w) run keeps x b after (firing_fits w.schema.tables x (suits x i)) e q)
      at h

-- ---- levels

steps_free : (run : Runs) (w : Context) (d : DataStatement) (f : Frame) (db : Database) (budget : ℕ) → SchemaSuits w.schema
    → KeepsWhereFits w.schema.tables (IsFitting w) run → RunsFree w run → StatementFits w.schema.tables f d → IsFitting w db budget
    → FreeFailure (level_steps run w d f db budget)
steps_free run w d f db budget s keeps free fits h =
    then_free (λ x. x.cause) (over db (proposed_wave w db f d)) _ (over_free db (proposed_wave w db f d) (proposed_free w db f d h.1 fits)) (λ wave e.
    let is_proposed = ok_over db (proposed_wave w db f d) wave e in
    let start = proposals_start w d f db wave s.tables h.0 h.1 fits is_proposed in
    then_free (λ x. x.cause) (with_count db (before_statement w db.rows d)) _
    (counted_free db (before_statement w db.rows d) (statement_triggers_free w db.rows d s.triggers h.1)) (λ _ e'.
    then_free (λ x. x.cause) (settled_waves w db budget wave) _
    (settled_within_free budget w db budget wave s start) (λ settled is_settled.
    let settles = started_waves_fit w db budget wave settled s start is_settled in
    let net = net_changes_fit w.schema.tables db settled.last settled.waves settles.0 h.1 settles.1 in
    then_free (λ x. x.cause) (immediate_check w settled.last) _
    (unless_free settled.last Violation (scan settled.last.rows w.schema.constraints (is_chosen w.modes Immediate)) (Ok tt) (λ fault. refl) tt) (λ _ e''.
    then_free (λ x. x.cause) (firings_run run (firings w d (level_columns d settled.waves) (net_wave db.rows settled.last.rows settled.waves)) (record { database = settled.last; budget = settled.rest })) _
    (all_firings_free w run keeps free (firings w d (level_columns d settled.waves) (net_wave db.rows settled.last.rows settled.waves)) (record { database = settled.last; budget = settled.rest })
    (λ x i. all_firings_suit w d (level_columns d settled.waves) (net_wave db.rows settled.last.rows settled.waves) x s.triggers net i)
    (chain_ends db settled.last settled.waves settles.0, settles.1)) (λ at e'''. tt)))))

nested_free : (depth : ℕ) (w : Context) (trigger : ℕ) (d : DataStatement) (f : Frame) (db : Database) (budget : ℕ) → SchemaSuits w.schema
    → StatementFits w.schema.tables f d → IsFitting w db budget → FreeFailure (nested_level depth w trigger d f db budget)
nested_free zero w trigger d f db budget s fits h = refl
nested_free (suc depth) w trigger d f db zero s fits h = refl
nested_free (suc depth) w trigger d f db (suc budget) s fits h =
    steps_free (nested_level depth w) w d f db budget s
    (λ trigger' d' f' db' budget' done' fits' e' h'. nested_fits depth w trigger' d' f' db' budget' done' s fits' e' h')
    (λ trigger' d' f' db' budget' fits' h'. nested_free depth w trigger' d' f' db' budget' s fits' h') fits h

pub nested_levels_are_well_typed : NestedLevelsAreWellTyped
nested_levels_are_well_typed depth w trigger d f db budget failure s numbered h fits e =
    free_refused (λ x. x.cause) (nested_level depth w trigger d f db budget) failure (nested_free depth w trigger d f db budget s fits (numbered, h)) e

pub levels_are_well_typed : LevelsAreWellTyped
levels_are_well_typed deeper w d f db budget failure s numbered h fits e =
    nested_levels_are_well_typed (suc deeper) w 0 d f db budget failure s numbered h fits e
