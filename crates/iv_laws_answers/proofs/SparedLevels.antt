-- Waves and levels aren't refused for lack of memory.
use Rattle.std.proofs.Common.{refl, ℕ, zero, suc, ◌+◌, ◌-◌, nat_lt, Bool, true, false, if◌then◌else◌, List, ◌∷◌, Ok}
use Rattle.iv_laws_answers.specs.Types.{BodyStatement, DataStatement, Database}
use Rattle.iv_laws_answers.specs.Types.cause.{Restrict, ActionConflict, Violation, TooManyChanges, TransactionTooLarge, Limit}
use Rattle.iv_laws_answers.specs.Types.body
use Rattle.iv_expr.specs.Changes.{Wave}
use Rattle.iv_expr.specs.Evaluation.{and_then}
use Rattle.iv_expr.specs.Scopes.{Frame, scope_of}
use Rattle.iv_machine.specs.declared.database.Which.TheVariants.{Immediate}
use Rattle.iv_machine.specs.Bounds.{most_changes_in_a_transaction}
use Rattle.iv_machine.specs.Databases.{scan, is_chosen, size, database_after}
use Rattle.iv_machine.specs.Context.{Context, fails, over, with_count}
use Rattle.iv_machine.specs.Proposals.{holds, proposed_wave}
use Rattle.iv_machine.specs.BeforeTriggers.{placed_statements, before_statement, wave_after_triggers}
use Rattle.iv_machine.specs.ReferentialActions.{lost_keys, restricted_rows, conflicts, following_wave}
use Rattle.iv_machine.specs.Waves.{numbered_wave, is_beyond_last_row, wave_as_applied, one_wave, is_empty, Settles, none_settled, settled_by, settled_within, settled_waves, net_wave}
use Rattle.iv_machine.specs.Levels.{Firing, Progress, Runs, statement_run, body_run, firing_run, firings_run, firings, level_columns, immediate_check, level_steps, nested_level, level}
use Rattle.iv_laws_levels.proofs.Settling.{nothing_settled, then_next, then_settled}
use Rattle.iv_laws_answers.specs.Memory.{WavesWantNoMemory, LevelsWantNoMemory, NestedLevelsWantNoMemory}
use Rattle.iv_laws_answers.proofs.Spared.{SparedFailure, then_spared, in_turn_spared, counted_spared, over_spared, inside_spared, unless_spared, spared_refused}
use Rattle.iv_laws_answers.proofs.SparedValues.{holds_spared, proposed_spared}
use Rattle.iv_laws_answers.proofs.SparedTriggers.{statement_triggers_spared, wave_triggers_spared}

-- ---- waves

applied_spared : (w : Context) (db : Database) (budget : ℕ) (wave : Wave) → SparedFailure (wave_as_applied w db budget wave)
applied_spared w db budget wave =
    by (nat_lt budget (size wave)) (nat_lt most_changes_in_a_transaction (db.count + size wave)) (is_beyond_last_row (numbered_wave db.next wave).changes)
  where
    by : (few large last : Bool)
        → SparedFailure (if few then fails db TooManyChanges else (if large then fails db TransactionTooLarge else (if last then fails db Limit
        else with_count db (wave_after_triggers w db.rows (numbered_wave db.next wave)))))
    by true large last = refl
    by false true last = refl
    by false false true = refl
    by false false false =
        counted_spared db (wave_after_triggers w db.rows (numbered_wave db.next wave)) (wave_triggers_spared w db.rows (numbered_wave db.next wave))

followed_spared : (w : Context) (db later : Database) → SparedFailure (following_wave w db later)
followed_spared w db later =
    unless_spared later Restrict (restricted_rows (lost_keys db.rows later.rows) w.schema.constraints db.rows) _ (λ f. refl)
    (unless_spared later ActionConflict (conflicts w.schema (lost_keys db.rows later.rows) db.rows later.rows) _ (λ f. refl) tt)

one_spared : (w : Context) (db : Database) (budget : ℕ) (wave : Wave) → SparedFailure (one_wave w db budget wave)
one_spared w db budget wave =
    then_spared (λ x. x.cause) (wave_as_applied w db budget wave) (then_next w db) (applied_spared w db budget wave)
    (λ applied.
    then_spared (λ x. x.cause) (following_wave w db (database_after db applied)) (λ next. Ok (record { wave = applied; next = next }))
    (followed_spared w db (database_after db applied)) (λ next. tt))

settled_by_spared : (w : Context) (rest : Settles) → ((db : Database) (budget : ℕ) (wave : Wave) → SparedFailure (rest db budget wave))
    → (db : Database) (budget : ℕ) (wave : Wave) → SparedFailure (settled_by rest w db budget wave)
settled_by_spared w rest others db budget wave = by (is_empty wave.changes)
  where
    by : (empty : Bool)
        → SparedFailure (if empty then nothing_settled db budget else and_then (one_wave w db budget wave) (then_settled rest db budget))
    by true = tt
    by false =
        then_spared (λ x. x.cause) (one_wave w db budget wave) (then_settled rest db budget) (one_spared w db budget wave)
        (λ one.
        then_spared (λ x. x.cause) (rest (database_after db one.wave) (budget - size one.wave) one.next) (λ s. Ok (record s { waves = one.wave ∷ s.waves }))
        (others (database_after db one.wave) (budget - size one.wave) one.next) (λ s. tt))

settled_within_spared : (most : ℕ) (w : Context) (db : Database) (budget : ℕ) (wave : Wave) → SparedFailure (settled_within most w db budget wave)
settled_within_spared zero w db budget wave = settled_by_spared w none_settled (λ db' budget' wave'. refl) db budget wave
settled_within_spared (suc most) w db budget wave = settled_by_spared w (settled_within most w) (settled_within_spared most w) db budget wave

pub settled_spared : (w : Context) (db : Database) (budget : ℕ) (wave : Wave) → SparedFailure (settled_waves w db budget wave)
settled_spared w db budget wave = settled_within_spared budget w db budget wave

pub waves_want_no_memory : WavesWantNoMemory
waves_want_no_memory w db budget wave failure e = spared_refused (λ x. x.cause) (settled_waves w db budget wave) failure (settled_spared w db budget wave) e

-- ---- the triggers that fire

abbrev RunsSpared : Runs → Type 0
RunsSpared run = (trigger : ℕ) (d : DataStatement) (f : Frame) (db : Database) (budget : ℕ) → SparedFailure (run trigger d f db budget)

module _ (run : Runs) (spared : RunsSpared run) where
  statement_spared : (x : Firing) (place : ℕ) (statement : BodyStatement) (at : Progress) → SparedFailure (statement_run run x place statement at)
  statement_spared x place (body.Data d) at =
      then_spared (λ y. y.cause) (run x.trigger.id d x.frame at.database at.budget) (λ done. Ok (record { database = done.database; budget = done.rest }))
      (spared x.trigger.id d x.frame at.database at.budget) (λ done. tt)
  statement_spared x place (body.Signal text) at = refl
  statement_spared x place (body.Set s) at = tt

  firing_spared : (x : Firing) (at : Progress) → SparedFailure (firing_run run x at)
  firing_spared x at =
      inside_spared x.trigger.id _
      (then_spared (λ y. y.cause) (over at.database (holds (scope_of x.frame at.database.rows) x.trigger.when))
      (λ fires. if fires then body_run run x (placed_statements x.trigger) at else Ok at)
      (over_spared at.database (holds (scope_of x.frame at.database.rows) x.trigger.when) (holds_spared (scope_of x.frame at.database.rows) x.trigger.when))
      (λ fires. by fires))
    where
      by : (fires : Bool) → SparedFailure (if fires then body_run run x (placed_statements x.trigger) at else Ok at)
      by true = in_turn_spared (λ y. y.cause) (λ s. statement_run run x s.0 s.1) (λ s at'. statement_spared x s.0 s.1 at') (placed_statements x.trigger) at
      by false = tt

  firings_spared : (xs : List Firing) (at : Progress) → SparedFailure (firings_run run xs at)
  firings_spared xs at = in_turn_spared (λ y. y.cause) (firing_run run) firing_spared xs at

  -- ---- levels

  steps_spared : (w : Context) (d : DataStatement) (f : Frame) (db : Database) (budget : ℕ) → SparedFailure (level_steps run w d f db budget)
  steps_spared w d f db budget =
      then_spared (λ x. x.cause) (over db (proposed_wave w db f d)) _ (over_spared db (proposed_wave w db f d) (proposed_spared w db f d)) (λ wave.
      then_spared (λ x. x.cause) (with_count db (before_statement w db.rows d)) _
      (counted_spared db (before_statement w db.rows d) (statement_triggers_spared w db.rows d)) (λ _.
      then_spared (λ x. x.cause) (settled_waves w db budget wave) _ (settled_spared w db budget wave) (λ s.
      then_spared (λ x. x.cause) (immediate_check w s.last) _
      (unless_spared s.last Violation (scan s.last.rows w.schema.constraints (is_chosen w.modes Immediate)) (Ok tt) (λ fault. refl) tt) (λ _.
      then_spared (λ x. x.cause) (firings_run run (firings w d (level_columns d s.waves) (net_wave db.rows s.last.rows s.waves)) (record { database = s.last; budget = s.rest })) _
      (firings_spared (firings w d (level_columns d s.waves) (net_wave db.rows s.last.rows s.waves)) (record { database = s.last; budget = s.rest })) (λ at. tt)))))

nested_spared : (depth : ℕ) (w : Context) (trigger : ℕ) (d : DataStatement) (f : Frame) (db : Database) (budget : ℕ)
    → SparedFailure (nested_level depth w trigger d f db budget)
nested_spared zero w trigger d f db budget = refl
nested_spared (suc depth) w trigger d f db zero = refl
nested_spared (suc depth) w trigger d f db (suc budget) = steps_spared (nested_level depth w) (nested_spared depth w) w d f db budget

pub level_spared : (deeper : ℕ) (w : Context) (d : DataStatement) (f : Frame) (db : Database) (budget : ℕ) → SparedFailure (level deeper w d f db budget)
level_spared deeper w d f db budget = nested_spared (suc deeper) w 0 d f db budget

pub nested_levels_want_no_memory : NestedLevelsWantNoMemory
nested_levels_want_no_memory depth w trigger d f db budget failure e =
    spared_refused (λ x. x.cause) (nested_level depth w trigger d f db budget) failure (nested_spared depth w trigger d f db budget) e

pub levels_want_no_memory : LevelsWantNoMemory
levels_want_no_memory deeper w d f db budget failure e =
    spared_refused (λ x. x.cause) (level deeper w d f db budget) failure (level_spared deeper w d f db budget) e
