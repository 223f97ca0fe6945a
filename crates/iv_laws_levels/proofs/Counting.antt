-- No level lowers the count of row changes, accepted or refused.
use Rattle.std.proofs.Common.{◌≡◌, ℕ, zero, suc, ◌+◌, ◌-◌, ◌≤◌, Bool, true, false, if◌then◌else◌, is_none, Some, List, [], ◌∷◌, Result, Ok, Err, subst, arith}
use Rattle.std.specs.Bool.{nat_lt}
use Rattle.iv_expr.specs.Changes.{Wave}
use Rattle.iv_expr.specs.Evaluation.{and_then}
use Rattle.iv_expr.specs.Scopes.{Frame, scope_of}
use Rattle.iv_catalogue.specs.declared.cause.Cause.{Cause}
use Rattle.iv_laws_levels.specs.Types.{Fault, BodyStatement, DataStatement, Database}
use Rattle.iv_laws_levels.specs.Types.cause.{Restrict, ActionConflict, Violation, TooManyChanges, TransactionTooLarge, Limit}
use Rattle.iv_laws_levels.specs.Types.body
use Rattle.iv_laws_levels.specs.Types.which.{Immediate}
use Rattle.iv_catalogue.specs.declared.cause.Refusal.{Refusal}
use Rattle.iv_machine.specs.Bounds.{most_changes_in_a_transaction}
use Rattle.iv_machine.specs.Databases.{scan, is_chosen, size, database_after}
use Rattle.iv_machine.specs.Context.{Context, Failure, fails, over, unless_first, with_count, inside_trigger, in_turn}
use Rattle.iv_machine.specs.Proposals.{holds, proposed_wave}
use Rattle.iv_machine.specs.BeforeTriggers.{placed_statements, before_statement, wave_after_triggers}
use Rattle.iv_machine.specs.ReferentialActions.{lost_keys, restricted_rows, conflicts, following_wave}
use Rattle.iv_machine.specs.Waves.{numbered_wave, is_beyond_last_row, wave_as_applied, one_wave, is_empty, SettledWaves, Settles, none_settled, settled_by, settled_within, settled_waves, net_wave}
use Rattle.iv_machine.specs.Levels.{Firing, Finished, Progress, Runs, statement_run, body_run, firing_run, firings_run, level_columns, firings, immediate_check, level_steps, nested_level, level}
use Rattle.iv_laws_levels.proofs.Settling.{nothing_settled, then_settled, then_next}

-- the row changes are at least so many: after an accepted step as it is counted, and after a refused one
abbrev NoFewer : {A : Type 0} → ℕ → (A → ℕ) → Result A Failure → Type 0
NoFewer low count (Ok a) = low ≤ count a
NoFewer low count (Err f) = low ≤ f.count

then_no_fewer : {A B : Type 0} (low : ℕ) (count : A → ℕ) (later : B → ℕ) (r : Result A Failure) (f : A → Result B Failure)
    → NoFewer low count r → ((a : A) → low ≤ count a → NoFewer low later (f a)) → NoFewer low later (and_then r f)
then_no_fewer low count later (Ok a) f h more = more a h
then_no_fewer low count later (Err e) f h more = h

lowered : {A : Type 0} (low more : ℕ) (count : A → ℕ) (r : Result A Failure) → low ≤ more → NoFewer more count r → NoFewer low count r
lowered low more count (Ok a) le h = omega (arith, le, h)
lowered low more count (Err f) le h = omega (arith, le, h)

-- ---- one step

over_counts : {A : Type 0} (db : Database) (r : Result A Cause) → NoFewer db.count (λ _. db.count) (over db r)
over_counts db (Ok a) = omega arith
over_counts db (Err c) = omega arith

with_count_counts : {A : Type 0} (db : Database) (r : Result A Refusal) → NoFewer db.count (λ _. db.count) (with_count db r)
with_count_counts db (Ok a) = omega arith
with_count_counts db (Err c) = omega arith

first_counts : {A : Type 0} (db : Database) (cause : Fault → Cause) (faults : List Fault) (r : Result A Failure)
    → NoFewer db.count (λ _. db.count) r → NoFewer db.count (λ _. db.count) (unless_first db cause faults r)
first_counts db cause [] r h = h
first_counts db cause (f ∷ fs) r h = omega arith

inside_counts : {A : Type 0} (low : ℕ) (count : A → ℕ) (trigger : ℕ) (r : Result A Failure) → NoFewer low count r → NoFewer low count (inside_trigger trigger r)
inside_counts low count trigger (Ok a) h = h
inside_counts low count trigger (Err f) h = by_trigger (is_none f.trigger)
  where
    by_trigger : (b : Bool) → low ≤ (if b then record f { trigger = Some trigger } else f).count
    by_trigger true = h
    by_trigger false = h

turns_count : {A B : Type 0} (count : B → ℕ) (f : A → B → Result B Failure) → ((x : A) (b : B) → NoFewer (count b) count (f x b))
    → (xs : List A) (b : B) → NoFewer (count b) count (in_turn f xs b)
turns_count count f each [] b = omega arith
turns_count count f each (x ∷ xs) b =
    then_no_fewer (count b) count count (f x b) (in_turn f xs) (each x b)
    (λ c le. lowered (count b) (count c) count (in_turn f xs c) le (turns_count count f each xs c))

-- ---- waves

applied_counts : (w : Context) (db : Database) (budget : ℕ) (wave : Wave) → NoFewer db.count (λ _. db.count) (wave_as_applied w db budget wave)
applied_counts w db budget wave =
    by_limits (nat_lt budget (size wave)) (nat_lt most_changes_in_a_transaction (db.count + size wave)) (is_beyond_last_row (numbered_wave db.next wave).changes)
  where
    by_limits : (few large last : Bool) → NoFewer db.count (λ _. db.count)
        (if few then fails db TooManyChanges
        else (if large then fails db TransactionTooLarge
        else (if last then fails db Limit
        else with_count db (wave_after_triggers w db.rows (numbered_wave db.next wave)))))
    by_limits true large last = omega arith
    by_limits false true last = omega arith
    by_limits false false true = omega arith
    by_limits false false false = with_count_counts db (wave_after_triggers w db.rows (numbered_wave db.next wave))

followed_counts : (w : Context) (db later : Database) → NoFewer later.count (λ _. later.count) (following_wave w db later)
followed_counts w db later =
    first_counts later Restrict (restricted_rows (lost_keys db.rows later.rows) w.schema.constraints db.rows) _
    (first_counts later ActionConflict (conflicts w.schema (lost_keys db.rows later.rows) db.rows later.rows) _ (omega arith))

one_counts : (w : Context) (db : Database) (budget : ℕ) (wave : Wave) → NoFewer db.count (λ one. (database_after db one.wave).count) (one_wave w db budget wave)
one_counts w db budget wave =
    then_no_fewer db.count (λ _. db.count) (λ one. (database_after db one.wave).count) (wave_as_applied w db budget wave) (then_next w db)
    (applied_counts w db budget wave) (λ applied le.
    lowered db.count (database_after db applied).count (λ one. (database_after db one.wave).count) (then_next w db applied) (omega arith)
    (then_no_fewer (database_after db applied).count (λ _. (database_after db applied).count) (λ one. (database_after db one.wave).count)
    (following_wave w db (database_after db applied)) (λ next. Ok (record { wave = applied; next = next }))
    (followed_counts w db (database_after db applied)) (λ next le2. omega arith)))

settled_by_counts : (rest : Settles) (w : Context) (db : Database) (budget : ℕ) (wave : Wave)
    → ((db' : Database) (budget' : ℕ) (wave' : Wave) → NoFewer db'.count (λ s. s.last.count) (rest db' budget' wave'))
    → NoFewer db.count (λ s. s.last.count) (settled_by rest w db budget wave)
settled_by_counts rest w db budget wave others = by_empty (is_empty wave.changes)
  where
    by_empty : (empty : Bool) → NoFewer db.count (λ s. s.last.count)
        (if empty then nothing_settled db budget else and_then (one_wave w db budget wave) (then_settled rest db budget))
    by_empty true = omega arith
    by_empty false =
        then_no_fewer db.count (λ one. (database_after db one.wave).count) (λ s. s.last.count) (one_wave w db budget wave) (then_settled rest db budget)
        (one_counts w db budget wave) (λ one le.
        lowered db.count (database_after db one.wave).count (λ s. s.last.count) (then_settled rest db budget one) le
        (then_no_fewer (database_after db one.wave).count (λ s. s.last.count) (λ s. s.last.count)
        (rest (database_after db one.wave) (budget - size one.wave) one.next) (λ s. Ok (record s { waves = one.wave ∷ s.waves }))
        (others (database_after db one.wave) (budget - size one.wave) one.next) (λ s le2. le2)))

settled_within_counts : (most : ℕ) (w : Context) (db : Database) (budget : ℕ) (wave : Wave) → NoFewer db.count (λ s. s.last.count) (settled_within most w db budget wave)
settled_within_counts zero w db budget wave = settled_by_counts none_settled w db budget wave (λ db' budget' wave'. omega arith)
settled_within_counts (suc most) w db budget wave = settled_by_counts (settled_within most w) w db budget wave (settled_within_counts most w)

-- ---- levels

abbrev RunsCount : Runs → Type 0
RunsCount run =
    (trigger : ℕ) (d : DataStatement) (f : Frame) (db : Database) (budget : ℕ)
    → NoFewer db.count (λ done. done.database.count) (run trigger d f db budget)

abbrev progress_count : Progress → ℕ
progress_count at = at.database.count

module _ (run : Runs) (counts : RunsCount run) where
  statement_counts : (x : Firing) (place : ℕ) (statement : BodyStatement) (at : Progress)
      → NoFewer at.database.count progress_count (statement_run run x place statement at)
  statement_counts x place (body.Data d) at =
      then_no_fewer at.database.count (λ done. done.database.count) progress_count (run x.trigger.id d x.frame at.database at.budget)
      (λ done. Ok (record { database = done.database; budget = done.rest })) (counts x.trigger.id d x.frame at.database at.budget) (λ done le. le)
  statement_counts x place (body.Signal text) at = omega arith
  statement_counts x place (body.Set s) at = omega arith

  body_counts : (x : Firing) (fires : Bool) (at : Progress)
      → NoFewer at.database.count progress_count (if fires then body_run run x (placed_statements x.trigger) at else Ok at)
  body_counts x true at = turns_count progress_count (λ s. statement_run run x s.0 s.1) (λ s at'. statement_counts x s.0 s.1 at') (placed_statements x.trigger) at
  body_counts x false at = omega arith

  firing_counts : (x : Firing) (at : Progress) → NoFewer at.database.count progress_count (firing_run run x at)
  firing_counts x at =
      inside_counts at.database.count progress_count x.trigger.id _
      (then_no_fewer at.database.count (λ _. at.database.count) progress_count (over at.database (holds (scope_of x.frame at.database.rows) x.trigger.when))
      (λ fires. if fires then body_run run x (placed_statements x.trigger) at else Ok at)
      (over_counts at.database (holds (scope_of x.frame at.database.rows) x.trigger.when)) (λ fires le. body_counts x fires at))

  abbrev after_firings : DataStatement → Context → Database → Wave → SettledWaves → Result Finished Failure
  after_firings d w db wave s =
      and_then (firings_run run (firings w d (level_columns d s.waves) (net_wave db.rows s.last.rows s.waves)) (record { database = s.last; budget = s.rest })) (λ at.
      Ok (record { database = at.database; rest = at.budget; size = size wave }))

  abbrev after_waves : DataStatement → Context → Database → Wave → SettledWaves → Result Finished Failure
  after_waves d w db wave s = and_then (immediate_check w s.last) (λ _. after_firings d w db wave s)

  abbrev after_proposal : DataStatement → Context → Database → ℕ → Wave → Result Finished Failure
  after_proposal d w db budget wave =
      and_then (with_count db (before_statement w db.rows d)) (λ _. and_then (settled_waves w db budget wave) (after_waves d w db wave))

  after_waves_counts : (d : DataStatement) (w : Context) (db : Database) (wave : Wave) (s : SettledWaves)
      → NoFewer s.last.count (λ done. done.database.count) (after_waves d w db wave s)
  after_waves_counts d w db wave s =
      then_no_fewer s.last.count (λ _. s.last.count) (λ done. done.database.count) (immediate_check w s.last) (λ _. after_firings d w db wave s)
      (first_counts s.last Violation (scan s.last.rows w.schema.constraints (is_chosen w.modes Immediate)) (Ok tt) (omega arith)) (λ _ le.
      then_no_fewer s.last.count progress_count (λ done. done.database.count)
      (firings_run run (firings w d (level_columns d s.waves) (net_wave db.rows s.last.rows s.waves)) (record { database = s.last; budget = s.rest }))
      (λ at. Ok (record { database = at.database; rest = at.budget; size = size wave }))
      (turns_count progress_count (firing_run run) firing_counts (firings w d (level_columns d s.waves) (net_wave db.rows s.last.rows s.waves)) (record { database = s.last; budget = s.rest }))
      (λ at le2. le2))

  after_proposal_counts : (d : DataStatement) (w : Context) (db : Database) (budget : ℕ) (wave : Wave)
      → NoFewer db.count (λ done. done.database.count) (after_proposal d w db budget wave)
  after_proposal_counts d w db budget wave =
      then_no_fewer db.count (λ _. db.count) (λ done. done.database.count) (with_count db (before_statement w db.rows d))
      (λ _. and_then (settled_waves w db budget wave) (after_waves d w db wave))
      (with_count_counts db (before_statement w db.rows d)) (λ _ le.
      then_no_fewer db.count (λ s. s.last.count) (λ done. done.database.count) (settled_waves w db budget wave) (after_waves d w db wave)
      (settled_within_counts budget w db budget wave) (λ s above.
      lowered db.count s.last.count (λ done. done.database.count) (after_waves d w db wave s) above (after_waves_counts d w db wave s)))

  steps_count : (w : Context) (d : DataStatement) (f : Frame) (db : Database) (budget : ℕ)
      → NoFewer db.count (λ done. done.database.count) (level_steps run w d f db budget)
  steps_count w d f db budget =
      then_no_fewer db.count (λ _. db.count) (λ done. done.database.count) (over db (proposed_wave w db f d)) (after_proposal d w db budget)
      (over_counts db (proposed_wave w db f d)) (λ wave le. after_proposal_counts d w db budget wave)

nested_counts : (depth : ℕ) (w : Context) → RunsCount (nested_level depth w)
nested_counts zero w trigger d f db budget = omega arith
nested_counts (suc depth) w trigger d f db zero = omega arith
nested_counts (suc depth) w trigger d f db (suc budget) = steps_count (nested_level depth w) (nested_counts depth w) w d f db budget

pub refused_levels_keep_the_count : (deeper : ℕ) (w : Context) (d : DataStatement) (f : Frame) (db : Database) (budget : ℕ) (failure : Failure)
    → level deeper w d f db budget ≡ Err failure → db.count ≤ failure.count
refused_levels_keep_the_count deeper w d f db budget failure e =
    subst (NoFewer db.count (λ done. done.database.count)) e (nested_counts (suc deeper) w 0 d f db budget)
