-- A level and all inside it take exactly one from the budget for each data statement and each row change, and count each row change.
use Rattle.std.proofs.Common.{◌≡◌, ℕ, zero, suc, ◌+◌, Bool, true, false, if◌then◌else◌, List, [], ◌∷◌, Result, Ok, Err, sym, ap, ◌∙◌, arith}
use Rattle.iv_expr.specs.Changes.{Wave}
use Rattle.iv_expr.specs.Evaluation.{and_then}
use Rattle.iv_expr.specs.Scopes.{Frame, scope_of}
use Rattle.iv_laws_levels.specs.Types.{BodyStatement, DataStatement, Database}
use Rattle.iv_laws_levels.specs.Types.body
use Rattle.iv_machine.specs.Context.{Context, Failure, over, in_turn}
use Rattle.iv_machine.specs.Proposals.{holds}
use Rattle.iv_machine.specs.BeforeTriggers.{placed_statements}
use Rattle.iv_machine.specs.Waves.{SettledWaves, settled_waves, net_wave}
use Rattle.iv_machine.specs.Levels.{Firing, Finished, Progress, Runs, statement_run, firing_run, firings_run, level_columns, firings, nested_level, level}
use Rattle.iv_laws_levels.specs.Budgets.{total_in_turn, Counts, statement_total, firing_total, level_total, nested_total, total, sizes, one_statement}
use Rattle.iv_laws_levels.proofs.Chains.{not_ok, ok_same, step_of, ok_inside, ok_over}
use Rattle.iv_laws_levels.proofs.Settling.{applied_is, size_applied, every_settled}
use Rattle.iv_laws_levels.proofs.Firings.{Steps, steps_of}

-- ---- waves

pub record Took (statements changes budget count rest after : ℕ) : Type 0 where
  pub taken : rest + statements + changes ≡ budget
  pub counted : after ≡ count + changes

waves_took : (w : Context) (db : Database) (budget : ℕ) (wave : Wave) (s : SettledWaves)
    → settled_waves w db budget wave ≡ Ok s → Took 0 (sizes s.waves) budget db.count s.rest s.last.count
waves_took w db budget wave s e =
    every_settled w (λ db' budget' wave' s'. Took 0 (sizes s'.waves) budget' db'.count s'.rest s'.last.count)
    (λ db' budget' wave' none. record { taken = omega arith; counted = omega arith })
    (λ db' budget' wave' first others is_applied is_followed more.
    let applied = applied_is w db' budget' wave' first.wave is_applied in
    let same = size_applied w db' budget' wave' first.wave applied in
    record { taken = omega (arith, more.taken, applied.fits, same); counted = omega (arith, more.counted) })
    db budget wave s e

pub waves_take : (w : Context) (db : Database) (budget : ℕ) (wave : Wave) (s : SettledWaves)
    → settled_waves w db budget wave ≡ Ok s → s.rest + sizes s.waves ≡ budget
waves_take w db budget wave s e = omega (arith, (waves_took w db budget wave s e).taken)

pub waves_count : (w : Context) (db : Database) (budget : ℕ) (wave : Wave) (s : SettledWaves)
    → settled_waves w db budget wave ≡ Ok s → s.last.count ≡ db.count + sizes s.waves
waves_count w db budget wave s e = (waves_took w db budget wave s e).counted

-- ---- the triggers that fire

abbrev TookBetween : ℕ → ℕ → Progress → Progress → Type 0
TookBetween statements changes at after = Took statements changes at.budget at.database.count after.budget after.database.count

-- what each takes, all in turn take
module _ {A : Type 0} (f : A → Progress → Result Progress Failure) (statements changes : A → Progress → ℕ)
    (each_took : (x : A) (at after : Progress) → f x at ≡ Ok after → TookBetween (statements x at) (changes x at) at after) where
  total_step : (count : A → Progress → ℕ) (x : A) (xs : List A) (at next : Progress) → f x at ≡ Ok next
      → total_in_turn f count (x ∷ xs) at ≡ count x at + total_in_turn f count xs next
  total_step count x xs at next e = ap (λ r. count x at + elim r [ Ok c ↦ total_in_turn f count xs c | Err g ↦ 0 ]) e

  pub turns_took : (xs : List A) (at after : Progress) → in_turn f xs at ≡ Ok after
      → TookBetween (total_in_turn f statements xs at) (total_in_turn f changes xs at) at after
  turns_took [] at after e =
      let same = ok_same at after e in
      record { taken = ap (λ s. s.budget + 0 + 0) (sym same) ∙ (omega arith); counted = ap (λ s. s.database.count) (sym same) ∙ (omega arith) }
  turns_took (x ∷ xs) at after e =
      let next = step_of (f x at) (in_turn f xs) after e in
      let here = each_took x at next.0 next.1 in
      let rest = turns_took xs next.0 after next.2 in
      let all_statements = total_step statements x xs at next.0 next.1 in
      let all_changes = total_step changes x xs at next.0 next.1 in
      record {
        taken = omega (arith, here.taken, rest.taken, all_statements, all_changes);
        counted = omega (arith, here.counted, rest.counted, all_changes);
      }

-- what data statements of bodies take
abbrev RunsTook : Runs → Counts → Counts → Type 0
RunsTook run statements changes =
    (trigger : ℕ) (d : DataStatement) (f : Frame) (db : Database) (budget : ℕ) (done : Finished)
    → run trigger d f db budget ≡ Ok done
    → Took (statements trigger d f db budget) (changes trigger d f db budget) budget db.count done.rest done.database.count

module _ (run : Runs) (statements changes : Counts) (took : RunsTook run statements changes) where
  nothing_took : (at after : Progress) → ◌≡◌ {A = Result Progress Failure} (Ok at) (Ok after) → TookBetween 0 0 at after
  nothing_took at after e =
      let same = ok_same at after e in
      record { taken = ap (λ s. s.budget + 0 + 0) (sym same) ∙ (omega arith); counted = ap (λ s. s.database.count) (sym same) ∙ (omega arith) }

  statement_took : (x : Firing) (place : ℕ) (statement : BodyStatement) (at after : Progress) → statement_run run x place statement at ≡ Ok after
      → TookBetween (statement_total statements x statement at) (statement_total changes x statement at) at after
  statement_took x place (body.Data d) at after e =
      let done = step_of (run x.trigger.id d x.frame at.database at.budget) _ after e in
      let same : record { database = done.0.database; budget = done.0.rest } ≡ after = ok_same _ after done.2 in
      let did = took x.trigger.id d x.frame at.database at.budget done.0 done.1 in
      let rest : after.budget ≡ done.0.rest = ap (λ s. s.budget) (sym same) in
      let count : after.database.count ≡ done.0.database.count = ap (λ s. s.database.count) (sym same) in
      record { taken = omega (arith, did.taken, rest); counted = omega (arith, did.counted, count) }
  statement_took x place (body.Signal text) at after e = absurd (not_ok _ after e)
  statement_took x place (body.Set s) at after e = nothing_took at after e

  abbrev body_total : Counts → Firing → Bool → Progress → ℕ
  body_total count x fires at =
      if fires then total_in_turn (λ s. statement_run run x s.0 s.1) (λ s. statement_total count x s.1) (placed_statements x.trigger) at else 0

  body_took : (x : Firing) (fires : Bool) (at after : Progress)
      → (if fires then in_turn (λ s. statement_run run x s.0 s.1) (placed_statements x.trigger) at else Ok at) ≡ Ok after
      → TookBetween (body_total statements x fires at) (body_total changes x fires at) at after
  body_took x true at after e =
      turns_took (λ s. statement_run run x s.0 s.1) (λ s. statement_total statements x s.1) (λ s. statement_total changes x s.1)
      (λ s at' after' f. statement_took x s.0 s.1 at' after' f) (placed_statements x.trigger) at after e
  body_took x false at after e = nothing_took at after e

  firing_took : (x : Firing) (at after : Progress) → firing_run run x at ≡ Ok after
      → TookBetween (firing_total run statements x at) (firing_total run changes x at) at after
  firing_took x at after e =
      let fires = step_of (over at.database (holds (scope_of x.frame at.database.rows) x.trigger.when)) _ after (ok_inside x.trigger.id _ after e) in
      let is = ok_over at.database (holds (scope_of x.frame at.database.rows) x.trigger.when) fires.0 fires.1 in
      let did = body_took x fires.0 at after fires.2 in
      let all_statements : firing_total run statements x at ≡ body_total statements x fires.0 at =
      ap (λ r. elim r [ Ok b ↦ body_total statements x b at | Err cause ↦ 0 ]) is in
      let all_changes : firing_total run changes x at ≡ body_total changes x fires.0 at =
      ap (λ r. elim r [ Ok b ↦ body_total changes x b at | Err cause ↦ 0 ]) is in
      record { taken = omega (arith, did.taken, all_statements, all_changes); counted = omega (arith, did.counted, all_changes) }

  pub firings_took : (xs : List Firing) (at after : Progress) → firings_run run xs at ≡ Ok after
      → TookBetween (total_in_turn (firing_run run) (firing_total run statements) xs at) (total_in_turn (firing_run run) (firing_total run changes) xs at) at after
  firings_took xs at after e =
      turns_took (firing_run run) (firing_total run statements) (firing_total run changes) firing_took xs at after e

-- ---- levels

module _ (run : Runs) (count : Counts) (own : List Wave → ℕ) where
  abbrev fired_total : Context → DataStatement → Database → SettledWaves → ℕ
  fired_total w d db s =
      total_in_turn (firing_run run) (firing_total run count) (firings w d (level_columns d s.waves) (net_wave db.rows s.last.rows s.waves)) (record { database = s.last; budget = s.rest })

  -- the total of an accepted level
  level_total_is : (w : Context) (d : DataStatement) (f : Frame) (db : Database) (budget : ℕ) (done : Finished) (s : Steps run w d f db budget done)
      → level_total own run count w d f db (suc budget) ≡ own s.waves.waves + fired_total w d db s.waves
  level_total_is w d f db budget done s =
      ap (λ r. elim r [ Ok x ↦ own x.waves + fired_total w d db x | Err failure ↦ 0 ])
      (ap (λ r. and_then {B = SettledWaves} (over db r) (settled_waves w db budget)) s.is_proposed ∙ s.is_settled)

steps_took : (run : Runs) (statements changes : Counts) (w : Context) (d : DataStatement) (f : Frame) (db : Database) (budget : ℕ) (done : Finished)
    → RunsTook run statements changes → Steps run w d f db budget done
    → Took (level_total one_statement run statements w d f db (suc budget)) (level_total sizes run changes w d f db (suc budget)) (suc budget) db.count done.rest done.database.count
steps_took run statements changes w d f db budget done took s =
    let waves = waves_took w db budget s.wave s.waves s.is_settled in
    let fired = firings_took run statements changes took (firings w d (level_columns d s.waves.waves) (net_wave db.rows s.waves.last.rows s.waves.waves))
    (record { database = s.waves.last; budget = s.waves.rest }) s.progress s.is_fired in
    let all_statements = level_total_is run statements one_statement w d f db budget done s in
    let all_changes = level_total_is run changes sizes w d f db budget done s in
    let rest : done.rest ≡ s.progress.budget = ap (λ x. x.rest) (sym s.is_done) in
    let count : done.database.count ≡ s.progress.database.count = ap (λ x. x.database.count) (sym s.is_done) in
    record {
      taken = omega (arith, waves.taken, fired.taken, all_statements, all_changes, rest);
      counted = omega (arith, waves.counted, fired.counted, all_changes, count);
    }

nested_took : (depth : ℕ) (w : Context) → RunsTook (nested_level depth w) (nested_total one_statement depth w) (nested_total sizes depth w)
nested_took zero w trigger d f db budget done e = absurd (not_ok _ done e)
nested_took (suc depth) w trigger d f db zero done e = absurd (not_ok _ done e)
nested_took (suc depth) w trigger d f db (suc budget) done e =
    steps_took (nested_level depth w) (nested_total one_statement depth w) (nested_total sizes depth w) w d f db budget done (nested_took depth w)
    (steps_of (nested_level depth w) w d f db budget done e)

pub nested_takes : (depth : ℕ) (w : Context) (trigger : ℕ) (d : DataStatement) (f : Frame) (db : Database) (budget : ℕ) (done : Finished)
    → nested_level depth w trigger d f db budget ≡ Ok done
    → done.rest + nested_total one_statement depth w trigger d f db budget + nested_total sizes depth w trigger d f db budget ≡ budget
nested_takes depth w trigger d f db budget done e = (nested_took depth w trigger d f db budget done e).taken

pub level_takes : (deeper : ℕ) (w : Context) (d : DataStatement) (f : Frame) (db : Database) (budget : ℕ) (done : Finished)
    → level deeper w d f db budget ≡ Ok done → done.rest + total one_statement deeper w d f db budget + total sizes deeper w d f db budget ≡ budget
level_takes deeper w d f db budget done e = nested_takes (suc deeper) w 0 d f db budget done e

pub nested_counts : (depth : ℕ) (w : Context) (trigger : ℕ) (d : DataStatement) (f : Frame) (db : Database) (budget : ℕ) (done : Finished)
    → nested_level depth w trigger d f db budget ≡ Ok done → done.database.count ≡ db.count + nested_total sizes depth w trigger d f db budget
nested_counts depth w trigger d f db budget done e = (nested_took depth w trigger d f db budget done e).counted

pub level_counts : (deeper : ℕ) (w : Context) (d : DataStatement) (f : Frame) (db : Database) (budget : ℕ) (done : Finished)
    → level deeper w d f db budget ≡ Ok done → done.database.count ≡ db.count + total sizes deeper w d f db budget
level_counts deeper w d f db budget done e = nested_counts (suc deeper) w 0 d f db budget done e
