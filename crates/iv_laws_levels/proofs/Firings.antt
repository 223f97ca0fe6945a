-- What every data statement of a trigger's body keeps, the triggers that fire keep, and so does the level that fires them.
use Rattle.std.proofs.Common.{◌≡◌, ℕ, Bool, true, false, if◌then◌else◌, List, [], ◌∷◌, Ok, subst}
use Rattle.iv_expr.specs.Changes.{Wave}
use Rattle.iv_expr.specs.Scopes.{Frame, scope_of}
use Rattle.iv_laws_levels.specs.Types.{BodyStatement, DataStatement, Database}
use Rattle.iv_laws_levels.specs.Types.body
use Rattle.iv_machine.specs.Databases.{size}
use Rattle.iv_machine.specs.Context.{Context, over, with_count}
use Rattle.iv_machine.specs.Proposals.{holds, proposed_wave}
use Rattle.iv_machine.specs.BeforeTriggers.{placed_statements, before_statement}
use Rattle.iv_machine.specs.Waves.{SettledWaves, settled_waves, net_wave}
use Rattle.iv_machine.specs.Levels.{Firing, Finished, Progress, Runs, statement_run, body_run, firing_run, firings_run, level_columns, firings, immediate_check, level_steps}
use Rattle.iv_laws_levels.proofs.Chains.{not_ok, ok_same, step_of, ok_inside, ok_over}

-- of a database and a budget: what these data statements keep
abbrev pub Keeps : (Database → ℕ → Type 0) → Runs → Type 0
Keeps P run =
    (trigger : ℕ) (d : DataStatement) (f : Frame) (db : Database) (budget : ℕ) (done : Finished)
    → run trigger d f db budget ≡ Ok done → P db budget → P done.database done.rest

module _ (P : Database → ℕ → Type 0) (run : Runs) (keeps : Keeps P run) where
  pub body_keeps : (x : Firing) (statements : List (ℕ × BodyStatement)) (at after : Progress)
      → body_run run x statements at ≡ Ok after → P at.database at.budget → P after.database after.budget
  body_keeps x [] at after e h = subst (λ s. P s.database s.budget) (ok_same at after e) h
  body_keeps x (s ∷ rest) at after e h =
      let one = step_of (statement_run run x s.0 s.1 at) _ after e in
      body_keeps x rest one.0 after one.2 (statement_keeps s.0 s.1 one.0 one.1)
    where
      statement_keeps : (place : ℕ) (statement : BodyStatement) (next : Progress) → statement_run run x place statement at ≡ Ok next → P next.database next.budget
      statement_keeps place (body.Data d) next f =
          let done = step_of (run x.trigger.id d x.frame at.database at.budget) _ next f in
          subst (λ s. P s.database s.budget) (ok_same _ next done.2) (keeps x.trigger.id d x.frame at.database at.budget done.0 done.1 h)
      statement_keeps place (body.Signal text) next f = absurd (not_ok _ next f)
      statement_keeps place (body.Set _) next f = subst (λ s. P s.database s.budget) (ok_same at next f) h

  body_keeps_where : (x : Firing) (fires : Bool) (at after : Progress)
      → (if fires then body_run run x (placed_statements x.trigger) at else Ok at) ≡ Ok after → P at.database at.budget → P after.database after.budget
  body_keeps_where x true at after e h = body_keeps x (placed_statements x.trigger) at after e h
  body_keeps_where x false at after e h = subst (λ s. P s.database s.budget) (ok_same at after e) h

  pub fired_keeps : (x : Firing) (at after : Progress) → firing_run run x at ≡ Ok after → P at.database at.budget → P after.database after.budget
  fired_keeps x at after e h =
      let one = step_of (over at.database (holds (scope_of x.frame at.database.rows) x.trigger.when)) _ after (ok_inside x.trigger.id _ after e) in
      body_keeps_where x one.0 at after one.2 h

  pub all_fired_keeps : (xs : List Firing) (at after : Progress) → firings_run run xs at ≡ Ok after → P at.database at.budget → P after.database after.budget
  all_fired_keeps [] at after e h = subst (λ s. P s.database s.budget) (ok_same at after e) h
  all_fired_keeps (x ∷ xs) at after e h =
      let one = step_of (firing_run run x at) _ after e in
      all_fired_keeps xs one.0 after one.2 (fired_keeps x at one.0 one.1 h)

-- The steps of a level that was accepted.
pub record Steps (run : Runs) (w : Context) (d : DataStatement) (f : Frame) (db : Database) (budget : ℕ) (done : Finished) : Type 0 where
  pub wave : Wave
  pub waves : SettledWaves
  pub progress : Progress
  pub is_proposed : proposed_wave w db f d ≡ Ok wave
  pub is_settled : settled_waves w db budget wave ≡ Ok waves
  pub is_checked : immediate_check w waves.last ≡ Ok (tt {0})
  pub is_fired : firings_run run (firings w d (level_columns d waves.waves) (net_wave db.rows waves.last.rows waves.waves)) (record { database = waves.last; budget = waves.rest }) ≡ Ok progress
  pub is_done : record { database = progress.database; rest = progress.budget; size = size wave } ≡ done

pub steps_of : (run : Runs) (w : Context) (d : DataStatement) (f : Frame) (db : Database) (budget : ℕ) (done : Finished)
    → level_steps run w d f db budget ≡ Ok done → Steps run w d f db budget done
steps_of run w d f db budget done e =
    let wave = step_of (over db (proposed_wave w db f d)) _ done e in
    let said = step_of (with_count db (before_statement w db.rows d)) _ done wave.2 in
    let settling = step_of (settled_waves w db budget wave.0) _ done said.2 in
    let checking = step_of (immediate_check w settling.0.last) _ done settling.2 in
    let firing = step_of (firings_run run (firings w d (level_columns d settling.0.waves) (net_wave db.rows settling.0.last.rows settling.0.waves)) (record { database = settling.0.last; budget = settling.0.rest })) _ done checking.2 in
    record {
      wave = wave.0;
      waves = settling.0;
      progress = firing.0;
      is_proposed = ok_over db (proposed_wave w db f d) wave.0 wave.1;
      is_settled = settling.1;
      is_checked = checking.1;
      is_fired = firing.1;
      is_done = ok_same _ done firing.2;
    }
