-- A data statement that fits, with all that follows from it, leaves rows that fit.
use Rattle.std.proofs.Common.{◌≡◌, ℕ, zero, suc, ◌+◌, Bool, true, false, if◌then◌else◌, List, [], ◌∷◌, Some, Ok, refl, ap, subst, inl, inr}
use Rattle.std.specs.List.{enumerate_from}
use Rattle.iv_expr.specs.Scopes.{Frame, scope_of}
use Rattle.iv_laws_rows.specs.Types.{Table, BodyStatement, DataStatement, Database}
use Rattle.iv_laws_rows.specs.Types.body
use Rattle.iv_machine.specs.Context.{Context, over}
use Rattle.iv_machine.specs.Proposals.{holds}
use Rattle.iv_machine.specs.BeforeTriggers.{placed_statements}
use Rattle.iv_machine.specs.Waves.{net_wave}
use Rattle.iv_machine.specs.Levels.{Firing, Finished, Progress, Runs, statement_run, body_run, firing_run, firings_run, firings, level_columns, nested_level}
use Rattle.iv_laws_fitting.specs.ConstraintShapes.{SchemaSuits}
use Rattle.iv_laws_levels.specs.FittingWaves.{Numbered}
use Rattle.iv_laws_levels.proofs.Chains.{not_ok, ok_same, step_of, ok_inside}
use Rattle.iv_laws_levels.proofs.Firings.{Steps, steps_of}
use Rattle.iv_laws_levels.proofs.FittingWaves.{waves_are_a_chain, chain_ends}
use Rattle.iv_laws_levels.proofs.Members.{In}
use Rattle.iv_laws_levels.proofs.Readying.{changes_of_proposed}
use Rattle.iv_laws_rows.specs.RowFits.{rows_fit, StatementFits, BodyFits}
use Rattle.iv_laws_rows.specs.Laws.{LevelsKeepRowsFitting, NestedLevelsKeepRowsFitting}
use Rattle.iv_laws_rows.proofs.FittingProposals.{proposals_fit}
use Rattle.iv_laws_rows.proofs.FittingFrames.{firing_fits, all_firings_suit}
use Rattle.iv_laws_rows.proofs.NetRows.{net_changes_fit}
use Rattle.iv_laws_rows.proofs.SettledRows.{settled_waves_fit}

-- ---- what statements that fit keep, the triggers that fire keep

-- of a database and a budget: what data statements keep that fit what they see
abbrev pub KeepsWhereFits : List Table → (Database → ℕ → Type 0) → Runs → Type 0
KeepsWhereFits tables P run =
    (trigger : ℕ) (d : DataStatement) (f : Frame) (db : Database) (budget : ℕ) (done : Finished)
    → StatementFits tables f d → run trigger d f db budget ≡ Ok done → P db budget → P done.database done.rest

module _ (tables : List Table) (P : Database → ℕ → Type 0) (run : Runs) (keeps : KeepsWhereFits tables P run) where
  pub statement_keeps : (x : Firing) (place : ℕ) (statement : BodyStatement) (at after : Progress)
      → ((d : DataStatement) → statement ≡ body.Data d → StatementFits tables x.frame d)
      → statement_run run x place statement at ≡ Ok after → P at.database at.budget → P after.database after.budget
  statement_keeps x place (body.Data d) at after u e h =
      let done = step_of (run x.trigger.id d x.frame at.database at.budget) _ after e in
      subst (λ s. P s.database s.budget) (ok_same _ after done.2) (keeps x.trigger.id d x.frame at.database at.budget done.0 (u d refl) done.1 h)
  statement_keeps x place (body.Signal text) at after u e h = absurd (not_ok _ after e)
  statement_keeps x place (body.Set s) at after u e h = subst (λ s. P s.database s.budget) (ok_same at after e) h

  body_keeps : (x : Firing) (place : ℕ) (statements : List BodyStatement) (at after : Progress)
      → BodyFits tables x.frame statements → body_run run x (enumerate_from place statements) at ≡ Ok after
      → P at.database at.budget → P after.database after.budget
  body_keeps x place [] at after u e h = subst (λ s. P s.database s.budget) (ok_same at after e) h
  body_keeps x place (statement ∷ rest) at after u e h =
      let one = step_of (statement_run run x place statement at) _ after e in
      body_keeps x (place + 1) rest one.0 after (λ j. u (suc j)) one.2
      (statement_keeps x place statement at one.0 (λ d is. u zero d (ap (λ (b : BodyStatement). Some b) is)) one.1 h)

  body_keeps_where : (x : Firing) (fires : Bool) (at after : Progress)
      → BodyFits tables x.frame x.trigger.body → (if fires then body_run run x (placed_statements x.trigger) at else Ok at) ≡ Ok after
      → P at.database at.budget → P after.database after.budget
  body_keeps_where x true at after u e h = body_keeps x 1 x.trigger.body at after u e h
  body_keeps_where x false at after u e h = subst (λ s. P s.database s.budget) (ok_same at after e) h

  pub fired_keeps : (x : Firing) (at after : Progress) → BodyFits tables x.frame x.trigger.body → firing_run run x at ≡ Ok after
      → P at.database at.budget → P after.database after.budget
  fired_keeps x at after u e h =
      let one = step_of (over at.database (holds (scope_of x.frame at.database.rows) x.trigger.when)) _ after (ok_inside x.trigger.id _ after e) in
      body_keeps_where x one.0 at after u one.2 h

  pub all_fired_keeps_fitting : (xs : List Firing) (at after : Progress) → ((x : Firing) → In x xs → BodyFits tables x.frame x.trigger.body)
      → firings_run run xs at ≡ Ok after → P at.database at.budget → P after.database after.budget
  all_fired_keeps_fitting [] at after u e h = subst (λ s. P s.database s.budget) (ok_same at after e) h
  all_fired_keeps_fitting (x ∷ xs) at after u e h =
      let one = step_of (firing_run run x at) _ after e in
      all_fired_keeps_fitting xs one.0 after (λ y i. u y (inr i)) one.2 (fired_keeps x at one.0 (u x (inl refl)) one.1 h)

-- ---- levels

-- the rows fit, and have rising numbers
abbrev pub IsFitting : Context → Database → ℕ → Type 0
IsFitting w db budget = Numbered db × (rows_fit w.schema.tables db.rows ≡ true)

steps_fit : (run : Runs) (w : Context) (d : DataStatement) (f : Frame) (db : Database) (budget : ℕ) (done : Finished)
    → KeepsWhereFits w.schema.tables (IsFitting w) run → SchemaSuits w.schema → StatementFits w.schema.tables f d
    → IsFitting w db budget → Steps run w d f db budget done → IsFitting w done.database done.rest
steps_fit run w d f db budget done keeps suits fits h s =
    let proposes = proposals_fit w db f d s.wave.changes suits.tables h.1 fits (changes_of_proposed w db f d s.wave s.is_proposed) in
    let chain = waves_are_a_chain w d f db budget s.wave s.waves h.0 s.is_proposed s.is_settled in
    let settles = settled_waves_fit w d f db budget s.wave s.waves suits h.0 h.1 proposes s.is_proposed s.is_settled in
    let net = net_changes_fit w.schema.tables db s.waves.last s.waves.waves chain h.1 settles.0 in
    let kept = all_fired_keeps_fitting w.schema.tables (IsFitting w) run keeps
    (firings w d (level_columns d s.waves.waves) (net_wave db.rows s.waves.last.rows s.waves.waves)) (record { database = s.waves.last; budget = s.waves.rest }) s.progress
    (λ x i. firing_fits w.schema.tables x (all_firings_suit w d (level_columns d s.waves.waves) (net_wave db.rows s.waves.last.rows s.waves.waves) x suits.triggers net i))
    s.is_fired (chain_ends db s.waves.last s.waves.waves chain, settles.0) in
    subst (λ x. IsFitting w x.database x.rest) s.is_done kept

pub nested_fits : (depth : ℕ) (w : Context) (trigger : ℕ) (d : DataStatement) (f : Frame) (db : Database) (budget : ℕ) (done : Finished)
    → SchemaSuits w.schema → StatementFits w.schema.tables f d → nested_level depth w trigger d f db budget ≡ Ok done
    → IsFitting w db budget → IsFitting w done.database done.rest
nested_fits zero w trigger d f db budget done suits fits e h = absurd (not_ok _ done e)
nested_fits (suc depth) w trigger d f db zero done suits fits e h = absurd (not_ok _ done e)
nested_fits (suc depth) w trigger d f db (suc budget) done suits fits e h =
    steps_fit (nested_level depth w) w d f db budget done
    (λ trigger' d' f' db' budget' done' fits' e' h'. nested_fits depth w trigger' d' f' db' budget' done' suits fits' e' h') suits fits h
    (steps_of (nested_level depth w) w d f db budget done e)

pub nested_levels_keep_rows : NestedLevelsKeepRowsFitting
nested_levels_keep_rows depth w trigger d f db budget done suits numbered h fits e =
    (nested_fits depth w trigger d f db budget done suits fits e (numbered, h)).1

pub levels_keep_rows : LevelsKeepRowsFitting
levels_keep_rows deeper w d f db budget done suits numbered h fits e =
    nested_levels_keep_rows (suc deeper) w 0 d f db budget done suits numbered h fits e
