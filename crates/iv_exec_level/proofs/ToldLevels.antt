-- The steps of a level are told.
use Rattle.std.proofs.Common.{◌≡◌, refl, ℕ, zero, suc, ◌-◌, Bool, true, false, List, Option, Some, Result, Ok, Err, MatchBool, ap, sym, ◌∙◌, arith}
use Rattle.iv_expr.specs.declared.row.Change.{Change}
use Rattle.iv_expr.specs.declared.wave.TableColumn.{TableColumn}
use Rattle.iv_expr.specs.Changes.{Wave}
use Rattle.iv_expr.specs.Scopes.{Frame}
use Rattle.iv_catalogue.specs.Refusals.{is_memory_cause}
use Rattle.iv_catalogue.specs.declared.cause.Refusal.{Refusal}
use Rattle.iv_catalogue.specs.declared.plan.DataStatement.{DataStatement}
use Rattle.iv_catalogue.specs.declared.plan.Trigger.{Trigger}
use Rattle.iv_machine.specs.declared.database.Database.{Database}
use Rattle.iv_machine.specs.Context.{Context}
use Rattle.iv_machine.specs.Levels.{Runs, Progress, firings, immediate_check, level_columns, nested_level}
use Rattle.iv_machine.specs.Proposals.{set_columns}
use Rattle.iv_machine.specs.Waves.{net_wave, settled_waves}
use Rattle.iv_exec_triggers.specs.ByTable.{all_firings}
use Rattle.iv_laws_rows.specs.Changing.{UnlessMemory}
use Rattle.iv_exec_context.proofs.Answers.{unless_memory}
use Rattle.iv_exec_waves.specs.Steps.{wave_with}
use Rattle.iv_account.specs.Accounts.{Tells as Telling, check_told, finished_told, firings_told, level_told, nested_told, waves_and_after_told, waves_told}
use Rattle.iv_account.specs.Telling.{Account, and_told}
use Rattle.iv_account.proofs.Telling.{then_on}
use Rattle.iv_exec_level.specs.Settled.{SettledLevel, Tells}
use Rattle.iv_exec_level.specs.Steps.{progress}
use Rattle.iv_exec_level.specs.declared.start.LevelChanges.{LevelChanges}
use Rattle.iv_exec_level.proofs.Levels.{same_firings}

-- what holds unless an allocation failed, holds in other words
pub unless_as : {A : Type 0} (r : Result A Refusal) (P Q : Type 0) → (P → Q) → UnlessMemory r P → UnlessMemory r Q
unless_as (Ok a) P Q f p = f p
unless_as (Err e) P Q f p = unless_memory (is_memory_cause e.cause) P Q f p

module _ (run : Runs) (tell : Telling) where
  -- ---- the check and the triggers

  module _ (w : Context) (d : DataStatement) (columns : List TableColumn) (net : Wave) (at : Progress) (account checked : Account)
      (check : immediate_check w at.database ≡ Ok tt) (told : checked ≡ and_told account (check_told w at.database)) where
    pub finished_told_is : (x : LevelChanges) (triggers : List Trigger) (later : Account) → Tells w d columns net (Some x) → triggers ≡ w.schema.triggers
        → later ≡ and_told checked (firings_told run tell (all_firings d x.columns.items x.transitions triggers) at)
        → later ≡ and_told account (finished_told run tell w d columns net at)
    finished_told_is x triggers later h e fired =
        then_on account checked later (check_told w at.database) (immediate_check w at.database) tt (λ _. firings_told run tell (firings w d columns net) at) check told
        (fired ∙ ap (λ xs. and_told checked (firings_told run tell xs at)) (same_firings w d x.columns.items columns x.transitions net triggers h.0 h.1 e))

  -- ---- the waves and what comes after them

  module _ (w : Context) (d : DataStatement) (db last : Database) (budget rest : ℕ) (changes : List Change) (names : Option LevelChanges) (account settled later : Account)
      (h : SettledLevel w d db budget changes last rest names) (told : settled ≡ and_told account (waves_told w db budget (wave_with (set_columns d) changes))) where
    pub waves_done_told : ((columns : List TableColumn) (net : Wave) → Tells w d columns net names → later ≡ and_told settled (finished_told run tell w d columns net (progress last rest)))
        → later ≡ and_told account (waves_and_after_told run tell w d db budget (wave_with (set_columns d) changes))
    waves_done_told f =
        then_on account settled later (waves_told w db budget (wave_with (set_columns d) changes)) (settled_waves w db budget (wave_with (set_columns d) changes))
        (record { last = last; waves = h.waves; rest = rest })
        (λ s. finished_told run tell w d (level_columns d s.waves) (net_wave db.rows s.last.rows s.waves) (progress s.last s.rest))
        h.is told (f (level_columns d h.waves) (net_wave db.rows last.rows h.waves) h.tells)

    pub waves_refused_told : (memory : Bool)
        → ((columns : List TableColumn) (net : Wave) → Tells w d columns net names
        → MatchBool memory (Unit {0}) (later ≡ and_told settled (finished_told run tell w d columns net (progress last rest))))
        → MatchBool memory (Unit {0}) (later ≡ and_told account (waves_and_after_told run tell w d db budget (wave_with (set_columns d) changes)))
    waves_refused_told true f = tt
    waves_refused_told false f = waves_done_told f

-- a nested level is told as a level that is one less deep
nested_told_opens : (deeper : ℕ) (w : Context) (trigger : ℕ) (d : DataStatement) (f : Frame) (db : Database) (budget : ℕ) → (deeper ≡ 0 → ⊥)
    → nested_told deeper w trigger d f db budget ≡ level_told (nested_level (deeper - 1) w) (nested_told (deeper - 1) w) w d f db budget
nested_told_opens zero w trigger d f db budget e = absurd (e refl)
nested_told_opens (suc deeper) w trigger d f db budget e =
    let less : suc deeper - 1 ≡ deeper = omega arith in
    ap (λ n. level_told (nested_level n w) (nested_told n w) w d f db budget) (sym less)

pub nested_told_as : {A : Type 0} (r : Result A Refusal) (deeper : ℕ) (w : Context) (trigger : ℕ) (d : DataStatement) (f : Frame) (db : Database) (budget : ℕ) (account later : Account) → (deeper ≡ 0 → ⊥)
    → UnlessMemory r (later ≡ and_told account (level_told (nested_level (deeper - 1) w) (nested_told (deeper - 1) w) w d f db budget))
    → UnlessMemory r (later ≡ and_told account (nested_told deeper w trigger d f db budget))
nested_told_as r deeper w trigger d f db budget account later e told =
    unless_as r (later ≡ and_told account (level_told (nested_level (deeper - 1) w) (nested_told (deeper - 1) w) w d f db budget))
    (later ≡ and_told account (nested_told deeper w trigger d f db budget))
    (λ h. h ∙ ap (and_told account) (sym (nested_told_opens deeper w trigger d f db budget e))) told
