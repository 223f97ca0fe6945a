-- The steps of a level put together.
use Rattle.std.proofs.Common.{◌≡◌, refl, ℕ, zero, suc, ◌-◌, Bool, true, List, [], length, Option, Some, None, Result, Ok, Err, MatchBool, ap, sym, ◌∙◌, arith}
use Rattle.iv_expr.specs.declared.row.Change.{Change}
use Rattle.iv_expr.specs.declared.wave.TableColumn.{TableColumn}
use Rattle.iv_expr.specs.Changes.{Wave}
use Rattle.iv_expr.specs.Evaluation.{and_then}
use Rattle.iv_expr.specs.Scopes.{Frame}
use Rattle.iv_catalogue.specs.declared.catalogue.Table.{Table}
use Rattle.iv_catalogue.specs.declared.plan.DataStatement.{DataStatement}
use Rattle.iv_catalogue.specs.declared.plan.Trigger.{Trigger}
use Rattle.iv_machine.specs.declared.database.Database.{Database}
use Rattle.iv_machine.specs.BeforeTriggers.{before_statement}
use Rattle.iv_machine.specs.Context.{Context, Failure, over, with_count}
use Rattle.iv_machine.specs.Databases.{size}
use Rattle.iv_machine.specs.Levels.{Finished, Runs, Progress, firings, firings_run, immediate_check, level, level_columns, level_steps, nested_level}
use Rattle.iv_machine.specs.Proposals.{proposed_wave, set_columns}
use Rattle.iv_machine.specs.Waves.{SettledWaves, net_wave, settled_waves}
use Rattle.iv_exec_triggers.specs.ByTable.{ByTableAndEvent, all_firings}
use Rattle.iv_exec_triggers.proofs.FiringsByTable.{firings_parted}
use Rattle.iv_exec_triggers.proofs.NamedColumns.{firings_by_name}
use Rattle.iv_laws_rows.specs.RowFits.{wave_fits}
use Rattle.iv_exec_context.proofs.Answers.{unless_memory}
use Rattle.iv_exec_level.specs.Steps.{allowed_wave, finished, progress, waves_and_after}
use Rattle.iv_exec_level.specs.Firing.{MayBeParts}
use Rattle.iv_exec_level.specs.Settled.{SameColumns, SettledLevel, Tells}
use Rattle.iv_exec_level.specs.declared.start.LevelChanges.{LevelChanges}
use Rattle.iv_exec_waves.specs.Steps.{wave_with}

-- ---- the check and the triggers

abbrev then_fired : Runs → Context → DataStatement → List TableColumn → Wave → Progress → Result (Unit {0}) Failure → Result Progress Failure
then_fired run w d columns net at r = and_then r (λ _. firings_run run (firings w d columns net) at)

pub same_firings : (w : Context) (d : DataStatement) (own columns : List TableColumn) (parts : List (List Change)) (net : Wave) (triggers : List Trigger)
    → SameColumns own columns → ByTableAndEvent parts net.changes → triggers ≡ w.schema.triggers → all_firings d own parts triggers ≡ firings w d columns net
same_firings w d own columns parts net triggers same h e =
    ap (all_firings d own parts) e ∙ firings_parted w d own parts net h ∙ firings_by_name w d own columns net same

pub finished_is : (run : Runs) (w : Context) (d : DataStatement) (columns : List TableColumn) (x : LevelChanges) (net : Wave) (triggers : List Trigger) (at : Progress) (r : Result Progress Failure)
    → immediate_check w at.database ≡ Ok tt → Tells w d columns net (Some x) → triggers ≡ w.schema.triggers
    → firings_run run (all_firings d x.columns.items x.transitions triggers) at ≡ r → finished run w d columns net at ≡ r
finished_is run w d columns x net triggers at r check h e fired =
    ap (then_fired run w d columns net at) check
    ∙ ap (λ xs. firings_run run xs at) (sym (same_firings w d x.columns.items columns x.transitions net triggers h.0 h.1 e)) ∙ fired

-- no trigger fires
pub finished_quietly : (run : Runs) (w : Context) (d : DataStatement) (columns : List TableColumn) (net : Wave) (at : Progress)
    → immediate_check w at.database ≡ Ok tt → firings w d columns net ≡ [] → finished run w d columns net at ≡ Ok at
finished_quietly run w d columns net at check quiet = ap (then_fired run w d columns net at) check ∙ ap (λ xs. firings_run run xs at) quiet

-- the net changes by table and event fit, if they were made
pub parts_fit : (w : Context) (d : DataStatement) (tables : List Table) (columns : List TableColumn) (net : Wave) (told : Option LevelChanges)
    → wave_fits tables net ≡ true → Tells w d columns net told → MayBeParts tables told
parts_fit w d tables columns net None fit h = tt
parts_fit w d tables columns net (Some x) fit h = record { net = net; fit = fit; by_table = h.1 }

-- ---- the waves and what comes after them

abbrev done : ℕ → Progress → Finished
done n at = record { database = at.database; rest = at.budget; size = n }

abbrev then_finished : Runs → Context → DataStatement → Database → ℕ → Result SettledWaves Failure → Result Finished Failure
then_finished run w d db n r =
    and_then r (λ s.
    and_then (finished run w d (level_columns d s.waves) (net_wave db.rows s.last.rows s.waves) (progress s.last s.rest)) (λ at. Ok (done n at)))

pub waves_done : (run : Runs) (w : Context) (d : DataStatement) (db last : Database) (budget rest : ℕ) (changes : List Change) (told : Option LevelChanges) (n : ℕ) (at : Progress)
    → SettledLevel w d db budget changes last rest told → n ≡ length changes
    → ((columns : List TableColumn) (net : Wave) → Tells w d columns net told → finished run w d columns net (progress last rest) ≡ Ok at)
    → waves_and_after run w d db budget (wave_with (set_columns d) changes) ≡ Ok (record { database = at.database; rest = at.budget; size = n })
waves_done run w d db last budget rest changes told n at h same f =
    ap (then_finished run w d db (length changes)) h.is
    ∙ ap (λ r. and_then {B = Finished} r (λ x. Ok (done (length changes) x))) (f (level_columns d h.waves) (net_wave db.rows last.rows h.waves) h.tells)
    ∙ (λ i. Ok (done (sym same i) at))

pub waves_refused : (memory : Bool) (run : Runs) (w : Context) (d : DataStatement) (db last : Database) (budget rest : ℕ) (changes : List Change) (told : Option LevelChanges) (failure : Failure)
    → SettledLevel w d db budget changes last rest told
    → ((columns : List TableColumn) (net : Wave) → Tells w d columns net told → MatchBool memory (Unit {0}) (finished run w d columns net (progress last rest) ≡ Err failure))
    → MatchBool memory (Unit {0}) (waves_and_after run w d db budget (wave_with (set_columns d) changes) ≡ Err failure)
waves_refused memory run w d db last budget rest changes told failure h f =
    unless_memory memory (finished run w d (level_columns d h.waves) (net_wave db.rows last.rows h.waves) (progress last rest) ≡ Err failure)
    (waves_and_after run w d db budget (wave_with (set_columns d) changes) ≡ Err failure)
    (λ e. ap (then_finished run w d db (length changes)) h.is ∙ ap (λ r. and_then {B = Finished} r (λ x. Ok (done (length changes) x))) e)
    (f (level_columns d h.waves) (net_wave db.rows last.rows h.waves) h.tells)

pub settling_refused : (memory : Bool) (run : Runs) (w : Context) (d : DataStatement) (db : Database) (budget : ℕ) (changes : List Change) (failure : Failure)
    → MatchBool memory (Unit {0}) (settled_waves w db budget (wave_with (set_columns d) changes) ≡ Err failure)
    → MatchBool memory (Unit {0}) (waves_and_after run w d db budget (wave_with (set_columns d) changes) ≡ Err failure)
settling_refused memory run w d db budget changes failure h =
    unless_memory memory (settled_waves w db budget (wave_with (set_columns d) changes) ≡ Err failure) (waves_and_after run w d db budget (wave_with (set_columns d) changes) ≡ Err failure)
    (λ e. ap (then_finished run w d db (length changes)) e) h

-- ---- a level

assoc : {A B C E : Type 0} (r : Result A E) (f : A → Result B E) (g : B → Result C E) → and_then (and_then r f) g ≡ and_then r (λ x. and_then (f x) g)
assoc (Ok x) f g = refl
assoc (Err e) f g = refl

same_then : {A B E : Type 0} (r : Result A E) (f g : A → Result B E) → ((x : A) → f x ≡ g x) → and_then r f ≡ and_then r g
same_then (Ok x) f g h = h x
same_then (Err e) f g h = refl

-- the steps after a proposal that was allowed
abbrev waves_in_one : Runs → Context → DataStatement → Database → ℕ → Wave → Result Finished Failure
waves_in_one run w d db budget wave =
    and_then (settled_waves w db budget wave) (λ s.
    and_then (immediate_check w s.last) (λ _.
    and_then (firings_run run (firings w d (level_columns d s.waves) (net_wave db.rows s.last.rows s.waves)) (progress s.last s.rest)) (λ at. Ok (done (size wave) at))))

in_two : (run : Runs) (w : Context) (d : DataStatement) (db : Database) (budget : ℕ) (wave : Wave)
    → waves_in_one run w d db budget wave ≡ waves_and_after run w d db budget wave
in_two run w d db budget wave =
    same_then (settled_waves w db budget wave) _ _ (λ s.
    sym (assoc (immediate_check w s.last) (λ _. firings_run run (firings w d (level_columns d s.waves) (net_wave db.rows s.last.rows s.waves)) (progress s.last s.rest)) (λ at. Ok (done (size wave) at))))

abbrev before : Context → DataStatement → Database → Result (Unit {0}) Failure
before w d db = with_count db (before_statement w db.rows d)

regrouped : (run : Runs) (w : Context) (d : DataStatement) (f : Frame) (db : Database) (budget : ℕ)
    → level_steps run w d f db budget ≡ and_then (allowed_wave w d f db) (waves_and_after run w d db budget)
regrouped run w d f db budget =
    same_then (over db (proposed_wave w db f d)) _ (λ wave. and_then (and_then (before w d db) (λ _. Ok wave)) (waves_and_after run w d db budget))
    (λ wave.
    same_then (before w d db) (λ _. waves_in_one run w d db budget wave) (λ _. waves_and_after run w d db budget wave) (λ _. in_two run w d db budget wave)
    ∙ sym (assoc (before w d db) (λ _. Ok wave) (waves_and_after run w d db budget)))
    ∙ sym (assoc (over db (proposed_wave w db f d)) (λ wave. and_then (before w d db) (λ _. Ok wave)) (waves_and_after run w d db budget))

pub level_opens : (deeper : ℕ) (w : Context) (d : DataStatement) (f : Frame) (db : Database) (budget : ℕ) → (budget ≡ 0 → ⊥)
    → level deeper w d f db budget ≡ and_then (allowed_wave w d f db) (waves_and_after (nested_level deeper w) w d db (budget - 1))
level_opens deeper w d f db zero e = absurd (e refl)
level_opens deeper w d f db (suc budget) e =
    let less : suc budget - 1 ≡ budget = omega arith in
    regrouped (nested_level deeper w) w d f db budget ∙ ap (λ n. and_then (allowed_wave w d f db) (waves_and_after (nested_level deeper w) w d db n)) (sym less)

pub level_done : (deeper : ℕ) (w : Context) (d : DataStatement) (f : Frame) (db : Database) (budget : ℕ) (wave : Wave) (r : Result Finished Failure) → (budget ≡ 0 → ⊥)
    → allowed_wave w d f db ≡ Ok wave → waves_and_after (nested_level deeper w) w d db (budget - 1) wave ≡ r → level deeper w d f db budget ≡ r
level_done deeper w d f db budget wave r e a h =
    level_opens deeper w d f db budget e ∙ ap (λ x. and_then x (waves_and_after (nested_level deeper w) w d db (budget - 1))) a ∙ h

pub level_not_allowed : (memory : Bool) (deeper : ℕ) (w : Context) (d : DataStatement) (f : Frame) (db : Database) (budget : ℕ) (failure : Failure) → (budget ≡ 0 → ⊥)
    → MatchBool memory (Unit {0}) (allowed_wave w d f db ≡ Err failure) → MatchBool memory (Unit {0}) (level deeper w d f db budget ≡ Err failure)
level_not_allowed memory deeper w d f db budget failure e h =
    unless_memory memory (allowed_wave w d f db ≡ Err failure) (level deeper w d f db budget ≡ Err failure)
    (λ a. level_opens deeper w d f db budget e ∙ ap (λ x. and_then x (waves_and_after (nested_level deeper w) w d db (budget - 1))) a) h

-- a nested level is a level that is one less deep
pub nested_opens : (deeper : ℕ) (w : Context) (trigger : ℕ) (d : DataStatement) (f : Frame) (db : Database) (budget : ℕ) → (deeper ≡ 0 → ⊥)
    → nested_level deeper w trigger d f db budget ≡ level (deeper - 1) w d f db budget
nested_opens zero w trigger d f db budget e = absurd (e refl)
nested_opens (suc deeper) w trigger d f db budget e =
    let less : suc deeper - 1 ≡ deeper = omega arith in
    ap (λ n. level n w d f db budget) (sym less)
