-- Rows are of tables that are there, and data statements that fit the catalogue keep them so.
use Rattle.std.proofs.Common.{◌≡◌, ℕ, zero, suc, ◌+◌, ◌<◌, ◌≤◌, true, false, if◌then◌else◌, List, [], ◌∷◌, length, map, is_none, Result, Ok, subst, arith}
use Rattle.iv_laws_levels.specs.Types.{Value, StoredRow, Change, DataStatement, Database}
use Rattle.iv_laws_levels.specs.Types.data_statement
use Rattle.iv_expr.specs.Changes.{Wave}
use Rattle.iv_expr.specs.declared.tree.ExprFault.{ExprFault}
use Rattle.iv_expr.specs.Evaluation.{value}
use Rattle.iv_expr.specs.Scopes.{Scope, Frame, scope_of, range_rows}
use Rattle.iv_catalogue.specs.declared.plan.InsertColumns.{InsertColumns}
use Rattle.iv_catalogue.specs.declared.plan.InsertRows.{InsertRows}
use Rattle.iv_catalogue.specs.declared.plan.InsertRows.TheVariants as rows
use Rattle.iv_machine.specs.Context.{Context, each}
use Rattle.iv_machine.specs.Databases.{database_after}
use Rattle.iv_machine.specs.Proposals.{where_true, stored_values, values_by_column, row_of_values, insertion, insertion_of, outputs_of, proposed_insertions, proposed_changes, table_of}
use Rattle.iv_machine.specs.ReferentialActions.{lost_keys, following_wave, next_wave}
use Rattle.iv_machine.specs.Waves.{with_numbers, wave_as_applied, SettledWaves, settled_waves, net_wave}
use Rattle.iv_machine.specs.Levels.{Finished, Runs, level_columns, firings, nested_level, level}
use Rattle.iv_machine.specs.Invariants.{Below}
use Rattle.iv_laws_levels.specs.Reorderings.{after_changes}
use Rattle.iv_laws_levels.specs.RisingRows.{Every}
use Rattle.iv_laws_levels.specs.Reached.{IsThere}
use Rattle.iv_laws_levels.proofs.Chains.{not_ok, ok_same, step_of}
use Rattle.iv_laws_levels.proofs.Firings.{Steps, steps_of}
use Rattle.iv_laws_levels.proofs.Settling.{every_settled}
use Rattle.iv_laws_levels.proofs.AppliedRows.{news}
use Rattle.iv_laws_levels.proofs.NumberedRows.{every_after, every_side}
use Rattle.iv_laws_levels.proofs.BeforeRows.{AllAlike, applied_alike}
use Rattle.iv_laws_levels.proofs.Drawn.{Drawn, nothing, passed, taken}
use Rattle.iv_laws_levels.proofs.Readying.{OfRow, update_drawn, delete_drawn, next_wave_drawn, followed_is, changes_of_proposed}
use Rattle.iv_laws_levels.proofs.FittingBodies.{TriggersFit, firings_fit, KeepsWhereFit, all_fired_keeps_where}

-- the rows are of tables below this number
abbrev pub Placed : ℕ → List StoredRow → Type 0
Placed n rows = Every (λ r. r.table < n) rows

pub placed_below : (n : ℕ) (rows : List StoredRow) → Placed n rows → Below n rows
placed_below n [] h = tt
placed_below n (r ∷ rows) h = (h.0, placed_below n rows h.1)

pub placed_more : (n m : ℕ) (rows : List StoredRow) → n ≤ m → Placed n rows → Placed m rows
placed_more n m [] le h = tt
placed_more n m (r ∷ rows) le h = (omega (arith, h.0, le), placed_more n m rows le h.1)

-- ---- waves

abbrev pub WavePlaced : ℕ → List Change → Type 0
WavePlaced n [] = Unit {0}
WavePlaced n (c ∷ wave) = (c.table < n) × WavePlaced n wave

placed_news : (n : ℕ) (wave : List Change) → WavePlaced n wave → Placed n (news wave)
placed_news n [] h = tt
placed_news n (c ∷ wave) h = every_side (λ r. r.table < n) c c.new (news wave) (λ values. h.0) (placed_news n wave h.1)

placed_applied : (n : ℕ) (db : Database) (wave : List Change) → Placed n db.rows → WavePlaced n wave → Placed n (after_changes db wave).rows
placed_applied n db wave h p = every_after (λ r. r.table < n) db.rows wave h (placed_news n wave p)

placed_drawn : (n : ℕ) (rows : List StoredRow) (wave : List Change) → Placed n rows → Drawn OfRow rows wave → WavePlaced n wave
placed_drawn n rows wave h nothing = tt
placed_drawn n rows wave h (passed {xs = more} r d) = placed_drawn n more wave h.1 d
placed_drawn n rows wave h (taken {xs = more} {ys = others} r c is d) = (omega (arith, is.table, h.0), placed_drawn n more others h.1 d)

placed_numbered : (n next : ℕ) (wave : List Change) → WavePlaced n wave → WavePlaced n (with_numbers next wave)
placed_numbered n next [] h = tt
placed_numbered n next (c ∷ wave) h =
    elim (is_none c.old) as (λ b. WavePlaced n (if b then record c { row = next } ∷ with_numbers (next + 1) wave else c ∷ with_numbers next wave)) [
      | true ↦ (h.0, placed_numbered n (next + 1) wave h.1)
      | false ↦ (h.0, placed_numbered n next wave h.1)
    ]

placed_alike : (n : ℕ) (wave other : List Change) → AllAlike wave other → WavePlaced n wave → WavePlaced n other
placed_alike n [] [] h p = tt
placed_alike n [] (d ∷ other) h p = absurd h
placed_alike n (c ∷ wave) [] h p = absurd h
placed_alike n (c ∷ wave) (d ∷ other) h p = (omega (arith, h.0.table, p.0), placed_alike n wave other h.1 p.1)

placed_as_applied : (n : ℕ) (w : Context) (db : Database) (budget : ℕ) (wave out : Wave) → WavePlaced n wave.changes
    → wave_as_applied w db budget wave ≡ Ok out → WavePlaced n out.changes
placed_as_applied n w db budget wave out p e =
    placed_alike n (with_numbers db.next wave.changes) out.changes (applied_alike w db budget wave out e) (placed_numbered n db.next wave.changes p)

placed_followed : (n : ℕ) (w : Context) (db later : Database) (next : Wave) → Placed n later.rows → following_wave w db later ≡ Ok next → WavePlaced n next.changes
placed_followed n w db later next h e =
    subst (λ x. WavePlaced n x.changes) (followed_is w db later next e).1
    (placed_drawn n later.rows (next_wave w.schema (lost_keys db.rows later.rows) db.rows later.rows).changes h
    (next_wave_drawn w.schema (lost_keys db.rows later.rows) db.rows later.rows))

placed_settled : (n : ℕ) (w : Context) (db : Database) (budget : ℕ) (wave : Wave) (s : SettledWaves)
    → settled_waves w db budget wave ≡ Ok s → Placed n db.rows → WavePlaced n wave.changes → Placed n s.last.rows
placed_settled n w db budget wave s e =
    every_settled w (λ db' budget' wave' s'. Placed n db'.rows → WavePlaced n wave'.changes → Placed n s'.last.rows)
    (λ db' budget' wave' none h p. h)
    (λ db' budget' wave' one others is_applied is_followed more h p.
    let later = placed_applied n db' one.wave.changes h (placed_as_applied n w db' budget' wave' one.wave p is_applied) in
    more later (placed_followed n w db' (database_after db' one.wave) one.next later is_followed))
    db budget wave s e

-- ---- what is proposed

placed_each : {A E : Type 0} (n : ℕ) (f : A → Result Change E) → ((x : A) (c : Change) → f x ≡ Ok c → c.table < n)
    → (xs : List A) (wave : List Change) → each f xs ≡ Ok wave → WavePlaced n wave
placed_each n f h [] wave e = subst (WavePlaced n) (ok_same [] wave e) tt
placed_each n f h (x ∷ xs) wave e =
    let one = step_of (f x) _ wave e in
    let more = step_of (each f xs) _ wave one.2 in
    subst (WavePlaced n) (ok_same (one.0 ∷ more.0) wave more.2) (h x one.0 one.1, placed_each n f h xs more.0 more.1)

placed_insertion : (n : ℕ) (w : Context) (t : ℕ) (cs : InsertColumns) (values : List (Result Value ExprFault)) (c : Change) → t < n → insertion_of w t cs values ≡ Ok c → c.table < n
placed_insertion n w t cs values c less e =
    let pairs = step_of (stored_values w t (values_by_column cs values)) _ c e in
    subst (λ x. x.table < n) (ok_same (insertion t (row_of_values w.schema t cs pairs.0)) c pairs.2) less

placed_insertions : (n : ℕ) (w : Context) (s : Scope) (t : ℕ) (cs : InsertColumns) (source : InsertRows) (wave : List Change)
    → t < n → proposed_insertions w s t cs source ≡ Ok wave → WavePlaced n wave
placed_insertions n w s t cs (rows.Values tuples) wave less e =
    placed_each n (λ es. insertion_of w t cs (map (value s) es)) (λ es c h. placed_insertion n w t cs (map (value s) es) c less h) tuples wave e
placed_insertions n w s t cs (rows.Query outputs range filter) wave less e =
    let found = step_of (where_true (λ row. row) s filter (range_rows s range)) _ wave e in
    placed_each n (λ row. insertion_of w t cs (outputs_of s outputs row)) (λ row c h. placed_insertion n w t cs (outputs_of s outputs row) c less h) found.0 wave found.2

placed_proposed : (n : ℕ) (w : Context) (db : Database) (f : Frame) (d : DataStatement) (wave : List Change)
    → table_of d < n → Placed n db.rows → proposed_changes w db f d ≡ Ok wave → WavePlaced n wave
placed_proposed n w db f (data_statement.Insert t cs source) wave less h e = placed_insertions n w (scope_of f db.rows) t cs source wave less e
placed_proposed n w db f (data_statement.Update t settings filter) wave less h e = placed_drawn n db.rows wave h (update_drawn w db f t settings filter wave e)
placed_proposed n w db f (data_statement.Delete t filter) wave less h e = placed_drawn n db.rows wave h (delete_drawn w db f t filter wave e)

-- ---- levels

-- the rows are of the catalogue's tables
abbrev pub IsPlaced : Context → Database → ℕ → Type 0
IsPlaced w db budget = Placed (length w.schema.tables) db.rows

steps_place : (run : Runs) (w : Context) (d : DataStatement) (f : Frame) (db : Database) (budget : ℕ) (done : Finished)
    → KeepsWhereFit w.schema (IsPlaced w) run → TriggersFit w.schema w.schema.triggers → IsThere w.schema (table_of d)
    → IsPlaced w db budget → Steps run w d f db budget done → IsPlaced w done.database done.rest
steps_place run w d f db budget done keeps fit there h s =
    let proposes = placed_proposed (length w.schema.tables) w db f d s.wave.changes there h (changes_of_proposed w db f d s.wave s.is_proposed) in
    let settles = placed_settled (length w.schema.tables) w db budget s.wave s.waves s.is_settled h proposes in
    let kept = all_fired_keeps_where w.schema (IsPlaced w) run keeps
    (firings w d (level_columns d s.waves.waves) (net_wave db.rows s.waves.last.rows s.waves.waves)) (record { database = s.waves.last; budget = s.waves.rest }) s.progress
    (firings_fit w d (level_columns d s.waves.waves) (net_wave db.rows s.waves.last.rows s.waves.waves) fit) s.is_fired settles in
    subst (λ x. IsPlaced w x.database x.rest) s.is_done kept

nested_places : (depth : ℕ) (w : Context) (trigger : ℕ) (d : DataStatement) (f : Frame) (db : Database) (budget : ℕ) (done : Finished)
    → TriggersFit w.schema w.schema.triggers → IsThere w.schema (table_of d) → nested_level depth w trigger d f db budget ≡ Ok done
    → IsPlaced w db budget → IsPlaced w done.database done.rest
nested_places zero w trigger d f db budget done fit there e h = absurd (not_ok _ done e)
nested_places (suc depth) w trigger d f db zero done fit there e h = absurd (not_ok _ done e)
nested_places (suc depth) w trigger d f db (suc budget) done fit there e h =
    steps_place (nested_level depth w) w d f db budget done
    (λ trigger' d' f' db' budget' done' there' e' h'. nested_places depth w trigger' d' f' db' budget' done' fit there' e' h') fit there h
    (steps_of (nested_level depth w) w d f db budget done e)

pub level_places : (deeper : ℕ) (w : Context) (d : DataStatement) (f : Frame) (db : Database) (budget : ℕ) (done : Finished)
    → TriggersFit w.schema w.schema.triggers → IsThere w.schema (table_of d) → level deeper w d f db budget ≡ Ok done
    → Placed (length w.schema.tables) db.rows → Placed (length w.schema.tables) done.database.rows
level_places deeper w d f db budget done fit there e h = nested_places (suc deeper) w 0 d f db budget done fit there e h
