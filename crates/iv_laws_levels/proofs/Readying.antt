-- What is proposed, and what follows a wave: changes of some rows in their order, or insertions.
use Rattle.std.proofs.Common.{◌≡◌, refl, ℕ, List, [], ◌∷◌, map, filter, Some, None, Result, Ok, sym, ap, subst, ◌∙◌, ◌⊎◌, inl, inr}
use Rattle.iv_laws_levels.specs.Types.{Value, StoredRow, Change, Cond, DataStatement, Database, Effect}
use Rattle.iv_laws_levels.specs.Types.cause.{Restrict, ActionConflict}
use Rattle.iv_laws_levels.specs.Types.data_statement
use Rattle.iv_expr.specs.Changes.{Wave}
use Rattle.iv_expr.specs.declared.tree.ExprFault.{ExprFault}
use Rattle.iv_expr.specs.Evaluation.{value}
use Rattle.iv_expr.specs.Scopes.{Scope, Frame, scope_of, within, table_rows, range_rows}
use Rattle.iv_catalogue.specs.Catalogues.{Schema}
use Rattle.iv_catalogue.specs.declared.plan.Setting.{Setting}
use Rattle.iv_catalogue.specs.declared.plan.InsertColumns.{InsertColumns}
use Rattle.iv_catalogue.specs.declared.plan.InsertRows.{InsertRows}
use Rattle.iv_catalogue.specs.declared.plan.InsertRows.TheVariants as rows
use Rattle.iv_machine.specs.Context.{Context, each}
use Rattle.iv_machine.specs.Proposals.{matching_rows, where_true, stored_values, values_by_column, row_of_values, insertion, insertion_of, outputs_of, proposed_insertions, update_of, deletion, proposed_changes, set_columns, proposed_wave, with_columns}
use Rattle.iv_machine.specs.Databases.{row_at}
use Rattle.iv_machine.specs.ReferentialActions.{LostKeys, lost_keys, effects_on, change_by, restricted_rows, conflicts, next_wave, following_wave}
use Rattle.iv_laws_levels.proofs.Chains.{ok_same, step_of, none_first}
use Rattle.iv_laws_levels.proofs.RowNumbers.{some_none, some_same}
use Rattle.iv_laws_levels.proofs.Drawn.{Drawn, Among, among_filter, among_where_true, drawn_among, drawn_each, drawn_map, drawn_filter_map}

-- a change of a row that is there
pub record OfRow (r : StoredRow) (c : Change) : Type 0 where
  pub number : c.row ≡ r.number
  pub table : c.table ≡ r.table
  pub old : c.old ≡ Some r.values

-- all are insertions
abbrev pub Insertions : List Change → Type 0
Insertions [] = Unit {0}
Insertions (c ∷ wave) = (c.old ≡ None) × Insertions wave

-- what a wave is before its new rows have numbers
abbrev pub Ready : List StoredRow → List Change → Type 0
Ready rows wave = Drawn OfRow rows wave ⊎ Insertions wave

-- ---- INSERT

insertions_each : {A E : Type 0} (f : A → Result Change E) → ((x : A) (c : Change) → f x ≡ Ok c → c.old ≡ None)
    → (xs : List A) (wave : List Change) → each f xs ≡ Ok wave → Insertions wave
insertions_each f h [] wave e = subst Insertions (ok_same [] wave e) tt
insertions_each f h (x ∷ xs) wave e =
    let one = step_of (f x) _ wave e in
    let more = step_of (each f xs) _ wave one.2 in
    subst Insertions (ok_same (one.0 ∷ more.0) wave more.2) (h x one.0 one.1, insertions_each f h xs more.0 more.1)

inserted_is : (w : Context) (t : ℕ) (cs : InsertColumns) (values : List (Result Value ExprFault)) (c : Change) → insertion_of w t cs values ≡ Ok c → c.old ≡ None
inserted_is w t cs values c e =
    let pairs = step_of (stored_values w t (values_by_column cs values)) _ c e in
    sym (ap (λ x. x.old) (ok_same (insertion t (row_of_values w.schema t cs pairs.0)) c pairs.2))

proposed_rows_insert : (w : Context) (s : Scope) (t : ℕ) (cs : InsertColumns) (source : InsertRows) (wave : List Change) → proposed_insertions w s t cs source ≡ Ok wave → Insertions wave
proposed_rows_insert w s t cs (rows.Values tuples) wave e =
    insertions_each (λ es. insertion_of w t cs (map (value s) es)) (λ es c h. inserted_is w t cs (map (value s) es) c h) tuples wave e
proposed_rows_insert w s t cs (rows.Query outputs range filter) wave e =
    let found = step_of (where_true (λ row. row) s filter (range_rows s range)) _ wave e in
    insertions_each (λ row. insertion_of w t cs (outputs_of s outputs row)) (λ row c h. inserted_is w t cs (outputs_of s outputs row) c h) found.0 wave found.2

-- ---- UPDATE and DELETE

updated_is : (w : Context) (s : Scope) (settings : List Setting) (r : StoredRow) (c : Change) → update_of w s settings r ≡ Ok c → OfRow r c
updated_is w s settings r c e =
    let pairs = step_of (stored_values w r.table (map (λ x. (x.column, value (within s r.values) x.value)) settings)) _ c e in
    subst (OfRow r) (ok_same (record { table = r.table; row = r.number; old = Some r.values; new = Some (with_columns r.values pairs.0) }) c pairs.2)
    (record { number = refl; table = refl; old = refl })

among_matching : (s : Scope) (filter : Cond) (db : Database) (t : ℕ) (found : List StoredRow) → matching_rows s filter (table_rows db.rows t) ≡ Ok found → Among db.rows found
among_matching s c db t found e =
    drawn_among ◌≡◌ db.rows (table_rows db.rows t) found (among_filter _ db.rows) (among_where_true (λ r. r.values) s c (table_rows db.rows t) found e)

pub delete_drawn : (w : Context) (db : Database) (f : Frame) (t : ℕ) (filter : Cond) (wave : List Change) → proposed_changes w db f (data_statement.Delete t filter) ≡ Ok wave
    → Drawn OfRow db.rows wave
delete_drawn w db f t filter wave e =
    let found = step_of (matching_rows (scope_of f db.rows) filter (table_rows db.rows t)) _ wave e in
    drawn_among OfRow db.rows found.0 wave (among_matching (scope_of f db.rows) filter db t found.0 found.1)
    (subst (Drawn OfRow found.0) (ok_same (map deletion found.0) wave found.2)
    (drawn_map OfRow deletion (λ r. record { number = refl; table = refl; old = refl }) found.0))

pub update_drawn : (w : Context) (db : Database) (f : Frame) (t : ℕ) (settings : List Setting) (filter : Cond) (wave : List Change)
    → proposed_changes w db f (data_statement.Update t settings filter) ≡ Ok wave → Drawn OfRow db.rows wave
update_drawn w db f t settings filter wave e =
    let found = step_of (matching_rows (scope_of f db.rows) filter (table_rows db.rows t)) _ wave e in
    drawn_among OfRow db.rows found.0 wave (among_matching (scope_of f db.rows) filter db t found.0 found.1)
    (drawn_each OfRow (update_of w (scope_of f db.rows) settings) (updated_is w (scope_of f db.rows) settings) found.0 wave found.2)

proposed_changes_ready : (w : Context) (db : Database) (f : Frame) (d : DataStatement) (changes : List Change) → proposed_changes w db f d ≡ Ok changes → Ready db.rows changes
proposed_changes_ready w db f (data_statement.Insert t cs source) changes e = inr (proposed_rows_insert w (scope_of f db.rows) t cs source changes e)
proposed_changes_ready w db f (data_statement.Update t settings filter) changes e = inl (update_drawn w db f t settings filter changes e)
proposed_changes_ready w db f (data_statement.Delete t filter) changes e = inl (delete_drawn w db f t filter changes e)

-- the changes of a proposed wave
pub changes_of_proposed : (w : Context) (db : Database) (f : Frame) (d : DataStatement) (wave : Wave) → proposed_wave w db f d ≡ Ok wave
    → proposed_changes w db f d ≡ Ok wave.changes
changes_of_proposed w db f d wave e =
    let made = step_of (proposed_changes w db f d) _ wave e in
    made.1 ∙ ap Ok (ap (λ x. x.changes) (ok_same (record { changes = made.0; columns = set_columns d }) wave made.2))

pub proposed_ready : (w : Context) (db : Database) (f : Frame) (d : DataStatement) (wave : Wave) → proposed_wave w db f d ≡ Ok wave → Ready db.rows wave.changes
proposed_ready w db f d wave e = proposed_changes_ready w db f d wave.changes (changes_of_proposed w db f d wave e)

-- ---- the next wave

pub change_by_is : (r : StoredRow) (es : List (ℕ × Effect)) (c : Change) → change_by r es ≡ Some c → OfRow r c
change_by_is r [] c e = absurd (some_none c (sym e))
change_by_is r (x ∷ es) c e = subst (OfRow r) (some_same _ c e) (record { number = refl; table = refl; old = refl })

pub next_wave_drawn : (c : Schema) (lost : LostKeys) (rows later : List StoredRow) → Drawn OfRow later (next_wave c lost rows later).changes
next_wave_drawn c lost rows later =
    drawn_filter_map OfRow (λ r. change_by r (effects_on c lost (row_at rows r.number) r))
    (λ r change e. change_by_is r (effects_on c lost (row_at rows r.number) r) change e) later

-- what follows a wave is the next one, and nothing was restricted or in conflict
pub followed_is : (w : Context) (db later : Database) (next : Wave) → following_wave w db later ≡ Ok next
    → (restricted_rows (lost_keys db.rows later.rows) w.schema.constraints db.rows ≡ [])
    × (next_wave w.schema (lost_keys db.rows later.rows) db.rows later.rows ≡ next)
followed_is w db later next e =
    let free = none_first later Restrict (restricted_rows (lost_keys db.rows later.rows) w.schema.constraints db.rows) _ next e in
    let agreed = none_first later ActionConflict (conflicts w.schema (lost_keys db.rows later.rows) db.rows later.rows) _ next free.1 in
    (free.0, ok_same (next_wave w.schema (lost_keys db.rows later.rows) db.rows later.rows) next agreed.1)

pub followed_ready : (w : Context) (db later : Database) (next : Wave) → following_wave w db later ≡ Ok next → Ready later.rows next.changes
followed_ready w db later next e =
    inl (subst (λ x. Drawn OfRow later.rows x.changes) (followed_is w db later next e).1
    (next_wave_drawn w.schema (lost_keys db.rows later.rows) db.rows later.rows))
