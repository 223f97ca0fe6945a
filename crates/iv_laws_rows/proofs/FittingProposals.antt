-- What a statement that fits proposes fits.
use Rattle.std.proofs.Common.{◌≡◌, ℕ, zero, suc, Bool, true, ◌&&◌, ◌==◌, List, [], ◌∷◌, ◌∙◌, Option, Some, None, Result, Ok, refl, sym, ap, map, length, slice_get}
use Rattle.std.proofs.lemmas.Bool.{and_from, and_parts}
use Rattle.std.specs.List.{list_all}
use Rattle.iv_value.specs.declared.value.Kind.{Kind}
use Rattle.iv_laws_rows.specs.Types.{Value, StoredRow, Change, Table, Cause, DataStatement, Database}
use Rattle.iv_expr.specs.declared.tree.Cond.{Cond}
use Rattle.iv_expr.specs.declared.tree.Expr.{Expr}
use Rattle.iv_expr.specs.declared.tree.ExprFault.{ExprFault}
use Rattle.iv_expr.specs.Evaluation.{value}
use Rattle.iv_expr.specs.Scopes.{Scope, Frame, scope_of, within, table_rows, range_rows}
use Rattle.iv_expr.specs.Suiting.{of_sort, sort_of_kind, Shape, shape_within, range_kinds, row_suits, suits, HasShape}
use Rattle.iv_catalogue.specs.declared.plan.Setting.{Setting}
use Rattle.iv_catalogue.specs.declared.plan.Outputs.{Outputs}
use Rattle.iv_catalogue.specs.declared.plan.Outputs.TheVariants as outputs
use Rattle.iv_catalogue.specs.declared.plan.InsertColumns.{InsertColumns}
use Rattle.iv_catalogue.specs.declared.plan.InsertColumns.TheVariants as columns
use Rattle.iv_catalogue.specs.declared.plan.InsertRows.{InsertRows}
use Rattle.iv_catalogue.specs.declared.plan.InsertRows.TheVariants as rows
use Rattle.iv_catalogue.specs.declared.plan.DataStatement.TheVariants.{Insert, Update, Delete}
use Rattle.iv_machine.specs.Context.{Context, each}
use Rattle.iv_machine.specs.Proposals.{where_true, matching_rows, outputs_of, stored_values, values_by_column, row_of_values, insertion, insertion_of, proposed_insertions, update_of, deletion, with_columns, defaults_of, proposed_changes}
use Rattle.iv_store.specs.Stores.{fits_table}
use Rattle.iv_laws_fitting.specs.PlanShapes.{kinds_of, table_kinds, is_there, is_range_there, table_suits, value_suits, values_suit, kind_suits, kinds_suit, target_kinds, outputs_suit, rows_suit, data_suits}
use Rattle.iv_laws_fitting.proofs.Pointwise.{all_at, all_by, made_of, mapped_length}
use Rattle.iv_laws_fitting.proofs.References.{kept_by}
use Rattle.iv_laws_fitting.proofs.Running.{where_kept, range_suits_at}
use Rattle.iv_laws_levels.proofs.Chains.{ok_same, step_of}
use Rattle.iv_laws_rows.specs.RowFits.{change_fits, changes_fit, row_fits, rows_fit}
use Rattle.iv_laws_rows.specs.Laws.{ProposalsFit}
use Rattle.iv_laws_rows.proofs.FittingValues.{there_at, fits_there, with_fits, all_stored, all_values_fit, defaults_fit}

-- ---- changes of each

-- what is made of each fits, if each fits
pub each_fits : {A : Type 0} (p : Change → Bool) (f : A → Result Change Cause) (xs : List A) (changes : List Change)
    → ((j : ℕ) (x : A) (c : Change) → slice_get xs j ≡ Some x → f x ≡ Ok c → p c ≡ true) → each f xs ≡ Ok changes → list_all p changes ≡ true
each_fits p f [] changes h e = ap (list_all p) (sym (ok_same {E = Cause} [] changes e))
each_fits p f (x ∷ xs) changes h e =
    let one = step_of (f x) _ changes e in
    let more = step_of (each f xs) _ changes one.2 in
    ap (list_all p) (sym (ok_same {E = Cause} (one.0 ∷ more.0) changes more.2))
    ∙ and_from _ _ (h zero x one.0 refl one.1) (each_fits p f xs more.0 (λ j. h (suc j)) more.1)

-- ---- as many values as columns

same_lengths : (shape : Shape) (os : List (Option Kind)) (es : List Expr) → values_suit shape os es ≡ true → length es ≡ length os
same_lengths shape [] [] h = refl
same_lengths shape [] (e ∷ es) h = cc
same_lengths shape (o ∷ os) [] h = cc
same_lengths shape (o ∷ os) (e ∷ es) h = ap suc (same_lengths shape os es (and_parts (value_suits shape o e) (values_suit shape os es) h).1)

same_kinds_length : (os : List (Option Kind)) (own : List Kind) → kinds_suit os own ≡ true → length own ≡ length os
same_kinds_length [] [] h = refl
same_kinds_length [] (k ∷ ks) h = cc
same_kinds_length (o ∷ os) [] h = cc
same_kinds_length (o ∷ os) (k ∷ ks) h = ap suc (same_kinds_length os ks (and_parts (kind_suits o k) (kinds_suit os ks) h).1)

row_length : (own : List Kind) (row : List Value) → row_suits own row ≡ true → length row ≡ length own
row_length [] [] h = refl
row_length [] (v ∷ vs) h = cc
row_length (k ∷ ks) [] h = cc
row_length (k ∷ ks) (v ∷ vs) h = ap suc (row_length ks vs (and_parts (of_sort (sort_of_kind k) v) (row_suits ks vs) h).1)

all_targets : (tables : List Table) (table : ℕ) (t : Table) → slice_get tables table ≡ Some t → length (target_kinds (table_kinds tables table) columns.All) ≡ length t.columns
all_targets tables table t h =
    mapped_length (λ (k : Kind). Some k) (table_kinds tables table)
    ∙ ap (λ (o : Option Table). length (elim o as (λ x. List Kind) [ Some x ↦ kinds_of x | None ↦ [] ])) h
    ∙ mapped_length (λ c. c.kind) t.columns

-- ---- INSERT

inserted_fits : (context : Context) (table : ℕ) (listed : InsertColumns) (values : List (Result Value ExprFault)) (c : Change)
    → list_all table_suits context.schema.tables ≡ true → is_there context.schema.tables table ≡ true
    → length values ≡ length (target_kinds (table_kinds context.schema.tables table) listed)
    → insertion_of context table listed values ≡ Ok c → change_fits context.schema.tables c ≡ true
inserted_fits context table listed values c suit there l e =
    let pairs = step_of (stored_values context table (values_by_column listed values)) _ c e in
    ap (change_fits context.schema.tables) (sym (ok_same {E = Cause} (insertion table (row_of_values context.schema table listed pairs.0)) c pairs.2))
    ∙ and_from _ _ there (by listed l pairs.0 pairs.1)
  where
    by : (cs : InsertColumns) → length values ≡ length (target_kinds (table_kinds context.schema.tables table) cs) → (out : List (ℕ × Value))
        → stored_values context table (values_by_column cs values) ≡ Ok out → fits_table context.schema.tables table (row_of_values context.schema table cs out) ≡ true
    by columns.All m out g =
        let t = there_at context.schema.tables table there in
        all_values_fit context table t.0 values out t.1 (m ∙ all_targets context.schema.tables table t.0 t.1) g
    by (columns.Listed places) m out g =
        with_fits (slice_get context.schema.tables table) (defaults_of context.schema table) out
        (defaults_fit context.schema table suit there) (all_stored context table (values_by_column (columns.Listed places) values) out g)

abbrev well : Value → Result Value ExprFault
well v = Ok v

outputs_length : (shape : Shape) (s : Scope) (own : List Kind) (os : List (Option Kind)) (l : Outputs) (row : List Value)
    → outputs_suit shape own os l ≡ true → row_suits own row ≡ true → length (outputs_of s l row) ≡ length os
outputs_length shape s own os outputs.Star row h g = mapped_length well row ∙ row_length own row g ∙ same_kinds_length os own h
outputs_length shape s own os (outputs.Values es) row h g = mapped_length (value (within s row)) es ∙ same_lengths shape os es h

insertions_fit : (context : Context) (s : Scope) (shape : Shape) (table : ℕ) (listed : InsertColumns) (given : InsertRows) (changes : List Change)
    → list_all table_suits context.schema.tables ≡ true → HasShape s shape → is_there context.schema.tables table ≡ true
    → rows_suit context.schema.tables shape (target_kinds (table_kinds context.schema.tables table) listed) given ≡ true
    → proposed_insertions context s table listed given ≡ Ok changes → changes_fit context.schema.tables changes ≡ true
insertions_fit context s shape table listed (rows.Values tuples) changes suit h there w e =
    let os = target_kinds (table_kinds context.schema.tables table) listed in
    each_fits (change_fits context.schema.tables) (λ tuple. insertion_of context table listed (map (value s) tuple)) tuples changes
    (λ j tuple c g f.
    inserted_fits context table listed (map (value s) tuple) c suit there
    (mapped_length (value s) tuple ∙ same_lengths shape os tuple (all_at (values_suit shape os) tuples w j tuple g)) f) e
insertions_fit context s shape table listed (rows.Query l source filter) changes suit h there w e =
    let os = target_kinds (table_kinds context.schema.tables table) listed in
    let own = range_kinds shape source in
    let p = and_parts (is_range_there context.schema.tables source) (outputs_suit (shape_within shape own) own os l && suits (shape_within shape own) filter) w in
    let q = and_parts (outputs_suit (shape_within shape own) own os l) (suits (shape_within shape own) filter) p.1 in
    let found = step_of (where_true (λ row. row) s filter (range_rows s source)) _ changes e in
    each_fits (change_fits context.schema.tables) (λ row. insertion_of context table listed (outputs_of s l row)) found.0 changes
    (λ j row c g f.
    let kept = where_kept (λ x. x) s filter (range_rows s source) found.0 found.1 j row g in
    inserted_fits context table listed (outputs_of s l row) c suit there
    (outputs_length (shape_within shape own) s own os l row q.0 (range_suits_at s shape h source kept.0 row kept.1)) f) found.2

-- ---- UPDATE and DELETE

-- a row that is found is one of all
found_fits : (tables : List Table) (rs : List StoredRow) (t : ℕ) (s : Scope) (filter : Cond) (found : List StoredRow) → rows_fit tables rs ≡ true
    → matching_rows s filter (table_rows rs t) ≡ Ok found → (j : ℕ) (r : StoredRow) → slice_get found j ≡ Some r → row_fits tables r ≡ true
found_fits tables rs t s filter found h e j r g =
    let kept = where_kept (λ (x : StoredRow). x.values) s filter (table_rows rs t) found e j r g in
    let own = kept_by (λ (x : StoredRow). x.table == t) rs kept.0 r kept.1 in
    all_at (row_fits tables) rs h own.0 r own.1

updated_fits : (context : Context) (s : Scope) (settings : List Setting) (r : StoredRow) (c : Change) → row_fits context.schema.tables r ≡ true
    → update_of context s settings r ≡ Ok c → change_fits context.schema.tables c ≡ true
updated_fits context s settings r c h e =
    let setting_of : Setting → ℕ × Result Value ExprFault = λ x. (x.column, value (within s r.values) x.value) in
    let pairs = step_of (stored_values context r.table (map setting_of settings)) _ c e in
    ap (change_fits context.schema.tables)
    (sym (ok_same {E = Cause} (record { table = r.table; row = r.number; old = Some r.values; new = Some (with_columns r.values pairs.0) }) c pairs.2))
    ∙ and_from _ _ (fits_there context.schema.tables r.table r.values h)
    (and_from _ _ h
    (with_fits (slice_get context.schema.tables r.table) r.values pairs.0 h (all_stored context r.table (map setting_of settings) pairs.0 pairs.1)))

deleted_fits : (tables : List Table) (r : StoredRow) → row_fits tables r ≡ true → change_fits tables (deletion r) ≡ true
deleted_fits tables r h = and_from _ _ (fits_there tables r.table r.values h) (and_from _ _ h refl)

-- ---- the statement

changes_proposed_fit : (context : Context) (db : Database) (frame : Frame) (shape : Shape) (d : DataStatement) (changes : List Change)
    → list_all table_suits context.schema.tables ≡ true → rows_fit context.schema.tables db.rows ≡ true
    → HasShape (scope_of frame db.rows) shape → data_suits context.schema.tables shape d ≡ true
    → proposed_changes context db frame d ≡ Ok changes → changes_fit context.schema.tables changes ≡ true
changes_proposed_fit context db frame shape (Insert t listed given) changes suit h has w e =
    let p = and_parts (is_there context.schema.tables t) (rows_suit context.schema.tables shape (target_kinds (table_kinds context.schema.tables t) listed) given) w in
    insertions_fit context (scope_of frame db.rows) shape t listed given changes suit has p.0 p.1 e
changes_proposed_fit context db frame shape (Update t settings filter) changes suit h has w e =
    let s = scope_of frame db.rows in
    let found = step_of (matching_rows s filter (table_rows db.rows t)) _ changes e in
    each_fits (change_fits context.schema.tables) (update_of context s settings) found.0 changes
    (λ j r c g f. updated_fits context s settings r c (found_fits context.schema.tables db.rows t s filter found.0 h found.1 j r g) f) found.2
changes_proposed_fit context db frame shape (Delete t filter) changes suit h has w e =
    let s = scope_of frame db.rows in
    let found = step_of (matching_rows s filter (table_rows db.rows t)) _ changes e in
    ap (changes_fit context.schema.tables) (sym (ok_same {E = Cause} (map deletion found.0) changes found.2))
    ∙ all_by (change_fits context.schema.tables) (map deletion found.0)
    (λ j c g.
    let made = made_of deletion found.0 j c g in
    ap (change_fits context.schema.tables) made.2
    ∙ deleted_fits context.schema.tables made.0 (found_fits context.schema.tables db.rows t s filter found.0 h found.1 j made.0 made.1))

pub proposals_fit : ProposalsFit
proposals_fit context db frame d changes suit h fits e =
    changes_proposed_fit context db frame fits.shape d changes suit h (fits.holds db.rows h) fits.suits e
