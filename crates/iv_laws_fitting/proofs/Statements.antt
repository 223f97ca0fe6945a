-- Whole INSERT, UPDATE and DELETE statements.
use Rattle.std.proofs.Common.{◌≡◌, ℕ, ◌≤◌, Bool, true, false, not, ◌&&◌, ◌||◌, ◌==◌, List, ◌∷◌, ◌∙◌, Option, None, refl, sym, ap, length, map, option_map, subst, arith}
use Rattle.std.proofs.lemmas.Bool.{and_from, and_parts, or_parts}
use Rattle.std.specs.Option.{option_or}
use Rattle.std.specs.List.{list_any, list_all}
use Rattle.iv_laws_fitting.specs.Types.{Kind, Column}
use Rattle.iv_expr.specs.Suiting.{Shape, shape_within, suits}
use Rattle.iv_syntax.specs.declared.table.ColumnType.{ColumnType}
use Rattle.iv_syntax.specs.declared.statement.Insert.{Insert}
use Rattle.iv_syntax.specs.declared.statement.Insert.TheVariants as insert
use Rattle.iv_syntax.specs.declared.statement.Assignment.{Assignment}
use Rattle.iv_syntax.specs.declared.statement.Update.{Update}
use Rattle.iv_syntax.specs.declared.statement.Delete.{Delete}
use Rattle.iv_resolution.specs.Scopes.{NamedRange, Names, named_columns, place_of, has_column, type_named, own_range}
use Rattle.iv_resolution.specs.Terms.{misshaped_filter, bound_filter}
use Rattle.iv_resolution.specs.Changes.{is_table, stored_columns, target_columns, value_clashes, misshaped_value, target_types, misshaped_source, misshaped_insert, misshaped_assignment, misshaped_update, misshaped_delete}
use Rattle.iv_resolution.specs.Bound.{table_id, bound_value, bound_source, bound_columns, bound_insert, bound_assignment, bound_update, bound_delete}
use Rattle.iv_resolution.specs.Writable.{is_filter, is_insert_source, is_insert, is_update, is_delete, is_name, is_name_list_or_none, is_assignment}
use Rattle.iv_resolution.specs.Items.{Item, column_item, table_item, told_if, first_of}
use Rattle.iv_resolution.specs.NameFaults.{unknown_in_target, unknown_in_assignment, unknown_in_delete, unknown_in_filter, unknown_in_insert, unknown_in_listed, unknown_in_source, unknown_in_update, unknown_in_value}
use Rattle.iv_resolution.proofs.Told.{none_parts, none_told, untold}
use Rattle.iv_laws_fitting.specs.PlanShapes.{kinds_of, table_kinds, is_there, value_suits, default_suits, table_suits, target_kinds, rows_suit, setting_suits, data_suits}
use Rattle.iv_laws_fitting.proofs.ColumnKinds.{greatest, Matches, stored_match}
use Rattle.iv_laws_fitting.proofs.Conditions.{sources_within}
use Rattle.iv_laws_fitting.proofs.Pointwise.{any_at, all_at, map_at, made_of, all_by}
use Rattle.iv_laws_fitting.proofs.Targets.{Target, target_of, target_id, target_stored, target_kinds_of, place_is_there, few_columns, defaults_suit, column_target, value_of_column}
use Rattle.iv_laws_fitting.proofs.Changes.{Around, filter_suits, source_suits}

table_of_target : (names : Names) (ranges : List NamedRange) (shape : Shape) → Around names ranges shape → (name : List ℕ) (t : Target names.tables name) → table_suits t.table ≡ true
table_of_target names ranges shape a name t = all_at table_suits names.tables a.suit t.place t.table t.there

-- ---- INSERT

pub insert_suits : (names : Names) (ranges : List NamedRange) (shape : Shape) → Around names ranges shape → (i : Insert)
    → is_insert i ≡ true → unknown_in_insert names ranges i ≡ None → misshaped_insert names ranges i ≡ false
    → data_suits names.tables shape (bound_insert names ranges i) ≡ true
insert_suits names ranges shape a (insert.DefaultValues table) i u w =
    let t = target_of names table (untold (not (is_table names table)) (table_item table) u) in
    and_from _ _ (ap (is_there names.tables) (target_id names table t) ∙ place_is_there names.tables t.place t.table t.there) refl
insert_suits names ranges shape a (insert.Rows table listed s) i u w = by (target_of names table (untold (not (is_table names table)) (table_item table) parts.0))
  where
    parts : (unknown_in_target names table ≡ None) × (option_or (unknown_in_listed (target_columns names table) listed) (unknown_in_source names ranges s) ≡ None)
    parts = none_parts (unknown_in_target names table) (option_or (unknown_in_listed (target_columns names table) listed) (unknown_in_source names ranges s)) u

    known : (unknown_in_listed (target_columns names table) listed ≡ None) × (unknown_in_source names ranges s ≡ None)
    known = none_parts (unknown_in_listed (target_columns names table) listed) (unknown_in_source names ranges s) parts.1

    writable : is_insert_source s ≡ true
    writable = (and_parts (is_name_list_or_none listed) (is_insert_source s) (and_parts (is_name table) (is_name_list_or_none listed && is_insert_source s) i).1).1

    whole : ℕ → List Column → Bool
    whole id columns =
        is_there names.tables id
        && rows_suit names.tables shape (target_kinds (table_kinds names.tables id) (bound_columns (named_columns columns) listed)) (bound_source names ranges columns listed s)

    by : Target names.tables table → whole (table_id names table) (stored_columns names.tables table) ≡ true
    by t =
        let sound = table_of_target names ranges shape a table t in
        let stored = target_stored names.tables table t in
        ap (λ id. whole id (stored_columns names.tables table)) (target_id names table t)
        ∙ ap (whole t.place) stored
        ∙ and_from _ _ (place_is_there names.tables t.place t.table t.there)
        (ap (λ (kinds : List Kind). rows_suit names.tables shape (target_kinds kinds (bound_columns (named_columns t.table.columns) listed)) (bound_source names ranges t.table.columns listed s))
        (target_kinds_of names.tables table t)
        ∙ source_suits names ranges shape a t.table.columns (few_columns t.table sound) (defaults_suit t.table sound) listed
        (subst (λ (columns : List Column). unknown_in_listed (named_columns columns) listed ≡ None) stored known.0) s writable known.1
        (subst (λ (columns : List Column). misshaped_source names ranges (target_types (named_columns columns) listed) s ≡ false) stored w))

-- ---- UPDATE and DELETE

-- the range of the table that is changed, inside the row variables
own_matches : (names : Names) (ranges : List NamedRange) (shape : Shape) → Around names ranges shape → (name : List ℕ) (t : Target names.tables name)
    → Matches (own_range name (named_columns t.table.columns) ∷ ranges) (shape_within shape (kinds_of t.table))
own_matches names ranges shape a name t = record {
  rows = own_range name (named_columns t.table.columns) ∷ a.matches.rows;
  variables = a.matches.variables;
  split = ap (λ l. own_range name (named_columns t.table.columns) ∷ l) a.matches.split;
  rows_match = (refl, stored_match t.table (few_columns t.table (table_of_target names ranges shape a name t)), a.matches.rows_match);
  variables_match = a.matches.variables_match;
}

assignment_suits : (ranges : List NamedRange) (shape : Shape) → Matches ranges shape → length ranges ≤ greatest → (columns : List Column) → length columns ≤ greatest
    → list_all default_suits columns ≡ true → (a : Assignment) → unknown_in_assignment (named_columns columns) ranges a ≡ None → misshaped_assignment (named_columns columns) ranges a ≡ false
    → setting_suits shape (map (λ c. c.kind) columns) (bound_assignment columns ranges a) ≡ true
unfolding bound_assignment misshaped_assignment
assignment_suits ranges shape m deep columns few d a u w =
    let known = none_parts (told_if (not (has_column (named_columns columns) a.column)) (column_item None a.column)) (unknown_in_value ranges a.value) u in
    let kinds = or_parts (value_clashes (type_named (named_columns columns) a.column) ranges a.value) (misshaped_value ranges a.value) w in
    let target = column_target columns a.column few (untold (not (has_column (named_columns columns) a.column)) (column_item None a.column) known.0) in
    let at = map_at (λ (c : Column). c.kind) columns (place_of (named_columns columns) a.column) in
    ap (λ (o : Option Kind). value_suits shape o (bound_value columns ranges (place_of (named_columns columns) a.column) a.value))
    (at ∙ ap (option_map (λ (c : Column). c.kind)) target.at)
    ∙ value_of_column ranges shape m deep columns d (place_of (named_columns columns) a.column) target.column target.at a.value known.1 kinds.1
    (ap (λ (o : Option ColumnType). value_clashes o ranges a.value) (sym target.type) ∙ kinds.0)

pub update_suits : (names : Names) (ranges : List NamedRange) (shape : Shape) → Around names ranges shape → (u : Update)
    → is_update u ≡ true → unknown_in_update names ranges u ≡ None → misshaped_update names ranges u ≡ false
    → data_suits names.tables shape (bound_update names ranges u) ≡ true
update_suits names ranges shape a u i n w = by (target_of names u.table (untold (not (is_table names u.table)) (table_item u.table) parts.0))
  where
    unknown : List Column → Option Item
    unknown columns =
        option_or (first_of (unknown_in_assignment (named_columns columns) (own_range u.table (named_columns columns) ∷ ranges)) u.assignments)
        (unknown_in_filter names (own_range u.table (named_columns columns) ∷ ranges) u.filter)

    misshaped : List Column → Bool
    misshaped columns =
        list_any (misshaped_assignment (named_columns columns) (own_range u.table (named_columns columns) ∷ ranges)) u.assignments
        || misshaped_filter names (own_range u.table (named_columns columns) ∷ ranges) u.filter

    parts : (unknown_in_target names u.table ≡ None) × (unknown (stored_columns names.tables u.table) ≡ None)
    parts = none_parts (unknown_in_target names u.table) (unknown (stored_columns names.tables u.table)) n

    writable : is_filter u.filter ≡ true
    writable =
        (and_parts (list_all is_assignment u.assignments) (is_filter u.filter)
        (and_parts (not (length u.assignments == 0)) (list_all is_assignment u.assignments && is_filter u.filter)
        (and_parts (is_name u.table) (not (length u.assignments == 0) && (list_all is_assignment u.assignments && is_filter u.filter)) i).1).1).1

    whole : ℕ → List Column → Bool
    whole id columns =
        is_there names.tables id
        && (list_all (setting_suits (shape_within shape (table_kinds names.tables id)) (table_kinds names.tables id))
        (map (bound_assignment columns (own_range u.table (named_columns columns) ∷ ranges)) u.assignments)
        && suits (shape_within shape (table_kinds names.tables id)) (bound_filter names (own_range u.table (named_columns columns) ∷ ranges) u.filter))

    of_kinds : List Column → List Kind → Bool
    of_kinds columns kinds =
        list_all (setting_suits (shape_within shape kinds) kinds) (map (bound_assignment columns (own_range u.table (named_columns columns) ∷ ranges)) u.assignments)
        && suits (shape_within shape kinds) (bound_filter names (own_range u.table (named_columns columns) ∷ ranges) u.filter)

    by : Target names.tables u.table → whole (table_id names u.table) (stored_columns names.tables u.table) ≡ true
    by t =
        let sound = table_of_target names ranges shape a u.table t in
        let stored = target_stored names.tables u.table t in
        let matches = own_matches names ranges shape a u.table t in
        let few = a.few in
        let columns = t.table.columns in
        let inner = own_range u.table (named_columns columns) ∷ ranges in
        let kinds = kinds_of t.table in
        let known = none_parts (first_of (unknown_in_assignment (named_columns columns) inner) u.assignments) (unknown_in_filter names inner u.filter)
        (subst (λ (cs : List Column). unknown cs ≡ None) stored parts.1) in
        let shaped = or_parts (list_any (misshaped_assignment (named_columns columns) inner) u.assignments) (misshaped_filter names inner u.filter)
        (subst (λ (cs : List Column). misshaped cs ≡ false) stored w) in
        ap (λ id. whole id (stored_columns names.tables u.table)) (target_id names u.table t)
        ∙ ap (whole t.place) stored
        ∙ and_from _ _ (place_is_there names.tables t.place t.table t.there)
        (ap (of_kinds columns) (target_kinds_of names.tables u.table t)
        ∙ and_from _ _
        (all_by (setting_suits (shape_within shape kinds) kinds) (map (bound_assignment columns inner) u.assignments)
        (λ j s h.
        let made = made_of (bound_assignment columns inner) u.assignments j s h in
        ap (setting_suits (shape_within shape kinds) kinds) made.2
        ∙ assignment_suits inner (shape_within shape kinds) matches (omega arith) columns (few_columns t.table sound) (defaults_suit t.table sound) made.0
        (none_told (unknown_in_assignment (named_columns columns) inner) u.assignments known.0 j made.0 made.1)
        (any_at (misshaped_assignment (named_columns columns) inner) u.assignments shaped.0 j made.0 made.1)))
        (filter_suits names inner (shape_within shape kinds) matches (omega arith) (sources_within names shape kinds a.sources) u.filter writable known.1 shaped.1))

pub delete_suits : (names : Names) (ranges : List NamedRange) (shape : Shape) → Around names ranges shape → (d : Delete)
    → is_delete d ≡ true → unknown_in_delete names ranges d ≡ None → misshaped_delete names ranges d ≡ false
    → data_suits names.tables shape (bound_delete names ranges d) ≡ true
delete_suits names ranges shape a d i n w = by (target_of names d.table (untold (not (is_table names d.table)) (table_item d.table) parts.0))
  where
    unknown : List Column → Option Item
    unknown columns = unknown_in_filter names (own_range d.table (named_columns columns) ∷ ranges) d.filter

    misshaped : List Column → Bool
    misshaped columns = misshaped_filter names (own_range d.table (named_columns columns) ∷ ranges) d.filter

    parts : (unknown_in_target names d.table ≡ None) × (unknown (stored_columns names.tables d.table) ≡ None)
    parts = none_parts (unknown_in_target names d.table) (unknown (stored_columns names.tables d.table)) n

    writable : is_filter d.filter ≡ true
    writable = (and_parts (is_name d.table) (is_filter d.filter) i).1

    whole : ℕ → List Column → Bool
    whole id columns = is_there names.tables id && suits (shape_within shape (table_kinds names.tables id)) (bound_filter names (own_range d.table (named_columns columns) ∷ ranges) d.filter)

    by : Target names.tables d.table → whole (table_id names d.table) (stored_columns names.tables d.table) ≡ true
    by t =
        let stored = target_stored names.tables d.table t in
        let few = a.few in
        let inner = own_range d.table (named_columns t.table.columns) ∷ ranges in
        ap (λ id. whole id (stored_columns names.tables d.table)) (target_id names d.table t)
        ∙ ap (whole t.place) stored
        ∙ and_from _ _ (place_is_there names.tables t.place t.table t.there)
        (ap (λ (kinds : List Kind). suits (shape_within shape kinds) (bound_filter names inner d.filter)) (target_kinds_of names.tables d.table t)
        ∙ filter_suits names inner (shape_within shape (kinds_of t.table)) (own_matches names ranges shape a d.table t) (omega arith)
        (sources_within names shape (kinds_of t.table) a.sources) d.filter writable
        (subst (λ (cs : List Column). unknown cs ≡ None) stored parts.1) (subst (λ (cs : List Column). misshaped cs ≡ false) stored w))
