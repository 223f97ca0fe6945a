-- INSERT, UPDATE, DELETE and SELECT: their plans suit the tables.
use Rattle.std.proofs.Common.{◌≡◌, ℕ, zero, suc, ◌≤◌, nat_le, Bool, true, false, not, ◌&&◌, ◌||◌, ◌==◌, List, [], ◌∷◌, ◌∙◌, Option, Some, None, refl, sym, ap, length, map, zip, slice_get, arith}
use Rattle.std.proofs.lemmas.Bool.{and_from, and_parts, not-false, or_parts}
use Rattle.std.proofs.lemmas.Option.{same_Some}
use Rattle.std.specs.Option.{option_or}
use Rattle.std.specs.List.{list_any, list_all, enumerate_from}
use Rattle.std.proofs.lemmas.Bool.Decides.{nat_tests}
use Rattle.iv_laws_fitting.specs.Types.{Kind, Expr, Range, Column}
use Rattle.iv_laws_fitting.specs.Types.kind
use Rattle.iv_expr.specs.Suiting.{Shape, shape_within, range_kinds, suits}
use Rattle.iv_syntax.specs.declared.table.ColumnType.{ColumnType}
use Rattle.iv_syntax.specs.declared.tree.Condition.{Condition}
use Rattle.iv_syntax.specs.declared.tree.Expression.{Expression}
use Rattle.iv_syntax.specs.declared.statement.ValueOrDefault.{ValueOrDefault}
use Rattle.iv_syntax.specs.declared.statement.SelectList.{SelectList}
use Rattle.iv_syntax.specs.declared.statement.SelectList.TheVariants as list
use Rattle.iv_syntax.specs.declared.statement.InsertSource.{InsertSource}
use Rattle.iv_syntax.specs.declared.statement.InsertSource.TheVariants as source
use Rattle.iv_syntax.specs.Trees.{condition_depth}
use Rattle.iv_syntax.specs.declared.limits.TheConstants.{DEEPEST_TREE}
use Rattle.iv_resolution.specs.Scopes.{NamedColumn, NamedRange, Names, Source, type_of, named_columns, source_named, is_source, source_columns, source_range, range_of}
use Rattle.iv_resolution.specs.Terms.{misshaped_expression, misshaped_filter, bound_expression, bound_filter}
use Rattle.iv_resolution.specs.Changes.{clashes_with, value_clashes, misshaped_value, target_types, tuple_clashes, misshaped_tuple, kinds_clash, values_clash, columns_clash, list_clashes, misshaped_list, misshaped_source}
use Rattle.iv_resolution.specs.Bound.{bound_value, target_place, bound_tuple, bound_list, bound_source, bound_columns}
use Rattle.iv_resolution.specs.Writable.{is_filter, has_written_terms, is_list, is_range, is_insert_source}
use Rattle.iv_resolution.specs.Items.{first_of, table_item}
use Rattle.iv_resolution.specs.NameFaults.{unknown_in_from, unknown_in_expression, unknown_in_filter, unknown_in_listed, unknown_in_select_list, unknown_in_source, unknown_in_value}
use Rattle.iv_resolution.proofs.Told.{none_parts, none_told, untold}
use Rattle.iv_laws_fitting.specs.PlanShapes.{is_range_there, value_suits, values_suit, kind_suits, kinds_suit, default_suits, table_suits, target_kinds, outputs_suit, rows_suit}
use Rattle.iv_laws_fitting.proofs.ColumnKinds.{greatest, ColumnsMatch, Matches}
use Rattle.iv_laws_fitting.proofs.Conditions.{SourcesMatch, sources_within, range_within, source_is, range_of_source, condition_suits}
use Rattle.iv_laws_fitting.proofs.Expressions.{sorted}
use Rattle.iv_laws_fitting.proofs.Pointwise.{any_at, zip_at, made_of, placed_at, enumerated_length, mapped_length, values_by, kinds_by, all_by}
use Rattle.iv_laws_fitting.proofs.Targets.{target_at, targets_length, expression_suits, value_of_column}

-- names, ranges and a shape that belong together
pub record Around (names : Names) (ranges : List NamedRange) (shape : Shape) : Type 0 where
  pub matches : Matches ranges shape
  pub few : length ranges ≤ 1000
  pub sources : SourcesMatch names shape
  pub there : (name : List ℕ) (s : Source) → source_named names name ≡ Some s → is_range_there names.tables s.range ≡ true
  pub suit : list_all table_suits names.tables ≡ true

-- ---- conditions

pub filter_suits : (names : Names) (ranges : List NamedRange) (shape : Shape) → Matches ranges shape → length ranges ≤ 2000 → SourcesMatch names shape
    → (f : Option Condition) → is_filter f ≡ true → unknown_in_filter names ranges f ≡ None → misshaped_filter names ranges f ≡ false
    → suits shape (bound_filter names ranges f) ≡ true
filter_suits names ranges shape m l n None w u h = refl
filter_suits names ranges shape m l n (Some c) w u h =
    let deep = (and_parts (nat_le (condition_depth c) DEEPEST_TREE) (has_written_terms c) w).0 in
    let low : condition_depth c ≤ DEEPEST_TREE = grind (arith, nat_tests) in
    condition_suits names ranges shape m n c (omega arith) u h

-- ---- VALUES

equal_of : (m n : ℕ) → not (m == n) ≡ false → m ≡ n
equal_of m n h = let e = not-false (m == n) h in grind (arith, nat_tests)

tuple_suits : (ranges : List NamedRange) (shape : Shape) → Matches ranges shape → length ranges ≤ greatest → (columns : List Column) → length columns ≤ greatest
    → list_all default_suits columns ≡ true → (listed : Option (List (List ℕ))) → unknown_in_listed (named_columns columns) listed ≡ None → (tuple : List ValueOrDefault)
    → first_of (unknown_in_value ranges) tuple ≡ None → misshaped_tuple (target_types (named_columns columns) listed) ranges tuple ≡ false
    → values_suit shape (target_kinds (map (λ c. c.kind) columns) (bound_columns (named_columns columns) listed)) (bound_tuple columns listed ranges tuple) ≡ true
unfolding bound_tuple misshaped_tuple tuple_clashes
tuple_suits ranges shape m l columns few d listed known tuple u w = values_by shape targets (map value_at (enumerate_from 0 tuple)) same each
  where
    targets : List (Option Kind)
    targets = target_kinds (map (λ c. c.kind) columns) (bound_columns (named_columns columns) listed)

    types : List (Option ColumnType)
    types = target_types (named_columns columns) listed

    value_at : ℕ × ValueOrDefault → Expr
    value_at p = bound_value columns ranges (target_place (named_columns columns) listed p.0) p.1

    counted : length tuple ≡ length types
    counted = equal_of (length tuple) (length types) (or_parts (not (length tuple == length types)) (tuple_clashes types ranges tuple || list_any (misshaped_value ranges) tuple) w).0

    of_kinds : (tuple_clashes types ranges tuple ≡ false) × (list_any (misshaped_value ranges) tuple ≡ false)
    of_kinds =
        or_parts (tuple_clashes types ranges tuple) (list_any (misshaped_value ranges) tuple)
        (or_parts (not (length tuple == length types)) (tuple_clashes types ranges tuple || list_any (misshaped_value ranges) tuple) w).1

    same : length (map value_at (enumerate_from 0 tuple)) ≡ length targets
    same = mapped_length value_at (enumerate_from 0 tuple) ∙ enumerated_length 0 tuple ∙ counted ∙ targets_length columns listed

    each : (j : ℕ) (o : Option Kind) (e : Expr) → slice_get targets j ≡ Some o → slice_get (map value_at (enumerate_from 0 tuple)) j ≡ Some e → value_suits shape o e ≡ true
    each j o e h g =
        let made = made_of value_at (enumerate_from 0 tuple) j e g in
        let placed = placed_at 0 tuple j made.0 made.1 in
        let at = target_at columns listed few known j o h in
        let place : made.0.0 ≡ j = placed.1 ∙ omega arith in
        ap (λ (x : Option Kind). value_suits shape x e) at.is
        ∙ ap (value_suits shape (Some at.column.kind)) made.2
        ∙ ap (λ n. value_suits shape (Some at.column.kind) (bound_value columns ranges (target_place (named_columns columns) listed n) made.0.1)) place
        ∙ value_of_column ranges shape m l columns d (target_place (named_columns columns) listed j) at.column at.at made.0.1
        (none_told (unknown_in_value ranges) tuple u j made.0.1 placed.0) (any_at (misshaped_value ranges) tuple of_kinds.1 j made.0.1 placed.0)
        (any_at (λ (p : Option ColumnType × ValueOrDefault). value_clashes p.0 ranges p.1) (zip types tuple) of_kinds.0 j (Some (type_of at.column.kind), made.0.1)
        (zip_at types tuple j (Some (type_of at.column.kind)) made.0.1 at.type placed.0))

-- ---- what a query gives

pub column_of_kind : (columns : List NamedColumn) (kinds : List Kind) → map (λ (c : NamedColumn). c.kind) columns ≡ map type_of kinds
    → (j : ℕ) (k : Kind) → slice_get kinds j ≡ Some k → (c : NamedColumn) × (slice_get columns j ≡ Some c) × (c.kind ≡ type_of k)
column_of_kind [] [] e j k h = cc
column_of_kind [] (x ∷ xs) e j k h = cc
column_of_kind (c ∷ cs) [] e j k h = cc
column_of_kind (c ∷ cs) (x ∷ xs) e zero k h = let here : c.kind ≡ type_of x = cc in (c, refl, here ∙ ap type_of (same_Some x k h))
column_of_kind (c ∷ cs) (x ∷ xs) e (suc n) k h = let rest : map (λ (y : NamedColumn). y.kind) cs ≡ map type_of xs = cc in column_of_kind cs xs rest n k h

apart : (a b : Kind) → kinds_clash (Some (type_of a)) (type_of b) ≡ false → kind_suits (Some a) b ≡ true
unfolding kinds_clash
apart kind.Integer kind.Integer h = refl
apart (kind.Varchar m) (kind.Varchar n) h = refl
apart kind.Integer (kind.Varchar n) h = cc
apart (kind.Varchar m) kind.Integer h = cc

star_suits : (columns : List Column) → length columns ≤ greatest → (listed : Option (List (List ℕ))) → unknown_in_listed (named_columns columns) listed ≡ None
    → (others : List NamedColumn) (own : List Kind) → ColumnsMatch others own → (ranges : List NamedRange)
    → list_clashes (target_types (named_columns columns) listed) others ranges list.Star ≡ false
    → kinds_suit (target_kinds (map (λ c. c.kind) columns) (bound_columns (named_columns columns) listed)) own ≡ true
unfolding list_clashes columns_clash
star_suits columns few listed known others own m ranges w = kinds_by targets own same each
  where
    targets : List (Option Kind)
    targets = target_kinds (map (λ c. c.kind) columns) (bound_columns (named_columns columns) listed)

    types : List (Option ColumnType)
    types = target_types (named_columns columns) listed

    parts : (not (length others == length types) ≡ false) × (list_any (λ (p : Option ColumnType × NamedColumn). kinds_clash p.0 p.1.kind) (zip types others) ≡ false)
    parts = or_parts (not (length others == length types)) (list_any (λ (p : Option ColumnType × NamedColumn). kinds_clash p.0 p.1.kind) (zip types others)) w

    same : length own ≡ length targets
    same =
        sym (mapped_length type_of own) ∙ ap (λ (l : List ColumnType). length l) (sym m.types) ∙ mapped_length (λ (c : NamedColumn). c.kind) others
        ∙ equal_of (length others) (length types) parts.0 ∙ targets_length columns listed

    each : (j : ℕ) (o : Option Kind) (k : Kind) → slice_get targets j ≡ Some o → slice_get own j ≡ Some k → kind_suits o k ≡ true
    each j o k h g =
        let at = target_at columns listed few known j o h in
        let other = column_of_kind others own m.types j k g in
        ap (λ (x : Option Kind). kind_suits x k) at.is
        ∙ apart at.column.kind k
        (ap (kinds_clash (Some (type_of at.column.kind))) (sym other.2)
        ∙ any_at (λ (p : Option ColumnType × NamedColumn). kinds_clash p.0 p.1.kind) (zip types others) parts.1 j (Some (type_of at.column.kind), other.0)
        (zip_at types others j (Some (type_of at.column.kind)) other.0 at.type other.1))

pub list_suits : (columns : List Column) → length columns ≤ greatest → (listed : Option (List (List ℕ))) → unknown_in_listed (named_columns columns) listed ≡ None
    → (others : List NamedColumn) (own : List Kind) → ColumnsMatch others own → (ranges : List NamedRange) (shape : Shape) → Matches ranges shape → length ranges ≤ greatest
    → (l : SelectList) → unknown_in_select_list ranges l ≡ None → misshaped_list ranges l ≡ false
    → list_clashes (target_types (named_columns columns) listed) others ranges l ≡ false
    → outputs_suit shape own (target_kinds (map (λ c. c.kind) columns) (bound_columns (named_columns columns) listed)) (bound_list ranges l) ≡ true
unfolding bound_list list_clashes values_clash columns_clash
list_suits columns few listed known others own m ranges shape n deep list.Star u w c = star_suits columns few listed known others own m ranges c
list_suits columns few listed known others own m ranges shape n deep (list.Values es) u w c = values_by shape targets (map (bound_expression ranges) es) same each
  where
    targets : List (Option Kind)
    targets = target_kinds (map (λ c. c.kind) columns) (bound_columns (named_columns columns) listed)

    types : List (Option ColumnType)
    types = target_types (named_columns columns) listed

    parts : (not (length es == length types) ≡ false) × (list_any (λ (p : Option ColumnType × Expression). clashes_with p.0 ranges p.1) (zip types es) ≡ false)
    parts = or_parts (not (length es == length types)) (list_any (λ (p : Option ColumnType × Expression). clashes_with p.0 ranges p.1) (zip types es)) c

    same : length (map (bound_expression ranges) es) ≡ length targets
    same = mapped_length (bound_expression ranges) es ∙ equal_of (length es) (length types) parts.0 ∙ targets_length columns listed

    each : (j : ℕ) (o : Option Kind) (e : Expr) → slice_get targets j ≡ Some o → slice_get (map (bound_expression ranges) es) j ≡ Some e → value_suits shape o e ≡ true
    each j o e h g =
        let at = target_at columns listed few known j o h in
        let made = made_of (bound_expression ranges) es j e g in
        ap (λ (x : Option Kind). value_suits shape x e) at.is ∙ ap (value_suits shape (Some at.column.kind)) made.2
        ∙ expression_suits ranges shape made.0 at.column.kind
        (sorted ranges shape n deep made.0 (none_told (unknown_in_expression ranges) es u j made.0 made.1) (any_at (misshaped_expression ranges) es w j made.0 made.1))
        (any_at (λ (p : Option ColumnType × Expression). clashes_with p.0 ranges p.1) (zip types es) parts.1 j (Some (type_of at.column.kind), made.0)
        (zip_at types es j (Some (type_of at.column.kind)) made.0 at.type made.1))

columns_of_source : (names : Names) (name : List ℕ) (s : Source) → source_named names name ≡ Some s → source_columns names name ≡ s.columns
unfolding source_columns
columns_of_source names name s h = ap (λ (o : Option Source). elim o as (λ x. List NamedColumn) [ Some x ↦ x.columns | None ↦ [] ]) h

pub source_suits : (names : Names) (ranges : List NamedRange) (shape : Shape) → Around names ranges shape → (columns : List Column) → length columns ≤ greatest
    → list_all default_suits columns ≡ true → (listed : Option (List (List ℕ))) → unknown_in_listed (named_columns columns) listed ≡ None → (s : InsertSource)
    → is_insert_source s ≡ true → unknown_in_source names ranges s ≡ None → misshaped_source names ranges (target_types (named_columns columns) listed) s ≡ false
    → rows_suit names.tables shape (target_kinds (map (λ c. c.kind) columns) (bound_columns (named_columns columns) listed)) (bound_source names ranges columns listed s) ≡ true
unfolding bound_source misshaped_source
source_suits names ranges shape a columns few d listed known (source.Values tuples) i u w =
    all_by (values_suit shape (target_kinds (map (λ c. c.kind) columns) (bound_columns (named_columns columns) listed))) (map (bound_tuple columns listed ranges) tuples)
    (λ j es h.
    let made = made_of (bound_tuple columns listed ranges) tuples j es h in
    let deep = a.few in
    ap (values_suit shape (target_kinds (map (λ c. c.kind) columns) (bound_columns (named_columns columns) listed))) made.2
    ∙ tuple_suits ranges shape a.matches (omega arith) columns few d listed known made.0
    (none_told (λ tuple. first_of (unknown_in_value ranges) tuple) tuples u j made.0 made.1)
    (any_at (misshaped_tuple (target_types (named_columns columns) listed) ranges) tuples w j made.0 made.1))
source_suits names ranges shape a columns few d listed known (source.Select l r filter) i u w = by (source_is names r.table of_source)
  where
    inner : List NamedRange
    inner = range_of names r ∷ ranges

    asked : (unknown_in_from names r ≡ None) × (option_or (unknown_in_select_list inner l) (unknown_in_filter names inner filter) ≡ None)
    asked = none_parts (unknown_in_from names r) (option_or (unknown_in_select_list inner l) (unknown_in_filter names inner filter)) u

    of_source : not (is_source names r.table) ≡ false
    of_source = untold (not (is_source names r.table)) (table_item r.table) asked.0

    known_parts : (unknown_in_select_list inner l ≡ None) × (unknown_in_filter names inner filter ≡ None)
    known_parts = none_parts (unknown_in_select_list inner l) (unknown_in_filter names inner filter) asked.1

    kinds_parts : (list_clashes (target_types (named_columns columns) listed) (source_columns names r.table) inner l ≡ false) × ((misshaped_list inner l || misshaped_filter names inner filter) ≡ false)
    kinds_parts = or_parts (list_clashes (target_types (named_columns columns) listed) (source_columns names r.table) inner l) (misshaped_list inner l || misshaped_filter names inner filter) w

    shaped : (misshaped_list inner l ≡ false) × (misshaped_filter names inner filter ≡ false)
    shaped = or_parts (misshaped_list inner l) (misshaped_filter names inner filter) kinds_parts.1

    writable : is_filter filter ≡ true
    writable = (and_parts (is_range r) (is_filter filter) (and_parts (is_list l) (is_range r && is_filter filter) i).1).1

    targets : List (Option Kind)
    targets = target_kinds (map (λ c. c.kind) columns) (bound_columns (named_columns columns) listed)

    whole : Range → Bool
    whole x =
        is_range_there names.tables x
        && (outputs_suit (shape_within shape (range_kinds shape x)) (range_kinds shape x) targets (bound_list inner l)
        && suits (shape_within shape (range_kinds shape x)) (bound_filter names inner filter))

    by : (s : Source) × (source_named names r.table ≡ Some s) → whole (source_range names r.table) ≡ true
    by (s, e) =
        let m = range_within names ranges shape r s a.matches a.sources e in
        let deep = a.few in
        ap whole (range_of_source names r.table s e)
        ∙ and_from _ _ (a.there r.table s e)
        (and_from _ _
        (list_suits columns few listed known s.columns (range_kinds shape s.range) (a.sources r.table s e) inner (shape_within shape (range_kinds shape s.range)) m (omega arith) l
        known_parts.0 shaped.0
        (ap (λ (cs : List NamedColumn). list_clashes (target_types (named_columns columns) listed) cs inner l) (sym (columns_of_source names r.table s e)) ∙ kinds_parts.0))
        (filter_suits names inner (shape_within shape (range_kinds shape s.range)) m (omega arith) (sources_within names shape (range_kinds shape s.range) a.sources) filter
        writable known_parts.1 shaped.1))
