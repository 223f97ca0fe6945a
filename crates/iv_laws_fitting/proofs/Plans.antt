-- The plans of INSERT, UPDATE, DELETE and SELECT statements that deserve no cause.
use Rattle.std.proofs.Common.{◌≡◌, ℕ, ◌≤◌, Bool, true, false, not, ◌&&◌, List, [], ◌∷◌, ◌∙◌, Option, Some, None, Ok, refl, sym, ap, cond, length, map, slice_get, subst, unwrap_or, arith}
use Rattle.std.proofs.lemmas.Bool.{and_from, and_parts, not-false, or_parts}
use Rattle.std.specs.Option.{option_or}
use Rattle.std.specs.List.{list_all}
use Rattle.iv_laws_fitting.specs.Types.{Kind, Statement, Table, Cause, DataStatement, QueryPlan}
use Rattle.iv_laws_fitting.specs.Types.range
use Rattle.iv_laws_fitting.specs.Types.cause.{Unknown, Duplicate, SchemaFault, WrongShape, Limit}
use Rattle.iv_laws_fitting.specs.Types.plan
use Rattle.iv_laws_fitting.specs.Types.query
use Rattle.iv_expr.specs.Suiting.{Shape, shape_within, range_kinds, suits}
use Rattle.iv_syntax.specs.declared.tree.Condition.{Condition}
use Rattle.iv_syntax.specs.declared.tree.RangeName.{RangeName}
use Rattle.iv_syntax.specs.declared.statement.SelectList.{SelectList}
use Rattle.iv_syntax.specs.declared.statement.SelectList.TheVariants as list
use Rattle.iv_syntax.specs.declared.statement.Select.{Select}
use Rattle.iv_syntax.specs.declared.statement.Select.TheVariants as select
use Rattle.iv_syntax.specs.declared.statement.Statement.TheVariants as statement
use Rattle.iv_catalogue.specs.Catalogues.{Schema}
use Rattle.iv_catalogue.specs.declared.plan.Plan.{Plan}
use Rattle.iv_catalogue.specs.declared.plan.TransactionPlan.TheVariants as transaction
use Rattle.iv_resolution.specs.Scopes.{NamedRange, Names, Source, source_named, is_source, range_of, named_columns, table_place}
use Rattle.iv_resolution.specs.Terms.{misshaped_expression, misshaped_filter, bound_expression, bound_filter}
use Rattle.iv_resolution.specs.Constraints.{WrittenConstraint, table_constraint}
use Rattle.iv_resolution.specs.Tables.{table_names, altered_at}
use Rattle.iv_resolution.specs.Changes.{misshaped_list, misshaped_query, misshaped_select}
use Rattle.iv_resolution.specs.Bound.{table_id, bound_list, bound_select, bound, bound_addition}
use Rattle.iv_resolution.specs.Resolution.{is_unknown, is_duplicate, is_faulty, is_misshaped, is_too_large, is_beyond_limits, least, refused_or_planned, resolution}
use Rattle.iv_resolution.specs.Writable.{is_writable, is_select, is_list, is_range, is_filter}
use Rattle.iv_resolution.specs.Items.{table_item}
use Rattle.iv_resolution.specs.NameFaults.{unknown_in_expression, unknown_in_filter, unknown_in_from, unknown_in_query, unknown_in_select, unknown_in_select_list, unknown_name, duplicate_name}
use Rattle.iv_resolution.proofs.Told.{none_of, none_parts, none_told, untold}
use Rattle.iv_laws_fitting.specs.Naming.{NamesSource, transition, created, stored}
use Rattle.iv_laws_fitting.proofs.Firsts.{first_there, first_position}
use Rattle.iv_laws_fitting.proofs.NamesFound.{sources}
use Rattle.iv_laws_fitting.specs.Laws.{ChangesFit, QueriesFit}
use Rattle.iv_laws_fitting.specs.PlanShapes.{kinds_of, table_kinds, plain_shape, is_there, is_range_there, table_suits, data_suits, has_sort, listed_suit, query_suits}
use Rattle.iv_laws_fitting.proofs.ColumnKinds.{ColumnsMatch, Matches, stored_match, greatest}
use Rattle.iv_laws_fitting.proofs.Conditions.{sources_within, range_within, source_is, has_sort_of}
use Rattle.iv_laws_fitting.proofs.Expressions.{sorted}
use Rattle.iv_laws_fitting.proofs.Pointwise.{any_at, all_at, made_of, all_by}
use Rattle.iv_laws_fitting.proofs.Targets.{place_is_there, few_columns}
use Rattle.iv_laws_fitting.proofs.Changes.{Around, filter_suits}
use Rattle.iv_laws_fitting.proofs.Statements.{insert_suits, update_suits, delete_suits}

-- ---- statements that deserve no cause

-- no cause is deserved, and the plan is the one that is bound
pub record Accepted (schema : Schema) (s : Statement) (p : Plan) : Type 0 where
  pub known : unknown_name schema s ≡ None
  pub single : duplicate_name schema s ≡ None
  pub allowed : is_faulty schema s ≡ false
  pub shaped : is_misshaped schema s ≡ false
  pub small : is_too_large schema s ≡ false
  pub writable : is_writable s ≡ true
  pub is : bound schema s ≡ p

planned_is : (o : Option Cause) (p q : Plan) → refused_or_planned o p ≡ Ok q → (o ≡ None) × (p ≡ q)
planned_is None p q h = (refl, cc)
planned_is (Some cause) p q h = cc

none_deserved : (a b c d e : Bool)
    → cond a (Some Unknown) (cond b (Some Duplicate) (cond c (Some SchemaFault) (cond d (Some WrongShape) (cond e (Some Limit) None)))) ≡ None
    → (a ≡ false) × (b ≡ false) × (c ≡ false) × (d ≡ false) × (e ≡ false)
none_deserved true b c d e h = cc
none_deserved false true c d e h = cc
none_deserved false false true d e h = cc
none_deserved false false false true e h = cc
none_deserved false false false false true h = cc
none_deserved false false false false false h = (refl, refl, refl, refl, refl)

pub accepted : (schema : Schema) (s : Statement) (p : Plan) → resolution schema s ≡ Ok p → Accepted schema s p
accepted schema s p h =
    let parts = planned_is (least schema s) (bound schema s) p h in
    let none = none_deserved (is_unknown schema s) (is_duplicate schema s) (is_faulty schema s) (is_misshaped schema s) (is_beyond_limits schema s) parts.0 in
    let limits = or_parts (is_too_large schema s) (not (is_writable s)) none.4 in
    record {
      known = none_of (unknown_name schema s) none.0;
      single = none_of (duplicate_name schema s) none.1;
      allowed = none.2;
      shaped = none.3;
      small = limits.0;
      writable = not-false (is_writable s) limits.1;
      is = parts.1;
    }

-- ---- outside of triggers

-- a table that a name means, in the shape of its tables
pub stored_kinds : (tables : List Table) (place : ℕ) (t : Table) → list_all table_suits tables ≡ true → slice_get tables place ≡ Some t
    → ColumnsMatch (named_columns t.columns) (table_kinds tables place)
stored_kinds tables place t d h =
    subst (ColumnsMatch (named_columns t.columns)) (sym (ap (λ (o : Option Table). elim o as (λ x. List Kind) [ Some x ↦ kinds_of x | None ↦ [] ]) h))
    (stored_match t (few_columns t (all_at table_suits tables d place t h)))

pub around_plain : (schema : Schema) → list_all table_suits schema.tables ≡ true → Around (table_names schema) [] (plain_shape schema.tables)
around_plain schema d = record {
  matches = record { rows = []; variables = []; split = refl; rows_match = tt; variables_match = tt };
  few = omega arith;
  sources = λ name s h. match_of s ((sources (table_names schema) name).sound s h);
  there = λ name s h. there_of s ((sources (table_names schema) name).sound s h);
  suit = d;
}
  where
    match_of : {name : List ℕ} (s : Source) → NamesSource (table_names schema) name s → ColumnsMatch s.columns (range_kinds (plain_shape schema.tables) s.range)
    match_of s (transition place t f e) = let no = first_there _ [] place t f in cc
    match_of s (created t n c g e) = cc
    match_of s (stored place t n c f e) =
        subst (λ (x : Source). ColumnsMatch x.columns (range_kinds (plain_shape schema.tables) x.range)) (sym e)
        (stored_kinds schema.tables place t d (first_there _ schema.tables place t f))

    there_of : {name : List ℕ} (s : Source) → NamesSource (table_names schema) name s → is_range_there schema.tables s.range ≡ true
    there_of s (transition place t f e) = let no = first_there _ [] place t f in cc
    there_of s (created t n c g e) = cc
    there_of s (stored place t n c f e) =
        ap (λ (x : Source). is_range_there schema.tables x.range) e ∙ place_is_there schema.tables place t (first_there _ schema.tables place t f)

-- ---- SELECT

-- the table of a SELECT's FROM
select_source : (schema : Schema) (name : List ℕ) (s : Source) → NamesSource (table_names schema) name s → (place : ℕ) × (t : Table)
    × (s ≡ record { range = range.Table place; columns = named_columns t.columns }) × (table_place schema.tables name ≡ Some place) × (slice_get schema.tables place ≡ Some t)
select_source schema name s (transition place t f e) = let no = first_there _ [] place t f in cc
select_source schema name s (created t n c g e) = cc
select_source schema name s (stored place t n c f e) = (place, t, e, first_position _ schema.tables place t f, first_there _ schema.tables place t f)

given_suit : (ranges : List NamedRange) (shape : Shape) → Matches ranges shape → length ranges ≤ greatest → (l : SelectList)
    → unknown_in_select_list ranges l ≡ None → misshaped_list ranges l ≡ false → listed_suit shape (bound_list ranges l) ≡ true
unfolding bound_list
given_suit ranges shape m deep list.Star u w = refl
given_suit ranges shape m deep (list.Values es) u w =
    all_by (has_sort shape) (map (bound_expression ranges) es)
    (λ j e h.
    let made = made_of (bound_expression ranges) es j e h in
    ap (has_sort shape) made.2
    ∙ has_sort_of ranges shape made.0
    (sorted ranges shape m deep made.0 (none_told (unknown_in_expression ranges) es u j made.0 made.1) (any_at (misshaped_expression ranges) es w j made.0 made.1)))

-- what a query asks for suits its table
from_suits : (schema : Schema) → list_all table_suits schema.tables ≡ true → (l : SelectList) (r : RangeName) (filter : Option Condition) → is_filter filter ≡ true
    → unknown_in_query (table_names schema) [] l r filter ≡ None → misshaped_query (table_names schema) [] l r filter ≡ false
    → query_suits schema.tables (query.Rows (table_id (table_names schema) r.table) (bound_list (range_of (table_names schema) r ∷ []) l) (bound_filter (table_names schema) (range_of (table_names schema) r ∷ []) filter)) ≡ true
unfolding table_id
from_suits schema d l r filter i u w = by (source_is names r.table of_source)
  where
    names : Names
    names = table_names schema

    shape : Shape
    shape = plain_shape schema.tables

    inner : List NamedRange
    inner = range_of (table_names schema) r ∷ []

    asked : (unknown_in_from names r ≡ None) × (option_or (unknown_in_select_list inner l) (unknown_in_filter names inner filter) ≡ None)
    asked = none_parts (unknown_in_from names r) (option_or (unknown_in_select_list inner l) (unknown_in_filter names inner filter)) u

    of_source : not (is_source names r.table) ≡ false
    of_source = untold (not (is_source names r.table)) (table_item r.table) asked.0

    known : (unknown_in_select_list inner l ≡ None) × (unknown_in_filter names inner filter ≡ None)
    known = none_parts (unknown_in_select_list inner l) (unknown_in_filter names inner filter) asked.1

    shaped : (misshaped_list (range_of (table_names schema) r ∷ []) l ≡ false) × (misshaped_filter (table_names schema) (range_of (table_names schema) r ∷ []) filter ≡ false)
    shaped = or_parts _ _ w

    whole : ℕ → Bool
    whole id =
        is_there schema.tables id
        && (listed_suit (shape_within (plain_shape schema.tables) (table_kinds schema.tables id)) (bound_list (range_of (table_names schema) r ∷ []) l)
        && suits (shape_within (plain_shape schema.tables) (table_kinds schema.tables id)) (bound_filter (table_names schema) (range_of (table_names schema) r ∷ []) filter))

    by : (s : Source) × (source_named (table_names schema) r.table ≡ Some s) → whole (table_id (table_names schema) r.table) ≡ true
    by (s, e) =
        let at = select_source schema r.table s ((sources (table_names schema) r.table).sound s e) in
        let a = around_plain schema d in
        let place = at.0 in
        let here : source_named (table_names schema) r.table ≡ Some (record { range = range.Table place; columns = named_columns at.1.columns }) =
        e ∙ ap (λ (x : Source). Some x) at.2 in
        let m = range_within (table_names schema) [] (plain_shape schema.tables) r (record { range = range.Table place; columns = named_columns at.1.columns }) a.matches a.sources here in
        ap (λ (o : Option ℕ). whole (unwrap_or o 0)) at.3
        ∙ and_from _ _ (place_is_there schema.tables place at.1 at.4)
        (and_from _ _
        (given_suit (range_of (table_names schema) r ∷ []) (shape_within (plain_shape schema.tables) (table_kinds schema.tables place)) m (omega arith) l known.0 shaped.0)
        (filter_suits (table_names schema) (range_of (table_names schema) r ∷ []) (shape_within (plain_shape schema.tables) (table_kinds schema.tables place)) m (omega arith)
        (sources_within (table_names schema) (plain_shape schema.tables) (table_kinds schema.tables place) a.sources) filter i known.1 shaped.1))

select_suits : (schema : Schema) → list_all table_suits schema.tables ≡ true → (s : Select) → is_select s ≡ true
    → unknown_in_select (table_names schema) [] s ≡ None → misshaped_select (table_names schema) [] s ≡ false → query_suits schema.tables (bound_select (table_names schema) s) ≡ true
unfolding bound_list
select_suits schema d (select.Rows l r filter) i u w =
    from_suits schema d l r filter (and_parts (is_range r) (is_filter filter) (and_parts (is_list l) (is_range r && is_filter filter) i).1).1 u w
select_suits schema d (select.Count r filter) i u w = from_suits schema d list.Star r filter (and_parts (is_range r) (is_filter filter) i).1 u w

-- ---- the laws

-- what an ALTER TABLE means, by the table that is found
abbrev pub alteration : Schema → ℕ → WrittenConstraint → Option Table → Plan
alteration schema place k o = elim o [ Some t ↦ bound_addition schema (altered_at schema place t) k | None ↦ plan.Transaction transaction.Commit ]

no_change : (schema : Schema) (place : ℕ) (k : WrittenConstraint) (d : DataStatement) (P : Type 0) (o : Option Table) → alteration schema place k o ≡ plan.Change d → P
no_change schema place k d P None h = cc
no_change schema place k d P (Some t) h = cc

no_query : (schema : Schema) (place : ℕ) (k : WrittenConstraint) (q : QueryPlan) (P : Type 0) (o : Option Table) → alteration schema place k o ≡ plan.Query q → P
no_query schema place k q P None h = cc
no_query schema place k q P (Some t) h = cc

pub changes_fit : ChangesFit
changes_fit schema s d tables h = by s (accepted schema s (plan.Change d) h)
  where
    of_plan : (e : DataStatement) → plan.Change e ≡ plan.Change d → data_suits schema.tables (plain_shape schema.tables) e ≡ true → data_suits schema.tables (plain_shape schema.tables) d ≡ true
    of_plan e p x = let same : e ≡ d = cc in ap (data_suits schema.tables (plain_shape schema.tables)) (sym same) ∙ x

    by : (t : Statement) → Accepted schema t (plan.Change d) → data_suits schema.tables (plain_shape schema.tables) d ≡ true
    by (statement.Insert i) a = of_plan _ a.is (insert_suits (table_names schema) [] (plain_shape schema.tables) (around_plain schema tables) i a.writable a.known a.shaped)
    by (statement.Update u) a = of_plan _ a.is (update_suits (table_names schema) [] (plain_shape schema.tables) (around_plain schema tables) u a.writable a.known a.shaped)
    by (statement.Delete e) a = of_plan _ a.is (delete_suits (table_names schema) [] (plain_shape schema.tables) (around_plain schema tables) e a.writable a.known a.shaped)
    by (statement.AlterTable table k) a =
        no_change schema (table_id (table_names schema) table) (table_constraint k) d _ (slice_get schema.tables (table_id (table_names schema) table)) a.is
    by (statement.CreateTable name elements) a = let e = a.is in cc
    by (statement.CreateTrigger t) a = let e = a.is in cc
    by (statement.DropTrigger name) a = let e = a.is in cc
    by (statement.Select x) a = let e = a.is in cc
    by statement.StartTransaction a = let e = a.is in cc
    by statement.Commit a = let e = a.is in cc
    by statement.Rollback a = let e = a.is in cc
    by (statement.Savepoint name) a = let e = a.is in cc
    by (statement.Release name) a = let e = a.is in cc
    by (statement.RollbackTo name) a = let e = a.is in cc
    by (statement.SetConstraints l m) a = let e = a.is in cc

pub queries_fit : QueriesFit
queries_fit schema s q tables h = by s (accepted schema s (plan.Query q) h)
  where
    of_plan : (e : QueryPlan) → plan.Query e ≡ plan.Query q → query_suits schema.tables e ≡ true → query_suits schema.tables q ≡ true
    of_plan e p x = let same : e ≡ q = cc in ap (query_suits schema.tables) (sym same) ∙ x

    by : (t : Statement) → Accepted schema t (plan.Query q) → query_suits schema.tables q ≡ true
    by (statement.Select x) a = of_plan _ a.is (select_suits schema tables x a.writable a.known a.shaped)
    by (statement.AlterTable table k) a =
        no_query schema (table_id (table_names schema) table) (table_constraint k) q _ (slice_get schema.tables (table_id (table_names schema) table)) a.is
    by (statement.Insert i) a = let e = a.is in cc
    by (statement.Update u) a = let e = a.is in cc
    by (statement.Delete e) a = let f = a.is in cc
    by (statement.CreateTable name elements) a = let e = a.is in cc
    by (statement.CreateTrigger t) a = let e = a.is in cc
    by (statement.DropTrigger name) a = let e = a.is in cc
    by statement.StartTransaction a = let e = a.is in cc
    by statement.Commit a = let e = a.is in cc
    by statement.Rollback a = let e = a.is in cc
    by (statement.Savepoint name) a = let e = a.is in cc
    by (statement.Release name) a = let e = a.is in cc
    by (statement.RollbackTo name) a = let e = a.is in cc
    by (statement.SetConstraints l m) a = let e = a.is in cc
