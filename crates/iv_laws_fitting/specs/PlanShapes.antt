-- When a plan fits the tables that it is of: each place is one of a column that is there, and each value is of its column's kind. It is
-- said only by the kinds of columns, before any row is there ("Store assignment", "Value expression", "Search condition").
use Rattle.std.specs.Prelude.{ℕ, Bool, true, false, not, ◌&&◌, List, [], ◌∷◌, length, map, Option, Some, None, is_some, slice_get, nat_le, nat_lt}
use Rattle.std.specs.List.{list_all}
use Rattle.iv_laws_fitting.specs.Types.{Kind, Expr, Range, Granularity, TriggerEvent, Column, Table, BodyStatement, DataStatement, InsertColumns, InsertRows, Outputs, QueryPlan, Setting, Trigger}
use Rattle.iv_laws_fitting.specs.Types.kind.{Integer, Varchar}
use Rattle.iv_laws_fitting.specs.Types.range
use Rattle.iv_laws_fitting.specs.Types.granularity
use Rattle.iv_laws_fitting.specs.Types.event
use Rattle.iv_laws_fitting.specs.Types.body
use Rattle.iv_laws_fitting.specs.Types.data_statement.{Insert, Update, Delete}
use Rattle.iv_laws_fitting.specs.Types.insert_columns as columns
use Rattle.iv_laws_fitting.specs.Types.insert_rows as rows
use Rattle.iv_laws_fitting.specs.Types.outputs
use Rattle.iv_laws_fitting.specs.Types.query
use Rattle.iv_value.specs.Values.{fit_of}
use Rattle.iv_expr.specs.Suiting.{Sort, nulls, numbers, texts, Shape, shape_within, range_kinds, sort_of, suits}
use Rattle.iv_catalogue.specs.declared.limits.TheConstants.{MOST_COLUMNS}
use Rattle.iv_catalogue.specs.Names.{has_repeated}
use Rattle.iv_store.specs.Stores.{is_fit}

-- ---- kinds of tables

abbrev pub kinds_of : Table → List Kind
kinds_of t = map (λ c. c.kind) t.columns

-- the kinds of the columns of the table at this place; none if there is no table
abbrev pub table_kinds : List Table → ℕ → List Kind
table_kinds tables place = elim (slice_get tables place) [ Some t ↦ kinds_of t | None ↦ [] ]

-- outside of triggers there are no row variables and no transition tables
abbrev pub plain_shape : List Table → Shape
plain_shape tables = record { ranges = []; old = None; new = None; transition = []; tables = table_kinds tables }

abbrev pub is_there : List Table → ℕ → Bool
is_there tables place = nat_lt place (length tables)

-- a transition table is always there, though it may have no rows
abbrev pub is_range_there : List Table → Range → Bool
is_range_there tables (range.Table place) = is_there tables place
is_range_there tables (range.Transition side) = true

-- ---- values for columns

-- Values of this sort may be stored in a column of this kind: NULL in each.
abbrev pub sort_suits : Kind → Option Sort → Bool
sort_suits kind (Some nulls) = true
sort_suits Integer (Some numbers) = true
sort_suits (Varchar n) (Some texts) = true
sort_suits _ _ = false

-- The expression suits the column of this kind, which is there.
abbrev pub value_suits : Shape → Option Kind → Expr → Bool
value_suits shape (Some kind) e = sort_suits kind (sort_of shape e)
value_suits shape None e = false

-- as many expressions as columns, each suits its own
abbrev pub values_suit : Shape → List (Option Kind) → List Expr → Bool
values_suit shape [] [] = true
values_suit shape (kind ∷ kinds) (e ∷ es) = value_suits shape kind e && values_suit shape kinds es
values_suit shape _ _ = false

-- Values of a column of the second kind may be stored in one of the first, if they aren't too long.
abbrev pub kind_suits : Option Kind → Kind → Bool
kind_suits (Some Integer) Integer = true
kind_suits (Some (Varchar m)) (Varchar n) = true
kind_suits _ _ = false

abbrev pub kinds_suit : List (Option Kind) → List Kind → Bool
kinds_suit [] [] = true
kinds_suit (kind ∷ kinds) (other ∷ others) = kind_suits kind other && kinds_suit kinds others
kinds_suit _ _ = false

-- ---- tables

-- a default fits its column, by its kind and its length
abbrev pub default_suits : Column → Bool
default_suits c = is_fit (fit_of c.default c.kind)

-- A table has no more columns than it may, each has a name of its own, and each default fits its column.
abbrev pub table_suits : Table → Bool
table_suits t = nat_le (length t.columns) MOST_COLUMNS && (list_all default_suits t.columns && not (has_repeated [] (map (λ c. c.name) t.columns)))

-- ---- INSERT, UPDATE, DELETE and SELECT

-- the kinds of the columns that an INSERT has values for
abbrev pub target_kinds : List Kind → InsertColumns → List (Option Kind)
target_kinds kinds columns.All = map (λ kind. Some kind) kinds
target_kinds kinds (columns.Listed places) = map (slice_get kinds) places

-- what a query gives suits these columns; its range has the columns given first
abbrev pub outputs_suit : Shape → List Kind → List (Option Kind) → Outputs → Bool
outputs_suit shape own kinds outputs.Star = kinds_suit kinds own
outputs_suit shape own kinds (outputs.Values es) = values_suit shape kinds es

abbrev pub rows_suit : List Table → Shape → List (Option Kind) → InsertRows → Bool
rows_suit tables shape kinds (rows.Values tuples) = list_all (values_suit shape kinds) tuples
rows_suit tables shape kinds (rows.Query listed source filter) =
    is_range_there tables source
    && (outputs_suit (shape_within shape (range_kinds shape source)) (range_kinds shape source) kinds listed
    && suits (shape_within shape (range_kinds shape source)) filter)

-- a column that is set is there, and its value suits it
abbrev pub setting_suits : Shape → List Kind → Setting → Bool
setting_suits shape kinds s = value_suits shape (slice_get kinds s.column) s.value

abbrev pub data_suits : List Table → Shape → DataStatement → Bool
data_suits tables shape (Insert t listed given) =
    is_there tables t && rows_suit tables shape (target_kinds (table_kinds tables t) listed) given
data_suits tables shape (Update t settings filter) =
    is_there tables t
    && (list_all (setting_suits (shape_within shape (table_kinds tables t)) (table_kinds tables t)) settings
    && suits (shape_within shape (table_kinds tables t)) filter)
data_suits tables shape (Delete t filter) = is_there tables t && suits (shape_within shape (table_kinds tables t)) filter

abbrev pub has_sort : Shape → Expr → Bool
has_sort shape e = is_some (sort_of shape e)

abbrev pub listed_suit : Shape → Outputs → Bool
listed_suit shape outputs.Star = true
listed_suit shape (outputs.Values es) = list_all (has_sort shape) es

abbrev pub query_suits : List Table → QueryPlan → Bool
query_suits tables (query.Rows t listed filter) =
    is_there tables t
    && (listed_suit (shape_within (plain_shape tables) (table_kinds tables t)) listed && suits (shape_within (plain_shape tables) (table_kinds tables t)) filter)
query_suits tables (query.Count t filter) = is_there tables t && suits (shape_within (plain_shape tables) (table_kinds tables t)) filter

-- ---- triggers

-- a row variable is there for each row, if the event has rows of its side
abbrev pub old_kinds : Granularity → TriggerEvent → List Kind → Option (List Kind)
old_kinds granularity.Row event.Update kinds = Some kinds
old_kinds granularity.Row event.Delete kinds = Some kinds
old_kinds _ _ kinds = None

abbrev pub new_kinds : Granularity → TriggerEvent → List Kind → Option (List Kind)
new_kinds granularity.Row event.Update kinds = Some kinds
new_kinds granularity.Row event.Insert kinds = Some kinds
new_kinds _ _ kinds = None

-- what WHEN and the body of a trigger on a table with these columns see
abbrev pub trigger_shape : List Table → Granularity → TriggerEvent → List Kind → Shape
trigger_shape tables g e kinds = record { ranges = []; old = old_kinds g e kinds; new = new_kinds g e kinds; transition = kinds; tables = table_kinds tables }

abbrev pub action_suits : List Table → Shape → List Kind → BodyStatement → Bool
action_suits tables shape kinds (body.Data statement) = data_suits tables shape statement
action_suits tables shape kinds (body.Signal text) = true
action_suits tables shape kinds (body.Set setting) = setting_suits shape kinds setting

abbrev pub trigger_suits : List Table → Trigger → Bool
trigger_suits tables t =
    is_there tables t.table
    && (suits (trigger_shape tables t.granularity t.event (table_kinds tables t.table)) t.when
    && list_all (action_suits tables (trigger_shape tables t.granularity t.event (table_kinds tables t.table)) (table_kinds tables t.table)) t.body)
