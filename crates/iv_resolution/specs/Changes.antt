-- INSERT, UPDATE, DELETE and SELECT: the table that each is of, and where values don't suit columns ("Insert statement", "Update statement:
-- searched", "Delete statement: searched", "Query specification").
use Rattle.std.specs.Prelude.{ℕ, Bool, false, not, ◌&&◌, ◌||◌, ◌==◌, List, [], ◌∷◌, length, map, zip, Option, Some, None, is_some, slice_get}
use Rattle.std.specs.List.{list_any}
use Rattle.iv_resolution.specs.Types.{ColumnType, Condition, Expression, RangeName, ValueOrDefault, SelectList, InsertSource, Insert, Assignment, Update, Delete, Select, Column, Table}
use Rattle.iv_resolution.specs.Types.given as value
use Rattle.iv_resolution.specs.Types.select_list as list
use Rattle.iv_resolution.specs.Types.source
use Rattle.iv_resolution.specs.Types.insert
use Rattle.iv_resolution.specs.Types.select
use Rattle.iv_resolution.specs.Scopes.{NamedColumn, NamedRange, Names, named_columns, type_named, table_place, source_columns, range_of, own_range}
use Rattle.iv_resolution.specs.Terms.{is_integer_type, is_text_type, is_integer, is_text, misshaped_expression, misshaped_filter}

-- ---- the table that a statement changes: a table of the catalogue, whatever a transition table is called

abbrev pub is_table : Names → List ℕ → Bool
is_table names name = is_some (table_place names.tables name)

-- its columns; none if there is no such table
abbrev pub stored_columns : List Table → List ℕ → List Column
stored_columns tables name =
    elim (table_place tables name) [
      | Some place ↦ elim (slice_get tables place) [ Some t ↦ t.columns | None ↦ [] ]
      | None ↦ []
    ]

abbrev pub target_columns : Names → List ℕ → List NamedColumn
target_columns names name = named_columns (stored_columns names.tables name)

-- the range of UPDATE and DELETE, inside the row variables of a trigger
abbrev pub target_ranges : Names → List ℕ → List NamedRange → List NamedRange
target_ranges names table ranges = own_range table (target_columns names table) ∷ ranges

-- ---- values that don't suit their columns

-- an integer meets a text in the value of a column; a column that isn't there suits every value
unfoldable pub clashes_with : Option ColumnType → List NamedRange → Expression → Bool
clashes_with (Some kind) ranges e = (is_integer_type kind && is_text ranges e) || (is_text_type kind && is_integer ranges e)
clashes_with None ranges e = false

unfoldable pub value_clashes : Option ColumnType → List NamedRange → ValueOrDefault → Bool
value_clashes kind ranges (value.Value e) = clashes_with kind ranges e
value_clashes kind ranges value.Default = false

unfoldable pub misshaped_value : List NamedRange → ValueOrDefault → Bool
misshaped_value ranges (value.Value e) = misshaped_expression ranges e
misshaped_value ranges value.Default = false

-- the types of the columns that an INSERT has values for: those of its list, or all
abbrev pub target_types : List NamedColumn → Option (List (List ℕ)) → List (Option ColumnType)
target_types columns None = map (λ c. Some c.kind) columns
target_types columns (Some names) = map (type_named columns) names

unfoldable pub tuple_clashes : List (Option ColumnType) → List NamedRange → List ValueOrDefault → Bool
tuple_clashes types ranges tuple = list_any (λ p. value_clashes p.0 ranges p.1) (zip types tuple)

-- as many values as columns, each of its column's kind
unfoldable pub misshaped_tuple : List (Option ColumnType) → List NamedRange → List ValueOrDefault → Bool
misshaped_tuple types ranges tuple =
    not (length tuple == length types) || (tuple_clashes types ranges tuple || list_any (misshaped_value ranges) tuple)

-- one column into another
unfoldable pub kinds_clash : Option ColumnType → ColumnType → Bool
kinds_clash (Some a) b = (is_integer_type a && is_text_type b) || (is_text_type a && is_integer_type b)
kinds_clash None b = false

unfoldable pub values_clash : List (Option ColumnType) → List NamedRange → List Expression → Bool
values_clash types ranges es = list_any (λ p. clashes_with p.0 ranges p.1) (zip types es)

unfoldable pub columns_clash : List (Option ColumnType) → List NamedColumn → Bool
columns_clash types columns = list_any (λ p. kinds_clash p.0 p.1.kind) (zip types columns)

-- what a query gives doesn't suit these columns: its range has the columns given first
unfoldable pub list_clashes : List (Option ColumnType) → List NamedColumn → List NamedRange → SelectList → Bool
list_clashes types columns ranges list.Star =
    not (length columns == length types) || columns_clash types columns
list_clashes types columns ranges (list.Values es) =
    not (length es == length types) || values_clash types ranges es

abbrev pub misshaped_list : List NamedRange → SelectList → Bool
misshaped_list ranges list.Star = false
misshaped_list ranges (list.Values es) = list_any (misshaped_expression ranges) es

abbrev pub misshaped_query : Names → List NamedRange → SelectList → RangeName → Option Condition → Bool
misshaped_query names ranges l r filter =
    misshaped_list (range_of names r ∷ ranges) l || misshaped_filter names (range_of names r ∷ ranges) filter

unfoldable pub misshaped_source : Names → List NamedRange → List (Option ColumnType) → InsertSource → Bool
misshaped_source names ranges types (source.Values tuples) = list_any (misshaped_tuple types ranges) tuples
misshaped_source names ranges types (source.Select l r filter) =
    list_clashes types (source_columns names r.table) (range_of names r ∷ ranges) l || misshaped_query names ranges l r filter

abbrev pub misshaped_insert : Names → List NamedRange → Insert → Bool
misshaped_insert names ranges (insert.DefaultValues table) = false
misshaped_insert names ranges (insert.Rows table columns s) =
    misshaped_source names ranges (target_types (target_columns names table) columns) s

unfoldable pub misshaped_assignment : List NamedColumn → List NamedRange → Assignment → Bool
misshaped_assignment columns ranges a =
    value_clashes (type_named columns a.column) ranges a.value || misshaped_value ranges a.value

abbrev pub misshaped_update : Names → List NamedRange → Update → Bool
misshaped_update names ranges u =
    list_any (misshaped_assignment (target_columns names u.table) (target_ranges names u.table ranges)) u.assignments
    || misshaped_filter names (target_ranges names u.table ranges) u.filter

abbrev pub misshaped_delete : Names → List NamedRange → Delete → Bool
misshaped_delete names ranges d = misshaped_filter names (target_ranges names d.table ranges) d.filter

abbrev pub misshaped_select : Names → List NamedRange → Select → Bool
misshaped_select names ranges (select.Count r filter) = misshaped_query names ranges list.Star r filter
misshaped_select names ranges (select.Rows l r filter) = misshaped_query names ranges l r filter
