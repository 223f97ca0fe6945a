-- What a name of a column, a range or a table means where it is written ("Identifier chain", "Column reference", "Table reference").
use Rattle.std.specs.Prelude.{ℕ, ◌+◌, Bool, true, false, if◌then◌else◌, min, List, [], ◌∷◌, length, map, find, position, slice_get, Option, Some, None, is_some, unwrap_or, option_map}
use Rattle.std.specs.Option.{option_or}
use Rattle.std.specs.Str.{bytes_eq}
use Rattle.iv_resolution.specs.Types.{Kind, Side, Range, ColumnType, ColumnName, RangeName, Column, Table}
use Rattle.iv_resolution.specs.Types.kind
use Rattle.iv_resolution.specs.Types.range
use Rattle.iv_resolution.specs.Types.type
use Rattle.iv_resolution.specs.declared.origin.Origin.{Origin}
use Rattle.iv_resolution.specs.declared.origin.Origin.TheVariants.{Rows, Variable}

-- ---- columns

-- a column as names and kinds see it: a column of a table, or one that a CREATE TABLE defines
pub record NamedColumn : Type 0 where
  pub name : List ℕ
  pub kind : ColumnType

-- the type of a column of this kind, as it is written
abbrev pub type_of : Kind → ColumnType
type_of kind.Integer = type.Integer
type_of (kind.Varchar n) = type.Varchar n

abbrev pub named_column : Column → NamedColumn
named_column c = record { name = c.name; kind = type_of c.kind }

abbrev pub named_columns : List Column → List NamedColumn
named_columns columns = map named_column columns

-- Places and counts of ranges are numbers of 32 bits, far beyond the limits of the language.
abbrev pub number : ℕ → ℕ
number n = min n 4294967295

-- the place of the first column of that name
abbrev pub column_place : List NamedColumn → List ℕ → Option ℕ
column_place columns name = option_map number (position (λ c. bytes_eq name c.name) columns)

abbrev pub place_of : List NamedColumn → List ℕ → ℕ
place_of columns name = unwrap_or (column_place columns name) 0

abbrev pub has_column : List NamedColumn → List ℕ → Bool
has_column columns name = is_some (column_place columns name)

-- the type of the first column of that name
abbrev pub type_named : List NamedColumn → List ℕ → Option ColumnType
type_named columns name = option_map (λ c. c.kind) (find (λ c. bytes_eq name c.name) columns)

-- ---- ranges and row variables

-- A range of a FROM, of UPDATE, of DELETE or of a CHECK, or a row variable, with the name that it is called by.
pub record NamedRange : Type 0 where
  pub name : List ℕ
  pub columns : List NamedColumn
  pub origin : Origin

-- a row variable is seen only by its name
abbrev pub is_rows : NamedRange → Bool
is_rows r = elim r.origin [ Rows ↦ true | Variable side ↦ false ]

-- a column of a range that so many ranges are inside of, or of a row variable, for which this count is 0
pub record Found : Type 0 where
  pub origin : Origin
  pub outward : ℕ
  pub place : ℕ
  pub kind : ColumnType

abbrev pub count_outward : Origin → ℕ → ℕ
count_outward Rows outward = outward
count_outward (Variable side) outward = 0

-- the column of that name in a range that so many others are inside of
abbrev pub found_in : NamedRange → ℕ → List ℕ → Option Found
found_in r outward name =
    option_map (λ kind. record { origin = r.origin; outward = count_outward r.origin outward; place = place_of r.columns name; kind = kind }) (type_named r.columns name)

-- An unqualified name: the innermost range that has such a column. Ranges are listed from the innermost outward.
abbrev pub unqualified : List ℕ → ℕ → List NamedRange → Option Found
unqualified name outward [] = None
unqualified name outward (r ∷ ranges) =
    option_or (if is_rows r then found_in r outward name else None) (unqualified name (number (outward + 1)) ranges)

-- A qualified name: the innermost range or row variable of that name, and no other.
abbrev pub qualified : List ℕ → List ℕ → ℕ → List NamedRange → Option Found
qualified range name outward [] = None
qualified range name outward (r ∷ ranges) = if bytes_eq range r.name then found_in r outward name else qualified range name (number (outward + 1)) ranges

-- The column that is meant.
unfoldable pub column_meant : List NamedRange → ColumnName → Option Found
column_meant ranges c = elim c.qualifier [ Some range ↦ qualified range c.name 0 ranges | None ↦ unqualified c.name 0 ranges ]

-- ---- tables

-- a table that FROM may name
pub record NamedTable : Type 0 where
  pub name : List ℕ
  pub columns : List NamedColumn

-- the name of a transition table
pub record NamedTransition : Type 0 where
  pub name : List ℕ
  pub side : Side

-- The tables that names are looked for among: the one that a CREATE TABLE makes, which its own constraints may name, before those that
-- there are; and in a trigger the transition tables, which have the columns of the trigger's table.
pub record Names : Type 0 where
  pub created : Option NamedTable
  pub tables : List Table
  pub transitions : List NamedTransition
  pub subject : List NamedColumn

-- a table, by its place, or a transition table, with its columns
pub record Source : Type 0 where
  pub range : Range
  pub columns : List NamedColumn

-- the place of a table in the catalogue
abbrev pub table_place : List Table → List ℕ → Option ℕ
table_place tables name = position (λ t. bytes_eq name t.name) tables

abbrev pub stored_source : List Table → List ℕ → Option Source
stored_source tables name =
    elim (table_place tables name) [
      | Some place ↦ option_map (λ t. record { range = range.Table place; columns = named_columns t.columns }) (slice_get tables place)
      | None ↦ None
    ]

-- the new table gets the place after those that there are
abbrev pub created_source : Names → List ℕ → Option Source
created_source names name =
    elim names.created [
      | Some t ↦ if bytes_eq name t.name then Some (record { range = range.Table (length names.tables); columns = t.columns }) else None
      | None ↦ None
    ]

-- the side of a transition table of that name
abbrev pub transition_named : List NamedTransition → List ℕ → Option Side
transition_named transitions name = option_map (λ t. t.side) (find (λ t. bytes_eq name t.name) transitions)

abbrev pub transition_source : Names → List ℕ → Option Source
transition_source names name = option_map (λ side. record { range = range.Transition side; columns = names.subject }) (transition_named names.transitions name)

-- What a FROM names: a transition table before a table.
unfoldable pub source_named : Names → List ℕ → Option Source
source_named names name = option_or (transition_source names name) (option_or (created_source names name) (stored_source names.tables name))

unfoldable pub is_source : Names → List ℕ → Bool
is_source names name = is_some (source_named names name)

-- the columns of what a FROM names; none if it names nothing
unfoldable pub source_columns : Names → List ℕ → List NamedColumn
source_columns names name = elim (source_named names name) [ Some s ↦ s.columns | None ↦ [] ]

unfoldable pub source_range : Names → List ℕ → Range
source_range names name = elim (source_named names name) [ Some s ↦ s.range | None ↦ range.Table 0 ]

-- The range of a FROM is called by its alias, or by the table's name without one.
unfoldable pub range_of : Names → RangeName → NamedRange
range_of names r = record { name = unwrap_or r.alias r.table; columns = source_columns names r.table; origin = Rows }

-- the range of a table that is called by its own name
abbrev pub own_range : List ℕ → List NamedColumn → NamedRange
own_range name columns = record { name = name; columns = columns; origin = Rows }
