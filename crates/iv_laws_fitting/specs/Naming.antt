-- Which column, table or row variable a name names, as relations: no search, and no order of searching ("Identifier chain", "Column
-- reference", "Table reference").
use Rattle.std.specs.Prelude.{◌≡◌, ℕ, Bool, true, false, ◌&&◌, List, ◌∷◌, ◌++◌, length, Option, Some, None}
use Rattle.std.specs.List.{list_any}
use Rattle.std.specs.Str.{bytes_eq}
use Rattle.iv_expr.specs.declared.tree.Range.TheVariants as range
use Rattle.iv_syntax.specs.declared.tree.ColumnName.{ColumnName}
use Rattle.iv_catalogue.specs.declared.catalogue.Table.{Table}
use Rattle.iv_resolution.specs.declared.origin.Origin.{Origin}
use Rattle.iv_resolution.specs.Scopes.{NamedColumn, NamedRange, NamedTable, NamedTransition, Names, Found, Source, number, count_outward, is_rows, named_columns}

-- ---- the first of a list

-- An element of the list that passes the test, with so many before it, none of which passes.
pub record IsFirst {X : Type 0} (passes : X → Bool) (list : List X) (place : ℕ) (element : X) : Type 0 where
  pub before : List X
  pub after : List X
  pub split : list ≡ before ++ element ∷ after
  pub passed : passes element ≡ true
  pub none_before : list_any passes before ≡ false
  pub counted : place ≡ length before

-- no element of the list passes the test
abbrev pub NonePasses : {X : Type 0} → (X → Bool) → List X → Type 0
NonePasses passes list = list_any passes list ≡ false

-- ---- columns

abbrev pub column_is_called : List ℕ → NamedColumn → Bool
column_is_called name c = bytes_eq name c.name

-- What is found is the first column of this name in a range that so many ranges are inside of.
pub record ColumnOfRange (r : NamedRange) (inside : ℕ) (name : List ℕ) (found : Found) : Type 0 where
  pub place : ℕ
  pub column : NamedColumn
  pub first : IsFirst (column_is_called name) r.columns place column
  pub is : found ≡ record { origin = r.origin; outward = count_outward r.origin (number inside); place = number place; kind = column.kind }

-- A range whose columns an unqualified name may be of: its rows are seen, so it is no row variable, and it has a column of that name.
abbrev pub offers : List ℕ → NamedRange → Bool
offers name r = is_rows r && list_any (column_is_called name) r.columns

-- An unqualified name names a column of the innermost range that has one of that name, and never one of a row variable. Ranges are listed
-- from the innermost outward.
pub record NamesAlone (ranges : List NamedRange) (name : List ℕ) (found : Found) : Type 0 where
  pub range : NamedRange
  pub inside : ℕ
  pub innermost : IsFirst (offers name) ranges inside range
  pub column : ColumnOfRange range inside name found

abbrev pub range_is_called : List ℕ → NamedRange → Bool
range_is_called name r = bytes_eq name r.name

-- A qualified name names a column of the innermost range or row variable that is called so, and of no other. A range is called by its alias
-- if it has one, so an alias hides the name of its table, and an inner range hides an outer one of its name.
pub record NamesQualified (ranges : List NamedRange) (qualifier : List ℕ) (name : List ℕ) (found : Found) : Type 0 where
  pub range : NamedRange
  pub inside : ℕ
  pub innermost : IsFirst (range_is_called qualifier) ranges inside range
  pub column : ColumnOfRange range inside name found

-- The column that a name names.
abbrev pub NamesColumn : List NamedRange → ColumnName → Found → Type 0
NamesColumn ranges c found = elim c.qualifier [ Some qualifier ↦ NamesQualified ranges qualifier c.name found | None ↦ NamesAlone ranges c.name found ]

-- ---- tables

abbrev pub table_is_called : List ℕ → Table → Bool
table_is_called name t = bytes_eq name t.name

abbrev pub transition_is_called : List ℕ → NamedTransition → Bool
transition_is_called name t = bytes_eq name t.name

-- the table that a CREATE TABLE makes is called so
abbrev pub created_is_called : List ℕ → Option NamedTable → Bool
created_is_called name None = false
created_is_called name (Some t) = bytes_eq name t.name

-- What a FROM names: in a trigger a transition table of that name before any table, in a CREATE TABLE its own table before any other,
-- and else the table of that name in the catalogue.
pub data NamesSource (names : Names) (name : List ℕ) (source : Source) : Type 0 where
  transition : (place : ℕ) → (t : NamedTransition) → IsFirst (transition_is_called name) names.transitions place t
      → source ≡ record { range = range.Transition t.side; columns = names.subject } → NamesSource names name source
  created : (t : NamedTable) → NonePasses (transition_is_called name) names.transitions → names.created ≡ Some t → bytes_eq name t.name ≡ true
      → source ≡ record { range = range.Table (length names.tables); columns = t.columns } → NamesSource names name source
  stored : (place : ℕ) → (t : Table) → NonePasses (transition_is_called name) names.transitions → created_is_called name names.created ≡ false
      → IsFirst (table_is_called name) names.tables place t
      → source ≡ record { range = range.Table place; columns = named_columns t.columns } → NamesSource names name source

-- What INSERT, UPDATE, DELETE, CREATE TRIGGER and ALTER TABLE name: a table of the catalogue, whatever a transition table is called.
abbrev pub NamesTarget : List Table → List ℕ → ℕ → Type 0
NamesTarget tables name place = (t : Table) × IsFirst (table_is_called name) tables place t

-- ---- row variables

-- What SET names before its column: a row variable.
pub record NamesVariable (variables : List NamedRange) (name : List ℕ) (origin : Origin) : Type 0 where
  pub place : ℕ
  pub variable : NamedRange
  pub first : IsFirst (range_is_called name) variables place variable
  pub is : origin ≡ variable.origin
