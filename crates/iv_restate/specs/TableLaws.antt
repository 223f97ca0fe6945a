-- Which columns and constraints a catalogue can have, and what they mean once they are written.
use Rattle.std.specs.Prelude.{◌≡◌, ◌≤◌, ℕ, suc, ◌+◌, pos, negsuc, List, [], ◌∷◌, Some, unwrap_or}
use Rattle.iv_syntax.specs.declared.limits.TheConstants.{GREATEST_INTEGER}
use Rattle.iv_restate.specs.Types.{Value, Kind, Column, Table, ForeignKey, Rule, Constraint, ColumnConstraint, TableConstraint}
use Rattle.iv_restate.specs.Types.value
use Rattle.iv_restate.specs.Types.kind
use Rattle.iv_restate.specs.Types.rule
use Rattle.iv_catalogue.specs.Catalogues.{Schema}
use Rattle.iv_catalogue.specs.Names.{generated_name}
use Rattle.iv_resolution.specs.Types.plan
use Rattle.iv_resolution.specs.Types.schema.{CreateTable, AddConstraint}
use Rattle.iv_resolution.specs.Scopes.{NamedColumn, named_columns, place_of}
use Rattle.iv_resolution.specs.Constraints.{Altered, Referenced, referenced, table_constraint}
use Rattle.iv_resolution.specs.Bound.{bound_column_definition, bound_addition, bound_table}
use Rattle.iv_resolution.specs.Tables.{added_name, created_table}
use Rattle.iv_restate.specs.Statements.{before_null, from_null, up_to_null, after_null, elements_of}
use Rattle.iv_restate.specs.Laws.{IsColumn, IsCheckOver}
use Rattle.iv_restate.specs.Constraints.{columns_at, table_name_at, table_constraint_of, definition_of, written_name}

-- ---- columns

-- a default that a literal is
abbrev pub IsDefault : Value → Type 0
IsDefault (value.Int (pos n)) = n ≤ GREATEST_INTEGER
IsDefault (value.Int (negsuc n)) = suc n ≤ GREATEST_INTEGER
IsDefault _ = Unit {0}

abbrev pub IsKind : Kind → Type 0
IsKind kind.Integer = Unit {0}
IsKind (kind.Varchar n) = n ≤ 65535

abbrev pub AreDefined : List Column → Type 0
AreDefined [] = Unit {0}
AreDefined (c ∷ columns) = (IsKind c.kind × IsDefault c.default) × AreDefined columns

-- ---- rules: the tables are those of the catalogue that is written, the schema is that which the statement finds

abbrev pub AreColumns : List NamedColumn → List ℕ → Type 0
AreColumns columns [] = Unit {0}
AreColumns columns (place ∷ places) = IsColumn columns place × AreColumns columns places

-- The name of the referenced table names it, and the columns of the key are its columns.
pub record Refers (tables : List Table) (schema : Schema) (own : Altered) (k : ForeignKey) : Type 0 where
  pub target : Referenced
  pub named : referenced schema own (table_name_at tables k.referenced) ≡ Some target
  pub table : target.table ≡ k.referenced
  pub columns : target.columns ≡ columns_at tables k.referenced
  pub key : AreColumns target.columns k.key

-- a rule that a constraint of this table can have
abbrev pub IsRule : List Table → Schema → Altered → Rule → Type 0
IsRule tables schema own (rule.NotNull place) = IsColumn own.columns place
IsRule tables schema own (rule.Check c) = IsCheckOver own.columns c
IsRule tables schema own (rule.Unique nulls places) = AreColumns own.columns places
IsRule tables schema own (rule.PrimaryKey places) = AreColumns own.columns places
IsRule tables schema own (rule.ForeignKey k) = AreColumns own.columns k.columns × Refers tables schema own k

-- a constraint of the table that is altered or created
pub record IsOwn (tables : List Table) (schema : Schema) (own : Altered) (k : Constraint) : Type 0 where
  pub table : k.table ≡ own.table
  pub columns : columns_at tables k.table ≡ own.columns
  pub rule : IsRule tables schema own k.rule

-- ---- what is written means what there was

-- a column's definition means that column, whatever its constraints are
abbrev pub ColumnsAreThemselves : Type 0
ColumnsAreThemselves = (c : Column) (constraints : List ColumnConstraint) → IsKind c.kind → IsDefault c.default
    → bound_column_definition (definition_of c constraints) ≡ c

-- ALTER TABLE adds just that constraint; a name that isn't written is the one that it generates
abbrev pub AdditionsAreThemselves : Type 0
AdditionsAreThemselves = (tables : List Table) (schema : Schema) (own : Altered) (k : Constraint) (written : TableConstraint) → IsOwn tables schema own k
    → table_constraint_of tables k ≡ Some written → added_name schema own (table_constraint written) ≡ k.name → bound_addition schema own (table_constraint written) ≡ plan.Schema (AddConstraint k)

-- ---- CREATE TABLE

-- no NOT NULL
abbrev pub IsOfTable : Rule → Type 0
IsOfTable (rule.NotNull place) = ⊥
IsOfTable _ = Unit {0}

abbrev pub AreOfTable : List Constraint → Type 0
AreOfTable [] = Unit {0}
AreOfTable (k ∷ constraints) = IsOfTable k.rule × AreOfTable constraints

-- a rule that may stand in the column at this place
abbrev pub IsOfColumn : ℕ → Rule → Type 0
IsOfColumn place (rule.NotNull p) = p ≡ place
IsOfColumn place (rule.Check c) = Unit {0}
IsOfColumn place (rule.Unique nulls places) = places ≡ place ∷ []
IsOfColumn place (rule.PrimaryKey places) = places ≡ place ∷ []
IsOfColumn place (rule.ForeignKey k) = k.columns ≡ place ∷ []

abbrev pub AreOfColumn : ℕ → List Constraint → Type 0
AreOfColumn place [] = Unit {0}
AreOfColumn place (k ∷ constraints) = IsOfColumn place k.rule × AreOfColumn place constraints

-- Each NOT NULL is of one of these columns, of which the first has this place, in their order; and what stands between two of one column may
-- stand in it. So it is with the constraints of every CREATE TABLE.
abbrev pub AreInOrder : ℕ → List Column → List Constraint → Type 0
AreInOrder place [] constraints = AreOfTable constraints
AreInOrder place (c ∷ columns) constraints =
    AreOfTable (before_null place constraints)
    × AreOfColumn place (up_to_null place (from_null place constraints))
    × AreInOrder (place + 1) columns (after_null place (from_null place constraints))

-- the columns have these names and places
abbrev pub AreNamed : List NamedColumn → ℕ → List Column → Type 0
AreNamed named place [] = Unit {0}
AreNamed named place (c ∷ columns) = (place_of named c.name ≡ place) × AreNamed named (place + 1) columns

abbrev pub AllOwn : List Table → Schema → Altered → List Constraint → Type 0
AllOwn tables schema own [] = Unit {0}
AllOwn tables schema own (k ∷ constraints) = IsOwn tables schema own k × AllOwn tables schema own constraints

-- Each name is written, or is the one that is generated at this place and the ones after it.
abbrev pub AreNameable : List ℕ → ℕ → List Constraint → Type 0
AreNameable table place [] = Unit {0}
AreNameable table place (k ∷ constraints) =
    (unwrap_or (written_name k.name) (generated_name table place) ≡ k.name) × AreNameable table (place + 1) constraints

-- CREATE TABLE creates just that table and these constraints, in their order
abbrev pub TablesAreThemselves : Type 0
TablesAreThemselves = (tables : List Table) (schema : Schema) (t : Table) (constraints : List Constraint)
    → AreDefined t.columns → AreNamed (named_columns t.columns) 0 t.columns → AreInOrder 0 t.columns constraints → AreNameable t.name 1 constraints
    → AllOwn tables schema (created_table schema t.name (elements_of tables 0 t.columns constraints)) constraints
    → bound_table schema t.name (elements_of tables 0 t.columns constraints) ≡ plan.Schema (CreateTable t constraints)
