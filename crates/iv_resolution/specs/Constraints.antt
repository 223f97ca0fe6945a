-- The constraints that a CREATE TABLE or an ALTER TABLE writes: one list in the order of the text, their names, and the keys that
-- foreign keys may refer to ("Table constraint definition", "Unique constraint definition", "Referential constraint definition").
use Rattle.std.specs.Prelude.{ℕ, Bool, true, false, not, ◌&&◌, ◌||◌, ◌==◌, List, [], ◌∷◌, length, map, filter, filter_map, flat_map, find, zip, chars, Option, Some, None, nat_le, unwrap_or, option_map, slice_get}
use Rattle.std.specs.List.{list_any, list_all}
use Rattle.std.specs.Str.{bytes_eq}
use Rattle.iv_resolution.specs.Types.{ConstraintMode, ColumnType, Literal, ConstraintTime, NullTreatment, References, ColumnRule, ColumnConstraint, ColumnDefinition, TableRule, TableConstraint, TableElement, Condition, Constraint, Rule}
use Rattle.iv_resolution.specs.Types.mode
use Rattle.iv_resolution.specs.Types.type
use Rattle.iv_resolution.specs.Types.literal
use Rattle.iv_resolution.specs.Types.column_rule
use Rattle.iv_resolution.specs.Types.table_rule
use Rattle.iv_resolution.specs.Types.element
use Rattle.iv_resolution.specs.Types.rule
use Rattle.iv_catalogue.specs.Names.{is_among, generated_name}
use Rattle.iv_catalogue.specs.Catalogues.{Schema}
use Rattle.iv_resolution.specs.Scopes.{NamedColumn, named_columns, place_of, type_named, table_place}

-- ---- columns of a CREATE TABLE

abbrev pub column_definition : TableElement → Option ColumnDefinition
column_definition (element.Column c) = Some c
column_definition (element.Constraint k) = None

-- the columns, in the order of their text
abbrev pub written_columns : List TableElement → List ColumnDefinition
written_columns elements = filter_map column_definition elements

abbrev pub defined_column : ColumnDefinition → NamedColumn
defined_column c = record { name = c.name; kind = c.kind }

abbrev pub defined_columns : List TableElement → List NamedColumn
defined_columns elements = map defined_column (written_columns elements)

-- ---- constraints as one list

-- what a constraint says, wherever it is written
pub data WrittenRule : Type 0 where
  not_null : List ℕ → WrittenRule
  unique : NullTreatment → List (List ℕ) → WrittenRule
  primary_key : List (List ℕ) → WrittenRule
  check : Condition → WrittenRule
  foreign_key : List (List ℕ) → References → WrittenRule

pub record WrittenConstraint : Type 0 where
  pub name : Option (List ℕ)
  pub rule : WrittenRule
  pub time : ConstraintTime

-- a constraint inside a column says of that column what a table constraint says of a list
abbrev pub rule_of_column : List ℕ → ColumnRule → WrittenRule
rule_of_column column column_rule.NotNull = not_null column
rule_of_column column (column_rule.Unique nulls) = unique nulls (column ∷ [])
rule_of_column column column_rule.PrimaryKey = primary_key (column ∷ [])
rule_of_column column (column_rule.Check c) = check c
rule_of_column column (column_rule.References r) = foreign_key (column ∷ []) r

abbrev pub rule_of_table : TableRule → WrittenRule
rule_of_table (table_rule.Unique nulls columns) = unique nulls columns
rule_of_table (table_rule.PrimaryKey columns) = primary_key columns
rule_of_table (table_rule.Check c) = check c
rule_of_table (table_rule.ForeignKey columns r) = foreign_key columns r

abbrev pub column_constraint : List ℕ → ColumnConstraint → WrittenConstraint
column_constraint column k = record { name = k.name; rule = rule_of_column column k.rule; time = k.time }

abbrev pub table_constraint : TableConstraint → WrittenConstraint
table_constraint k = record { name = k.name; rule = rule_of_table k.rule; time = k.time }

abbrev pub element_constraints : TableElement → List WrittenConstraint
element_constraints (element.Column c) = map (column_constraint c.name) c.constraints
element_constraints (element.Constraint k) = table_constraint k ∷ []

-- All constraints of a CREATE TABLE, in the order of the text.
abbrev pub written_constraints : List TableElement → List WrittenConstraint
written_constraints elements = flat_map element_constraints elements

-- ---- names

-- A constraint without a name is called after its table and its place among all constraints of the table, from 1.
abbrev pub constraint_name : List ℕ → ℕ → WrittenConstraint → List ℕ
constraint_name table place k = unwrap_or k.name (generated_name table place)

-- the constraints of a table, in the order of creation
abbrev pub constraints_of : Schema → ℕ → List Constraint
constraints_of schema table = filter (λ k. k.table == table) schema.constraints

-- ---- when constraints are checked ("Constraint name definition and constraint characteristics")

abbrev pub says_deferred : ConstraintTime → Bool
says_deferred t = elim t.initially [ Some m ↦ elim m [ mode.Deferred ↦ true | mode.Immediate ↦ false ] | None ↦ false ]

-- INITIALLY DEFERRED by itself means DEFERRABLE
abbrev pub is_deferrable : ConstraintTime → Bool
is_deferrable t = unwrap_or t.deferrable (says_deferred t)

-- NOT DEFERRABLE with INITIALLY DEFERRED
abbrev pub is_contradictory : ConstraintTime → Bool
is_contradictory t = not (is_deferrable t) && says_deferred t

abbrev pub initial_mode : ConstraintTime → ConstraintMode
initial_mode t = elim (says_deferred t) [ true ↦ mode.Deferred | false ↦ mode.Immediate ]

-- ---- keys

-- a key that a foreign key may refer to: its columns by name, and by place
pub record Key : Type 0 where
  pub columns : List (List ℕ)
  pub places : List ℕ
  pub is_primary : Bool
  pub deferrable : Bool

abbrev pub places_of : List NamedColumn → List (List ℕ) → List ℕ
places_of columns names = map (place_of columns) names

abbrev pub name_at : List NamedColumn → ℕ → List ℕ
name_at columns place = elim (slice_get columns place) [ Some c ↦ c.name | None ↦ [] ]

abbrev pub key_of_rule : List NamedColumn → Bool → Rule → Option Key
key_of_rule columns deferrable (rule.Unique nulls places) = Some (record { columns = map (name_at columns) places; places = places; is_primary = false; deferrable = deferrable })
key_of_rule columns deferrable (rule.PrimaryKey places) = Some (record { columns = map (name_at columns) places; places = places; is_primary = true; deferrable = deferrable })
key_of_rule columns deferrable _ = None

-- the keys of a table of the catalogue
abbrev pub stored_keys : List NamedColumn → List Constraint → List Key
stored_keys columns constraints = filter_map (λ k. key_of_rule columns k.deferrable k.rule) constraints

abbrev pub key_of_written : List NamedColumn → ConstraintTime → WrittenRule → Option Key
key_of_written columns time (unique nulls names) = Some (record { columns = names; places = places_of columns names; is_primary = false; deferrable = is_deferrable time })
key_of_written columns time (primary_key names) = Some (record { columns = names; places = places_of columns names; is_primary = true; deferrable = is_deferrable time })
key_of_written columns time _ = None

-- the keys that a CREATE TABLE writes, wherever in its text
abbrev pub written_keys : List NamedColumn → List WrittenConstraint → List Key
written_keys columns constraints = filter_map (λ k. key_of_written columns k.time k.rule) constraints

-- ---- what a foreign key refers to

-- a table by its place, its columns and its keys
pub record Referenced : Type 0 where
  pub table : ℕ
  pub columns : List NamedColumn
  pub keys : List Key

-- the table that a CREATE TABLE makes, or that an ALTER TABLE adds to, with the constraints that the statement writes
pub record Altered : Type 0 where
  pub name : List ℕ
  pub table : ℕ
  pub columns : List NamedColumn
  pub keys : List Key

abbrev pub stored_reference : Schema → List ℕ → Option Referenced
stored_reference schema name =
    elim (table_place schema.tables name) [
      | Some place ↦ option_map (λ t. record { table = place; columns = named_columns t.columns; keys = stored_keys (named_columns t.columns) (constraints_of schema place) }) (slice_get schema.tables place)
      | None ↦ None
    ]

-- A foreign key may refer to its own table.
abbrev pub referenced : Schema → Altered → List ℕ → Option Referenced
referenced schema own name =
    elim (bytes_eq name own.name) [
      | true ↦ Some (record { table = own.table; columns = own.columns; keys = own.keys })
      | false ↦ stored_reference schema name
    ]

-- the same set of columns, in any order
abbrev pub same_set : List (List ℕ) → List (List ℕ) → Bool
same_set a b = list_all (is_among b) a && list_all (is_among a) b

-- two columns of one type, length included; a name that names nothing suits each
abbrev pub same_type : ColumnType → ColumnType → Bool
same_type type.Integer type.Integer = true
same_type (type.Varchar m) (type.Varchar n) = m == n
same_type _ _ = false

abbrev pub types_differ : Option ColumnType → Option ColumnType → Bool
types_differ (Some a) (Some b) = not (same_type a b)
types_differ _ _ = false

-- The lists differ in length, or columns at one place differ in type.
abbrev pub pairs_differ : List NamedColumn → List (List ℕ) → List NamedColumn → List (List ℕ) → Bool
pairs_differ columns referencing others referenced =
    not (length referencing == length referenced)
    || list_any (λ p. types_differ (type_named columns p.0) (type_named others p.1)) (zip referencing referenced)

-- the first primary key
abbrev pub primary_key_of : List Key → Option Key
primary_key_of keys = find (λ k. k.is_primary) keys

-- the key of this set of columns is there, and NOT DEFERRABLE
abbrev pub is_reliable : List (List ℕ) → Key → Bool
is_reliable names k = not k.deferrable && same_set names k.columns

-- With a list: the pairs differ, or no key that is NOT DEFERRABLE has that set of columns. Without one: there is no primary key, it is
-- deferrable, or the pairs differ.
abbrev pub faulty_reference : List NamedColumn → List (List ℕ) → Referenced → Option (List (List ℕ)) → Bool
faulty_reference columns referencing r (Some names) =
    pairs_differ columns referencing r.columns names || not (list_any (is_reliable names) r.keys)
faulty_reference columns referencing r None =
    elim (primary_key_of r.keys) [ Some k ↦ k.deferrable || pairs_differ columns referencing r.columns k.columns | None ↦ true ]

-- ---- defaults ("Default clause")

abbrev pub text_fits : ColumnType → List ℕ → Bool
text_fits (type.Varchar n) t = nat_le (length (chars t)) n
text_fits type.Integer t = false

abbrev pub literal_fits : ColumnType → Literal → Bool
literal_fits type.Integer (literal.Number s n) = true
literal_fits (type.Varchar m) (literal.Number s n) = false
literal_fits kind (literal.Text t) = text_fits kind t
literal_fits kind literal.Null = true

abbrev pub default_fits : ColumnDefinition → Bool
default_fits c = elim c.default [ Some l ↦ literal_fits c.kind l | None ↦ true ]
