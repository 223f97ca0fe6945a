-- CREATE TABLE and ALTER TABLE: what each of their constraints is refused for ("Table definition", "Add table constraint definition").
use Rattle.std.specs.Prelude.{ℕ, ◌+◌, Bool, true, false, not, ◌&&◌, ◌||◌, ◌==◌, List, [], ◌∷◌, length, filter, Some, None, nat_le, nat_lt}
use Rattle.std.specs.List.{list_any}
use Rattle.iv_resolution.specs.Types.{ColumnType, TableElement, Table}
use Rattle.iv_resolution.specs.Types.type
use Rattle.iv_catalogue.specs.Catalogues.{Schema}
use Rattle.iv_catalogue.specs.declared.limits.TheConstants.{MOST_COLUMNS, MOST_CONSTRAINTS, MOST_TABLES, MOST_KEY_COLUMNS, MOST_CHARACTERS}
use Rattle.iv_resolution.specs.Scopes.{NamedRange, Names, named_columns, own_range}
use Rattle.iv_resolution.specs.Terms.{misshaped_condition, has_exists}
use Rattle.iv_resolution.specs.Constraints.{WrittenRule, unique, primary_key, check, foreign_key, WrittenConstraint, written_columns, defined_columns, written_constraints, constraint_name, constraints_of, is_contradictory, stored_keys, written_keys, primary_key_of, Altered, referenced, faulty_reference, default_fits}

-- ---- the table of the statement

-- the table that a CREATE TABLE makes: it gets the place after those that there are
abbrev pub created_table : Schema → List ℕ → List TableElement → Altered
created_table schema name elements = record {
  name = name;
  table = length schema.tables;
  columns = defined_columns elements;
  keys = written_keys (defined_columns elements) (written_constraints elements);
}

-- the table at this place, which an ALTER TABLE adds to
abbrev pub altered_at : Schema → ℕ → Table → Altered
altered_at schema place t = record {
  name = t.name;
  table = place;
  columns = named_columns t.columns;
  keys = stored_keys (named_columns t.columns) (constraints_of schema place);
}

-- the tables that a CHECK of a new table may name in an EXISTS, which it may not have
abbrev pub creating : Schema → Altered → Names
creating schema own = record { created = Some (record { name = own.name; columns = own.columns }); tables = schema.tables; transitions = []; subject = [] }

-- only the tables of the catalogue
abbrev pub table_names : Schema → Names
table_names schema = record { created = None; tables = schema.tables; transitions = []; subject = [] }

-- the one range of a CHECK is its table
abbrev pub check_ranges : Altered → List NamedRange
check_ranges own = own_range own.name own.columns ∷ []

-- ---- definitions that no schema can have

-- EXISTS in a CHECK, or a foreign key whose reference is at fault
abbrev pub faulty_rule : Schema → Altered → WrittenRule → Bool
faulty_rule schema own (check c) = has_exists c
faulty_rule schema own (foreign_key columns r) =
    elim (referenced schema own r.table) [ Some t ↦ faulty_reference own.columns columns t r.columns | None ↦ false ]
faulty_rule schema own _ = false

abbrev pub faulty_constraint : Schema → Altered → WrittenConstraint → Bool
faulty_constraint schema own k = is_contradictory k.time || faulty_rule schema own k.rule

abbrev pub is_primary_rule : WrittenRule → Bool
is_primary_rule (primary_key columns) = true
is_primary_rule _ = false

-- two primary keys in one CREATE TABLE
abbrev pub two_primary_keys : List WrittenConstraint → Bool
two_primary_keys constraints = nat_lt 1 (length (filter (λ k. is_primary_rule k.rule) constraints))

-- ---- kinds

abbrev pub misshaped_rule : Names → Altered → WrittenRule → Bool
misshaped_rule names own (check c) = misshaped_condition names (check_ranges own) c
misshaped_rule names own _ = false

-- ---- limits

abbrev pub long_key : WrittenRule → Bool
long_key (unique nulls columns) = nat_lt MOST_KEY_COLUMNS (length columns)
long_key (primary_key columns) = nat_lt MOST_KEY_COLUMNS (length columns)
long_key _ = false

-- VARCHAR of no character, or of more than there may be
abbrev pub type_beyond_limits : ColumnType → Bool
type_beyond_limits type.Integer = false
type_beyond_limits (type.Varchar n) = (n == 0) || nat_lt MOST_CHARACTERS n

-- ---- CREATE TABLE, by cause

abbrev pub faulty_table : Schema → List ℕ → List TableElement → Bool
faulty_table schema name elements =
    (length (written_columns elements) == 0)
    || (list_any (λ c. not (default_fits c)) (written_columns elements)
    || (two_primary_keys (written_constraints elements)
    || list_any (faulty_constraint schema (created_table schema name elements)) (written_constraints elements)))

abbrev pub misshaped_table : Schema → List ℕ → List TableElement → Bool
misshaped_table schema name elements =
    list_any (λ k. misshaped_rule (creating schema (created_table schema name elements)) (created_table schema name elements) k.rule) (written_constraints elements)

abbrev pub table_beyond_limits : Schema → List TableElement → Bool
table_beyond_limits schema elements =
    nat_le MOST_TABLES (length schema.tables)
    || (nat_lt MOST_COLUMNS (length (written_columns elements))
    || (nat_lt MOST_CONSTRAINTS (length (written_constraints elements))
    || (list_any (λ c. type_beyond_limits c.kind) (written_columns elements)
    || list_any (λ k. long_key k.rule) (written_constraints elements))))

-- ---- ALTER TABLE, by cause: of the table at a place

-- the name of a constraint that is added: those that the table has come before it
abbrev pub added_name : Schema → Altered → WrittenConstraint → List ℕ
added_name schema own k = constraint_name own.name (length (constraints_of schema own.table) + 1) k

abbrev pub faulty_addition : Schema → Altered → WrittenConstraint → Bool
faulty_addition schema own k =
    (is_primary_rule k.rule && elim (primary_key_of own.keys) [ Some p ↦ true | None ↦ false ])
    || faulty_constraint schema own k

abbrev pub addition_beyond_limits : Schema → Altered → WrittenConstraint → Bool
addition_beyond_limits schema own k = nat_le MOST_CONSTRAINTS (length (constraints_of schema own.table)) || long_key k.rule
