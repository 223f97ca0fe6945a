-- What the tables and constraints of the code are in definitions.
use Rattle.std.specs.Prelude.{ℕ, List, length, Option, Some, None}
use Rattle.iv_syntax.specs.declared.table.TableElement.{TableElement}
use Rattle.iv_catalogue.specs.Catalogues.{Schema}
use Rattle.iv_resolution.specs.Scopes.{NamedColumn, Names, NamedTable}
use Rattle.iv_resolution.specs.Constraints as written
use Rattle.iv_resolution.specs.Constraints.{Altered, Referenced, defined_columns, written_constraints, written_keys}
use Rattle.iv_resolution.specs.Tables.{altered_at, created_table, creating, table_names}
use Rattle.iv_resolve_tables.specs.declared.own.Own.{Own}
use Rattle.iv_resolve_tables.specs.declared.own.Own.TheVariants.{Created, Indexed, Stored}
use Rattle.iv_resolve_tables.specs.declared.written.WrittenRule.{WrittenRule}
use Rattle.iv_resolve_tables.specs.declared.written.WrittenRule.TheVariants.{NotNull, Unique, PrimaryKey, Check, ForeignKey}
use Rattle.iv_resolve_tables.specs.declared.written.WrittenConstraint.{WrittenConstraint}

abbrev pub rule_seen : WrittenRule → written.WrittenRule
rule_seen (NotNull column) = written.not_null column.now
rule_seen (Unique nulls columns) = written.unique nulls columns.now
rule_seen (PrimaryKey columns) = written.primary_key columns.now
rule_seen (Check c) = written.check c.now
rule_seen (ForeignKey columns r) = written.foreign_key columns.now r.now

abbrev pub constraint_seen : WrittenConstraint → written.WrittenConstraint
constraint_seen k = record { name = k.name.now; rule = rule_seen k.rule; time = k.time }

-- the table that a CREATE TABLE makes, with these columns
abbrev pub indexed_table : Schema → List ℕ → List TableElement → List NamedColumn → Altered
indexed_table schema name elements columns =
    record { name = name; table = length schema.tables; columns = columns; keys = written_keys columns (written_constraints elements) }

-- the table that a CREATE TABLE makes, or one of the catalogue
abbrev pub own_seen : Schema → Own → Altered
own_seen schema (Created name elements) = created_table schema name.now elements.now
own_seen schema (Indexed name elements index) = indexed_table schema name.now elements.now index.now
own_seen schema (Stored place table) = altered_at schema place table.now

-- the table that is made, as a FROM sees it
abbrev pub created_of_own : Own → Option NamedTable
created_of_own (Created name elements) = Some (record { name = name.now; columns = defined_columns elements.now })
created_of_own (Indexed name elements index) = Some (record { name = name.now; columns = index.now })
created_of_own (Stored place table) = None

-- the tables that its CHECKs may name
abbrev pub names_of_own : Schema → Own → Names
names_of_own schema (Created name elements) = creating schema (created_table schema name.now elements.now)
names_of_own schema (Indexed name elements index) = creating schema (indexed_table schema name.now elements.now index.now)
names_of_own schema (Stored place table) = table_names schema

abbrev pub reference_seen : Schema → Own → Referenced
reference_seen schema own = record { table = (own_seen schema own).table; columns = (own_seen schema own).columns; keys = (own_seen schema own).keys }
