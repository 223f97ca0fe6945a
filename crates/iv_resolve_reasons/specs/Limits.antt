-- Which limit a statement is beyond that is refused for Limit: the most there may be, and how many there would be. The limits are asked
-- one after another in the order of `is_beyond_limits`, and of each the first place in the text is told.
use Rattle.std.specs.Prelude.{ℕ, ◌+◌, not, ◌==◌, List, length, Option, None, nat_le, nat_lt}
use Rattle.std.specs.List.{enumerate_from}
use Rattle.std.specs.Option.{option_or}
use Rattle.iv_syntax.specs.declared.table.ColumnType.{ColumnType}
use Rattle.iv_syntax.specs.declared.table.ColumnType.TheVariants as type
use Rattle.iv_syntax.specs.declared.table.TableElement.{TableElement}
use Rattle.iv_syntax.specs.declared.table.TableConstraint.{TableConstraint}
use Rattle.iv_syntax.specs.declared.statement.Statement.{Statement}
use Rattle.iv_syntax.specs.declared.statement.Statement.TheVariants as statement
use Rattle.iv_syntax.specs.declared.trigger.TriggerDefinition.{TriggerDefinition}
use Rattle.iv_catalogue.specs.Catalogues.{Schema}
use Rattle.iv_catalogue.specs.declared.limits.TheConstants.{MOST_COLUMNS, MOST_CONSTRAINTS, MOST_TABLES, MOST_KEY_COLUMNS, MOST_CHARACTERS, MOST_TRIGGERS, MOST_TRIGGERS_EVER, MOST_BODY_STATEMENTS}
use Rattle.iv_resolution.specs.Constraints.{WrittenRule, unique, primary_key, WrittenConstraint, written_columns, written_constraints, table_constraint, constraints_of, Altered}
use Rattle.iv_resolution.specs.Items.{Item, told_if, first_of}
use Rattle.iv_resolution.specs.NameFaults.{item_of_constraint, told_of_altered}
use Rattle.iv_resolution.specs.Writable.{is_writable}

-- The limit, and how many there would be: tables; columns or constraints of a table; columns of a key; characters of a VARCHAR, which
-- needs at least one; triggers; triggers ever created; statements of a trigger's body. And a statement that no text is.
pub data LimitFault : Type 0 where
  many_tables : ℕ → ℕ → LimitFault
  many_columns : List ℕ → ℕ → ℕ → LimitFault
  many_constraints : List ℕ → ℕ → ℕ → LimitFault
  many_key_columns : Item → ℕ → ℕ → LimitFault
  no_characters : List ℕ → LimitFault
  many_characters : List ℕ → ℕ → ℕ → LimitFault
  many_triggers : ℕ → ℕ → LimitFault
  many_triggers_ever : ℕ → ℕ → LimitFault
  many_statements : List ℕ → ℕ → ℕ → LimitFault
  no_text : LimitFault

-- ---- CREATE TABLE and ALTER TABLE

abbrev pub limit_of_columns : Item → List (List ℕ) → Option LimitFault
limit_of_columns item columns = told_if (nat_lt MOST_KEY_COLUMNS (length columns)) (many_key_columns item MOST_KEY_COLUMNS (length columns))

-- the key of too many columns
abbrev pub limit_of_key : Item → WrittenRule → Option LimitFault
limit_of_key item (unique nulls columns) = limit_of_columns item columns
limit_of_key item (primary_key columns) = limit_of_columns item columns
limit_of_key item _ = None

abbrev pub limit_of_type : List ℕ → ColumnType → Option LimitFault
limit_of_type column type.Integer = None
limit_of_type column (type.Varchar n) =
    option_or (told_if (n == 0) (no_characters column)) (told_if (nat_lt MOST_CHARACTERS n) (many_characters column MOST_CHARACTERS n))

abbrev pub limit_in_table : Schema → List ℕ → List TableElement → Option LimitFault
limit_in_table schema name elements =
    option_or (told_if (nat_le MOST_TABLES (length schema.tables)) (many_tables MOST_TABLES (length schema.tables + 1)))
    (option_or (told_if (nat_lt MOST_COLUMNS (length (written_columns elements))) (many_columns name MOST_COLUMNS (length (written_columns elements))))
    (option_or (told_if (nat_lt MOST_CONSTRAINTS (length (written_constraints elements))) (many_constraints name MOST_CONSTRAINTS (length (written_constraints elements))))
    (option_or (first_of (λ c. limit_of_type c.name c.kind) (written_columns elements))
    (first_of (λ p. limit_of_key (item_of_constraint name p.0 p.1) p.1.rule) (enumerate_from 1 (written_constraints elements))))))

abbrev pub limit_of_addition : Schema → Altered → WrittenConstraint → Option LimitFault
limit_of_addition schema own k =
    option_or (told_if (nat_le MOST_CONSTRAINTS (length (constraints_of schema own.table))) (many_constraints own.name MOST_CONSTRAINTS (length (constraints_of schema own.table) + 1)))
    (limit_of_key (item_of_constraint own.name (length (constraints_of schema own.table) + 1) k) k.rule)

abbrev pub limit_in_alteration : Schema → List ℕ → TableConstraint → Option LimitFault
limit_in_alteration schema table k = told_of_altered schema table (λ own. limit_of_addition schema own (table_constraint k))

-- ---- CREATE TRIGGER

abbrev pub limit_in_trigger : Schema → TriggerDefinition → Option LimitFault
limit_in_trigger schema t =
    option_or (told_if (nat_le MOST_TRIGGERS (length schema.triggers)) (many_triggers MOST_TRIGGERS (length schema.triggers + 1)))
    (option_or (told_if (nat_le MOST_TRIGGERS_EVER schema.created) (many_triggers_ever MOST_TRIGGERS_EVER (schema.created + 1)))
    (told_if (nat_lt MOST_BODY_STATEMENTS (length t.body)) (many_statements t.name MOST_BODY_STATEMENTS (length t.body))))

-- ---- the limit that a statement is beyond

abbrev pub limit_in_statement : Schema → Statement → Option LimitFault
limit_in_statement schema (statement.CreateTable name elements) = limit_in_table schema name elements
limit_in_statement schema (statement.AlterTable table k) = limit_in_alteration schema table k
limit_in_statement schema (statement.CreateTrigger t) = limit_in_trigger schema t
limit_in_statement schema _ = None

abbrev pub limit_fault : Schema → Statement → Option LimitFault
limit_fault schema s = option_or (limit_in_statement schema s) (told_if (not (is_writable s)) no_text)
