-- The limit that is passed is told exactly of the statements that deserve Limit.
use Rattle.std.proofs.Common.{◌≡◌, refl, ℕ, ◌+◌, not, ◌||◌, ◌==◌, List, length, is_some, nat_le, nat_lt}
use Rattle.std.specs.List.{list_any}
use Rattle.iv_syntax.specs.declared.table.ColumnDefinition.{ColumnDefinition}
use Rattle.iv_syntax.specs.declared.table.ColumnType.{ColumnType}
use Rattle.iv_syntax.specs.declared.table.ColumnType.TheVariants as type
use Rattle.iv_syntax.specs.declared.table.TableElement.{TableElement}
use Rattle.iv_syntax.specs.declared.statement.Statement.{Statement}
use Rattle.iv_syntax.specs.declared.statement.Statement.TheVariants as statement
use Rattle.iv_syntax.specs.declared.trigger.TriggerDefinition.{TriggerDefinition}
use Rattle.iv_catalogue.specs.Catalogues.{Schema}
use Rattle.iv_catalogue.specs.declared.limits.TheConstants.{MOST_COLUMNS, MOST_CONSTRAINTS, MOST_TABLES, MOST_CHARACTERS, MOST_TRIGGERS, MOST_TRIGGERS_EVER, MOST_BODY_STATEMENTS}
use Rattle.iv_resolution.specs.Constraints.{WrittenRule, not_null, unique, primary_key, check, foreign_key, WrittenConstraint, written_columns, written_constraints, table_constraint, constraints_of, Altered}
use Rattle.iv_resolution.specs.Tables.{long_key, type_beyond_limits, table_beyond_limits, addition_beyond_limits}
use Rattle.iv_resolution.specs.Triggers.{trigger_beyond_limits}
use Rattle.iv_resolution.specs.Writable.{is_writable}
use Rattle.iv_resolution.specs.Resolution.{is_too_large, is_beyond_limits}
use Rattle.iv_resolution.specs.Items.{Item}
use Rattle.iv_resolution.specs.NameFaults.{item_of_constraint}
use Rattle.iv_resolve_reasons.specs.Limits.{limit_of_key, limit_of_type, limit_in_table, limit_of_addition, limit_in_trigger, limit_in_statement, limit_fault}
use Rattle.iv_resolve_reasons.specs.Laws.{LimitFaultsAreTold}
use Rattle.iv_resolve_reasons.proofs.ShapesTold.{some_if, or_told, first_told, altered_told}
use Rattle.iv_resolve_reasons.proofs.Numbered.{numbered_told}

key_is : (item : Item) (r : WrittenRule) → is_some (limit_of_key item r) ≡ long_key r
key_is item (not_null column) = refl
key_is item (unique nulls columns) = some_if _ _
key_is item (primary_key columns) = some_if _ _
key_is item (check c) = refl
key_is item (foreign_key columns r) = refl

type_is : (column : List ℕ) (kind : ColumnType) → is_some (limit_of_type column kind) ≡ type_beyond_limits kind
type_is column type.Integer = refl
type_is column (type.Varchar n) = or_told _ _ (n == 0) (nat_lt MOST_CHARACTERS n) (some_if _ _) (some_if _ _)

table_told : (schema : Schema) (name : List ℕ) (elements : List TableElement) → is_some (limit_in_table schema name elements) ≡ table_beyond_limits schema elements
table_told schema name elements =
    or_told _ _ (nat_le MOST_TABLES (length schema.tables))
    (nat_lt MOST_COLUMNS (length (written_columns elements)) || (nat_lt MOST_CONSTRAINTS (length (written_constraints elements))
    || (list_any (λ c. type_beyond_limits c.kind) (written_columns elements) || list_any (λ k. long_key k.rule) (written_constraints elements)))) (some_if _ _)
    (or_told _ _ (nat_lt MOST_COLUMNS (length (written_columns elements)))
    (nat_lt MOST_CONSTRAINTS (length (written_constraints elements))
    || (list_any (λ c. type_beyond_limits c.kind) (written_columns elements) || list_any (λ k. long_key k.rule) (written_constraints elements))) (some_if _ _)
    (or_told _ _ (nat_lt MOST_CONSTRAINTS (length (written_constraints elements)))
    (list_any (λ c. type_beyond_limits c.kind) (written_columns elements) || list_any (λ k. long_key k.rule) (written_constraints elements)) (some_if _ _)
    (or_told _ _ (list_any (λ c. type_beyond_limits c.kind) (written_columns elements)) (list_any (λ k. long_key k.rule) (written_constraints elements))
    (first_told (λ (c : ColumnDefinition). limit_of_type c.name c.kind) (λ c. type_beyond_limits c.kind) (λ c. type_is c.name c.kind) (written_columns elements))
    (numbered_told (λ (p : ℕ × WrittenConstraint). limit_of_key (item_of_constraint name p.0 p.1) p.1.rule) (λ k. long_key k.rule)
    (λ number k. key_is (item_of_constraint name number k) k.rule) 1 (written_constraints elements)))))

addition_told : (schema : Schema) (own : Altered) (k : WrittenConstraint) → is_some (limit_of_addition schema own k) ≡ addition_beyond_limits schema own k
addition_told schema own k =
    or_told _ _ (nat_le MOST_CONSTRAINTS (length (constraints_of schema own.table))) (long_key k.rule) (some_if _ _)
    (key_is (item_of_constraint own.name (length (constraints_of schema own.table) + 1) k) k.rule)

trigger_told : (schema : Schema) (t : TriggerDefinition) → is_some (limit_in_trigger schema t) ≡ trigger_beyond_limits schema t
trigger_told schema t =
    or_told _ _ (nat_le MOST_TRIGGERS (length schema.triggers)) (nat_le MOST_TRIGGERS_EVER schema.created || nat_lt MOST_BODY_STATEMENTS (length t.body)) (some_if _ _)
    (or_told _ _ (nat_le MOST_TRIGGERS_EVER schema.created) (nat_lt MOST_BODY_STATEMENTS (length t.body)) (some_if _ _) (some_if _ _))

statement_told : (schema : Schema) (s : Statement) → is_some (limit_in_statement schema s) ≡ is_too_large schema s
statement_told schema (statement.CreateTable name elements) = table_told schema name elements
statement_told schema (statement.AlterTable table k) =
    altered_told schema table (λ own. limit_of_addition schema own (table_constraint k)) (λ own. addition_beyond_limits schema own (table_constraint k))
    (λ own. addition_told schema own (table_constraint k))
statement_told schema (statement.CreateTrigger t) = trigger_told schema t
statement_told schema (statement.DropTrigger name) = refl
statement_told schema (statement.Insert i) = refl
statement_told schema (statement.Update u) = refl
statement_told schema (statement.Delete d) = refl
statement_told schema (statement.Select s) = refl
statement_told schema statement.StartTransaction = refl
statement_told schema statement.Commit = refl
statement_told schema statement.Rollback = refl
statement_told schema (statement.Savepoint name) = refl
statement_told schema (statement.Release name) = refl
statement_told schema (statement.RollbackTo name) = refl
statement_told schema (statement.SetConstraints l m) = refl

limit_told : (schema : Schema) (s : Statement) → is_some (limit_fault schema s) ≡ is_beyond_limits schema s
limit_told schema s = or_told _ _ (is_too_large schema s) (not (is_writable s)) (statement_told schema s) (some_if _ _)

pub limit_faults_told : LimitFaultsAreTold
limit_faults_told = record { told = limit_told }
