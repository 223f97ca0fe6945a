-- What is told of references and limits is so.
use Rattle.std.proofs.Common.{◌≡◌, refl, ap, ◌∙◌, ℕ, ◌+◌, Bool, true, not, ◌==◌, List, length, zip, Option, Some, None, option_map, slice_get, nat_le, nat_lt, arith}
use Rattle.std.proofs.lemmas.Bool.{not-true}
use Rattle.std.proofs.lemmas.Bool.Decides.{nat_tests}
use Rattle.std.specs.List.{enumerate_from, list_any}
use Rattle.std.specs.Option.{option_or}
use Rattle.iv_syntax.specs.declared.table.ColumnDefinition.{ColumnDefinition}
use Rattle.iv_syntax.specs.declared.table.ColumnType.{ColumnType}
use Rattle.iv_syntax.specs.declared.table.ColumnType.TheVariants as type
use Rattle.iv_syntax.specs.declared.table.TableElement.{TableElement}
use Rattle.iv_syntax.specs.declared.statement.Statement.{Statement}
use Rattle.iv_syntax.specs.declared.statement.Statement.TheVariants as statement
use Rattle.iv_syntax.specs.declared.trigger.TriggerDefinition.{TriggerDefinition}
use Rattle.iv_catalogue.specs.declared.catalogue.Table.{Table}
use Rattle.iv_catalogue.specs.Catalogues.{Schema}
use Rattle.iv_catalogue.specs.declared.limits.TheConstants.{MOST_COLUMNS, MOST_CONSTRAINTS, MOST_TABLES, MOST_KEY_COLUMNS, MOST_CHARACTERS, MOST_TRIGGERS, MOST_TRIGGERS_EVER, MOST_BODY_STATEMENTS}
use Rattle.iv_resolution.specs.Scopes.{NamedColumn, type_named, table_place}
use Rattle.iv_resolution.specs.Constraints.{WrittenRule, not_null, unique, primary_key, check, foreign_key, WrittenConstraint, written_columns, written_constraints, table_constraint, constraints_of, Altered, Key, primary_key_of, is_reliable, same_type, Referenced}
use Rattle.iv_resolution.specs.Tables.{altered_at}
use Rattle.iv_resolution.specs.Writable.{is_writable}
use Rattle.iv_resolution.specs.Items.{Item, told_if, first_of}
use Rattle.iv_resolution.specs.NameFaults.{item_of_constraint, told_of_altered}
use Rattle.iv_resolve_reasons.specs.SchemaFaults.{ReferenceFault, pair_count, pair_types, no_reliable_key, no_primary_key, deferrable_primary_key, types_told, fault_of_types, fault_of_pairs, fault_of_reference}
use Rattle.iv_resolve_reasons.specs.Limits.{LimitFault, many_tables, many_columns, many_constraints, many_key_columns, no_characters, many_characters, many_triggers, many_triggers_ever, many_statements, no_text, limit_of_columns, limit_of_key, limit_of_type}
use Rattle.iv_resolve_reasons.specs.Limits.{limit_in_table, limit_of_addition, limit_in_trigger, limit_in_statement, limit_fault}
use Rattle.iv_resolve_reasons.specs.Laws.{ReferenceIsSo, LimitIsSo, RulesAreSo}
use Rattle.iv_resolve_reasons.proofs.ShapesSo.{Of, of_or, of_if, of_first, taken}

-- ---- references

pair_so : (columns : List NamedColumn) (r : Referenced) (a b : List ℕ) (k m : Option ColumnType) → type_named columns a ≡ k → type_named r.columns b ≡ m
    → Of (ReferenceIsSo columns r) (types_told a k b m)
unfolding types_told
pair_so columns r a b (Some k) (Some m) h g = of_if (ReferenceIsSo columns r) (not (same_type k m)) (pair_types a k b m) (λ t. (h, g, not-true (same_type k m) t))
pair_so columns r a b (Some k) None h g = tt
pair_so columns r a b None (Some m) h g = tt
pair_so columns r a b None None h g = tt

pairs_so : (columns : List NamedColumn) (r : Referenced) (referencing names : List (List ℕ)) → Of (ReferenceIsSo columns r) (fault_of_pairs columns referencing r.columns names)
unfolding fault_of_pairs fault_of_types
pairs_so columns r referencing names =
    of_or (ReferenceIsSo columns r) (told_if (not (length referencing == length names)) (pair_count (length referencing) (length names)))
    (first_of (λ (p : List ℕ × List ℕ). types_told p.0 (type_named columns p.0) p.1 (type_named r.columns p.1)) (zip referencing names))
    (of_if (ReferenceIsSo columns r) (not (length referencing == length names)) (pair_count (length referencing) (length names)) (not-true (length referencing == length names)))
    (of_first (ReferenceIsSo columns r) (λ (p : List ℕ × List ℕ). types_told p.0 (type_named columns p.0) p.1 (type_named r.columns p.1))
    (λ p. pair_so columns r p.0 p.1 (type_named columns p.0) (type_named r.columns p.1) refl refl) (zip referencing names))

reference_so : (columns : List NamedColumn) (referencing : List (List ℕ)) (r : Referenced) (names : Option (List (List ℕ))) → Of (ReferenceIsSo columns r) (fault_of_reference columns referencing r names)
reference_so columns referencing r (Some names) =
    of_or (ReferenceIsSo columns r) (fault_of_pairs columns referencing r.columns names) (told_if (not (list_any (is_reliable names) r.keys)) (no_reliable_key names))
    (pairs_so columns r referencing names)
    (of_if (ReferenceIsSo columns r) (not (list_any (is_reliable names) r.keys)) (no_reliable_key names) (not-true (list_any (is_reliable names) r.keys)))
reference_so columns referencing r None = by (primary_key_of r.keys) refl
  where
    by : (o : Option Key) → primary_key_of r.keys ≡ o
        → Of (ReferenceIsSo columns r)
        (elim o as (λ _. Option ReferenceFault) [ Some k ↦ option_or (told_if k.deferrable deferrable_primary_key) (fault_of_pairs columns referencing r.columns k.columns) | None ↦ Some no_primary_key ])
    by None e = e
    by (Some k) e =
        of_or (ReferenceIsSo columns r) (told_if k.deferrable deferrable_primary_key) (fault_of_pairs columns referencing r.columns k.columns)
        (of_if (ReferenceIsSo columns r) k.deferrable deferrable_primary_key (λ d. ap (option_map (λ (k : Key). k.deferrable)) e ∙ ap (λ (b : Bool). Some b) d))
        (pairs_so columns r referencing k.columns)

-- ---- limits

one_more : (most n : ℕ) → nat_le most n ≡ true → nat_lt most (n + 1) ≡ true
one_more most n h = grind (arith, nat_tests)

columns_so : (whole : Statement) (item : Item) (columns : List (List ℕ)) → Of (LimitIsSo whole) (limit_of_columns item columns)
columns_so whole item columns = of_if (LimitIsSo whole) (nat_lt MOST_KEY_COLUMNS (length columns)) (many_key_columns item MOST_KEY_COLUMNS (length columns)) (λ h. h)

key_so : (whole : Statement) (item : Item) (r : WrittenRule) → Of (LimitIsSo whole) (limit_of_key item r)
key_so whole item (not_null column) = tt
key_so whole item (unique nulls columns) = columns_so whole item columns
key_so whole item (primary_key columns) = columns_so whole item columns
key_so whole item (check c) = tt
key_so whole item (foreign_key columns r) = tt

type_so : (whole : Statement) (column : List ℕ) (kind : ColumnType) → Of (LimitIsSo whole) (limit_of_type column kind)
type_so whole column type.Integer = tt
type_so whole column (type.Varchar n) =
    of_or (LimitIsSo whole) (told_if (n == 0) (no_characters column)) (told_if (nat_lt MOST_CHARACTERS n) (many_characters column MOST_CHARACTERS n)) (of_if (LimitIsSo whole) (n == 0) (no_characters column) (λ h. tt))
    (of_if (LimitIsSo whole) (nat_lt MOST_CHARACTERS n) (many_characters column MOST_CHARACTERS n) (λ h. h))

table_so : (whole : Statement) (schema : Schema) (name : List ℕ) (elements : List TableElement) → Of (LimitIsSo whole) (limit_in_table schema name elements)
table_so whole schema name elements =
    of_or (LimitIsSo whole) (told_if (nat_le MOST_TABLES (length schema.tables)) (many_tables MOST_TABLES (length schema.tables + 1))) _
    (of_if (LimitIsSo whole) (nat_le MOST_TABLES (length schema.tables)) (many_tables MOST_TABLES (length schema.tables + 1)) (one_more MOST_TABLES (length schema.tables)))
    (of_or (LimitIsSo whole) (told_if (nat_lt MOST_COLUMNS (length (written_columns elements))) (many_columns name MOST_COLUMNS (length (written_columns elements)))) _
    (of_if (LimitIsSo whole) (nat_lt MOST_COLUMNS (length (written_columns elements))) (many_columns name MOST_COLUMNS (length (written_columns elements))) (λ h. h))
    (of_or (LimitIsSo whole) (told_if (nat_lt MOST_CONSTRAINTS (length (written_constraints elements))) (many_constraints name MOST_CONSTRAINTS (length (written_constraints elements)))) _
    (of_if (LimitIsSo whole) (nat_lt MOST_CONSTRAINTS (length (written_constraints elements))) (many_constraints name MOST_CONSTRAINTS (length (written_constraints elements))) (λ h. h))
    (of_or (LimitIsSo whole) (first_of (λ (c : ColumnDefinition). limit_of_type c.name c.kind) (written_columns elements)) _
    (of_first (LimitIsSo whole) (λ (c : ColumnDefinition). limit_of_type c.name c.kind) (λ c. type_so whole c.name c.kind) (written_columns elements))
    (of_first (LimitIsSo whole) (λ (p : ℕ × WrittenConstraint). limit_of_key (item_of_constraint name p.0 p.1) p.1.rule) (λ p. key_so whole (item_of_constraint name p.0 p.1) p.1.rule)
    (enumerate_from 1 (written_constraints elements))))))

addition_so : (whole : Statement) (schema : Schema) (own : Altered) (k : WrittenConstraint) → Of (LimitIsSo whole) (limit_of_addition schema own k)
addition_so whole schema own k =
    of_or (LimitIsSo whole) (told_if (nat_le MOST_CONSTRAINTS (length (constraints_of schema own.table))) (many_constraints own.name MOST_CONSTRAINTS (length (constraints_of schema own.table) + 1))) _
    (of_if (LimitIsSo whole) (nat_le MOST_CONSTRAINTS (length (constraints_of schema own.table))) (many_constraints own.name MOST_CONSTRAINTS (length (constraints_of schema own.table) + 1))
    (one_more MOST_CONSTRAINTS (length (constraints_of schema own.table))))
    (key_so whole (item_of_constraint own.name (length (constraints_of schema own.table) + 1) k) k.rule)

altered_so : (whole : Statement) (schema : Schema) (name : List ℕ) (tells : Altered → Option LimitFault) → ((own : Altered) → Of (LimitIsSo whole) (tells own)) → Of (LimitIsSo whole) (told_of_altered schema name tells)
altered_so whole schema name tells h = by (table_place schema.tables name)
  where
    at : (place : ℕ) (o : Option Table) → Of (LimitIsSo whole) (elim o as (λ _. Option LimitFault) [ Some t ↦ tells (altered_at schema place t) | None ↦ None ])
    at place None = tt
    at place (Some t) = h (altered_at schema place t)

    by : (o : Option ℕ)
        → Of (LimitIsSo whole) (elim o as (λ _. Option LimitFault) [ Some place ↦ elim (slice_get schema.tables place) [ Some t ↦ tells (altered_at schema place t) | None ↦ None ] | None ↦ None ])
    by None = tt
    by (Some place) = at place (slice_get schema.tables place)

trigger_so : (whole : Statement) (schema : Schema) (t : TriggerDefinition) → Of (LimitIsSo whole) (limit_in_trigger schema t)
trigger_so whole schema t =
    of_or (LimitIsSo whole) (told_if (nat_le MOST_TRIGGERS (length schema.triggers)) (many_triggers MOST_TRIGGERS (length schema.triggers + 1))) _
    (of_if (LimitIsSo whole) (nat_le MOST_TRIGGERS (length schema.triggers)) (many_triggers MOST_TRIGGERS (length schema.triggers + 1)) (one_more MOST_TRIGGERS (length schema.triggers)))
    (of_or (LimitIsSo whole) (told_if (nat_le MOST_TRIGGERS_EVER schema.created) (many_triggers_ever MOST_TRIGGERS_EVER (schema.created + 1))) _
    (of_if (LimitIsSo whole) (nat_le MOST_TRIGGERS_EVER schema.created) (many_triggers_ever MOST_TRIGGERS_EVER (schema.created + 1)) (one_more MOST_TRIGGERS_EVER schema.created))
    (of_if (LimitIsSo whole) (nat_lt MOST_BODY_STATEMENTS (length t.body)) (many_statements t.name MOST_BODY_STATEMENTS (length t.body)) (λ h. h)))

statement_so : (whole : Statement) (schema : Schema) (s : Statement) → Of (LimitIsSo whole) (limit_in_statement schema s)
statement_so whole schema (statement.CreateTable name elements) = table_so whole schema name elements
statement_so whole schema (statement.AlterTable table k) = altered_so whole schema table (λ own. limit_of_addition schema own (table_constraint k)) (λ own. addition_so whole schema own (table_constraint k))
statement_so whole schema (statement.CreateTrigger t) = trigger_so whole schema t
statement_so whole schema (statement.DropTrigger name) = tt
statement_so whole schema (statement.Insert i) = tt
statement_so whole schema (statement.Update u) = tt
statement_so whole schema (statement.Delete d) = tt
statement_so whole schema (statement.Select s) = tt
statement_so whole schema statement.StartTransaction = tt
statement_so whole schema statement.Commit = tt
statement_so whole schema statement.Rollback = tt
statement_so whole schema (statement.Savepoint name) = tt
statement_so whole schema (statement.Release name) = tt
statement_so whole schema (statement.RollbackTo name) = tt
statement_so whole schema (statement.SetConstraints l m) = tt

limit_so : (schema : Schema) (s : Statement) → Of (LimitIsSo s) (limit_fault schema s)
limit_so schema s = of_or (LimitIsSo s) (limit_in_statement schema s) (told_if (not (is_writable s)) no_text) (statement_so s schema s) (of_if (LimitIsSo s) (not (is_writable s)) no_text (not-true (is_writable s)))

pub rules_so : RulesAreSo
rules_so = record {
  reference = λ columns referencing r names f h. taken (ReferenceIsSo columns r) (fault_of_reference columns referencing r names) f (reference_so columns referencing r names) h;
  limit = λ schema s f h. taken (LimitIsSo s) (limit_fault schema s) f (limit_so schema s) h;
}
