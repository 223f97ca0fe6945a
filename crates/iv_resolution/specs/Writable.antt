-- Which statements a text of the language can be: a caller of the library may build others, which are beyond the limits of the language
-- ("Names and identifiers", "Literal").
use Rattle.std.specs.Prelude.{ℕ, Bool, true, false, not, ◌&&◌, ◌||◌, ◌==◌, List, [], ◌∷◌, length, Option, Some, None, nat_le}
use Rattle.std.specs.List.{list_all}
use Rattle.iv_resolution.specs.Types.{Literal, ColumnDefinition, TableElement, ColumnName, RangeName, Expression, Condition, ValueOrDefault, SelectList, InsertSource, Insert, Assignment, Update, Delete, Select, ConstraintList, Statement, TriggerEvent, TriggerAction, TriggerDefinition}
use Rattle.iv_resolution.specs.Types.literal
use Rattle.iv_resolution.specs.Types.expression
use Rattle.iv_resolution.specs.Types.condition
use Rattle.iv_resolution.specs.Types.given as value
use Rattle.iv_resolution.specs.Types.select_list as list
use Rattle.iv_resolution.specs.Types.source
use Rattle.iv_resolution.specs.Types.insert
use Rattle.iv_resolution.specs.Types.select
use Rattle.iv_resolution.specs.Types.constraints
use Rattle.iv_resolution.specs.Types.statement
use Rattle.iv_resolution.specs.Types.event
use Rattle.iv_resolution.specs.Types.action
use Rattle.iv_syntax.specs.Trees.{group, signed, product, sum, enclosed, negated, both, either, exists_where, depth, condition_depth}
use Rattle.iv_syntax.specs.declared.limits.TheConstants.{GREATEST_INTEGER, DEEPEST_TREE, LONGEST_NAME}
use Rattle.iv_resolution.specs.Constraints.{WrittenRule, not_null, unique, primary_key, check, foreign_key, WrittenConstraint, written_columns, written_constraints, table_constraint}

-- ---- names: 1 to 128 letters in upper case, digits and `_`, and no digit first

abbrev pub is_upper_case : ℕ → Bool
is_upper_case b = (nat_le 65 b && nat_le b 90) || (b == 95)

abbrev pub is_digit : ℕ → Bool
is_digit b = nat_le 48 b && nat_le b 57

abbrev pub is_name_byte : ℕ → Bool
is_name_byte b = is_upper_case b || is_digit b

abbrev pub starts_name : List ℕ → Bool
starts_name [] = false
starts_name (b ∷ bs) = is_upper_case b

abbrev pub is_name : List ℕ → Bool
is_name name = starts_name name && (list_all is_name_byte name && nat_le (length name) LONGEST_NAME)

abbrev pub is_name_or_none : Option (List ℕ) → Bool
is_name_or_none None = true
is_name_or_none (Some name) = is_name name

abbrev pub are_names : List (List ℕ) → Bool
are_names names = list_all is_name names

-- a list of at least one name
abbrev pub is_name_list : List (List ℕ) → Bool
is_name_list names = not (length names == 0) && are_names names

-- ---- expressions and conditions

abbrev pub is_column_name : ColumnName → Bool
is_column_name c = is_name_or_none c.qualifier && is_name c.name

-- every name and number of the tree can be written
abbrev pub has_written_parts : Expression → Bool
has_written_parts (expression.Number n) = nat_le n GREATEST_INTEGER
has_written_parts (expression.Column c) = is_column_name c
has_written_parts (group a) = has_written_parts a
has_written_parts (signed s a) = has_written_parts a
has_written_parts (product a b) = has_written_parts a && has_written_parts b
has_written_parts (sum s a b) = has_written_parts a && has_written_parts b
has_written_parts _ = true

abbrev pub is_expression : Expression → Bool
is_expression e = nat_le (depth e) DEEPEST_TREE && has_written_parts e

abbrev pub is_range : RangeName → Bool
is_range r = is_name r.table && is_name_or_none r.alias

abbrev pub has_written_terms : Condition → Bool
has_written_terms (condition.Compare op a b) = has_written_parts a && has_written_parts b
has_written_terms (condition.IsNull a) = has_written_parts a
has_written_terms (condition.IsNotNull a) = has_written_parts a
has_written_terms (condition.Exists r) = is_range r
has_written_terms (exists_where r a) = is_range r && has_written_terms a
has_written_terms (enclosed a) = has_written_terms a
has_written_terms (negated a) = has_written_terms a
has_written_terms (both a b) = has_written_terms a && has_written_terms b
has_written_terms (either a b) = has_written_terms a && has_written_terms b

abbrev pub is_condition : Condition → Bool
is_condition c = nat_le (condition_depth c) DEEPEST_TREE && has_written_terms c

abbrev pub is_filter : Option Condition → Bool
is_filter None = true
is_filter (Some c) = is_condition c

-- ---- INSERT, UPDATE, DELETE and SELECT

abbrev pub is_value : ValueOrDefault → Bool
is_value (value.Value e) = is_expression e
is_value value.Default = true

-- at least one value
abbrev pub is_tuple : List ValueOrDefault → Bool
is_tuple tuple = not (length tuple == 0) && list_all is_value tuple

abbrev pub is_list : SelectList → Bool
is_list list.Star = true
is_list (list.Values es) = not (length es == 0) && list_all is_expression es

abbrev pub is_insert_source : InsertSource → Bool
is_insert_source (source.Values tuples) = not (length tuples == 0) && list_all is_tuple tuples
is_insert_source (source.Select l r filter) = is_list l && (is_range r && is_filter filter)

abbrev pub is_name_list_or_none : Option (List (List ℕ)) → Bool
is_name_list_or_none None = true
is_name_list_or_none (Some names) = is_name_list names

abbrev pub is_insert : Insert → Bool
is_insert (insert.DefaultValues table) = is_name table
is_insert (insert.Rows table columns s) = is_name table && (is_name_list_or_none columns && is_insert_source s)

abbrev pub is_assignment : Assignment → Bool
is_assignment a = is_name a.column && is_value a.value

abbrev pub is_update : Update → Bool
is_update u = is_name u.table && (not (length u.assignments == 0) && (list_all is_assignment u.assignments && is_filter u.filter))

abbrev pub is_delete : Delete → Bool
is_delete d = is_name d.table && is_filter d.filter

abbrev pub is_select : Select → Bool
is_select (select.Count r filter) = is_range r && is_filter filter
is_select (select.Rows l r filter) = is_list l && (is_range r && is_filter filter)

-- ---- CREATE TABLE and ALTER TABLE

abbrev pub is_literal : Literal → Bool
is_literal (literal.Number s n) = nat_le n GREATEST_INTEGER
is_literal _ = true

abbrev pub is_definition : ColumnDefinition → Bool
is_definition c = is_name c.name && elim c.default [ Some l ↦ is_literal l | None ↦ true ]

abbrev pub is_rule : WrittenRule → Bool
is_rule (not_null column) = is_name column
is_rule (unique nulls columns) = is_name_list columns
is_rule (primary_key columns) = is_name_list columns
is_rule (check c) = is_condition c
is_rule (foreign_key columns r) = is_name_list columns && (is_name r.table && is_name_list_or_none r.columns)

abbrev pub is_written_constraint : WrittenConstraint → Bool
is_written_constraint k = is_name_or_none k.name && is_rule k.rule

abbrev pub is_table_definition : List ℕ → List TableElement → Bool
is_table_definition name elements =
    is_name name && (list_all is_definition (written_columns elements) && list_all is_written_constraint (written_constraints elements))

-- ---- CREATE TRIGGER

abbrev pub is_action : TriggerAction → Bool
is_action (action.Insert i) = is_insert i
is_action (action.Update u) = is_update u
is_action (action.Delete d) = is_delete d
is_action (action.Signal t) = true
is_action (action.Set v column e) = is_name v && (is_name column && is_expression e)

-- only UPDATE has a list of columns
abbrev pub are_event_columns : TriggerEvent → List (List ℕ) → Bool
are_event_columns event.Update columns = are_names columns
are_event_columns _ columns = length columns == 0

abbrev pub is_trigger_definition : TriggerDefinition → Bool
is_trigger_definition t =
    is_name t.name && (is_name t.table && (are_event_columns t.event t.columns && (list_all (λ i. is_name i.name) t.referencing
    && (is_filter t.when && (not (length t.body == 0) && list_all is_action t.body)))))

-- ---- statements

abbrev pub is_constraint_list : ConstraintList → Bool
is_constraint_list constraints.All = true
is_constraint_list (constraints.Named names) = is_name_list names

-- A text of the language can be this statement, as far as names, numbers, depth and lists without an element are concerned.
abbrev pub is_writable : Statement → Bool
is_writable (statement.CreateTable name elements) = is_table_definition name elements
is_writable (statement.AlterTable table k) = is_name table && is_written_constraint (table_constraint k)
is_writable (statement.CreateTrigger t) = is_trigger_definition t
is_writable (statement.DropTrigger name) = is_name name
is_writable (statement.Insert i) = is_insert i
is_writable (statement.Update u) = is_update u
is_writable (statement.Delete d) = is_delete d
is_writable (statement.Select s) = is_select s
is_writable statement.StartTransaction = true
is_writable statement.Commit = true
is_writable statement.Rollback = true
is_writable (statement.Savepoint name) = is_name name
is_writable (statement.Release name) = is_name name
is_writable (statement.RollbackTo name) = is_name name
is_writable (statement.SetConstraints l m) = is_constraint_list l
