-- Names at fault: the first name of a statement that names nothing, and the first that is in use or comes twice. A statement deserves
-- Unknown or Duplicate if there is such a name, and the name is told with the refusal.
use Rattle.std.specs.Prelude.{ℕ, ◌+◌, not, if◌then◌else◌, List, [], ◌∷◌, ◌++◌, length, map, slice_get, Option, Some, None, is_none, option_map}
use Rattle.std.specs.Option.{option_or}
use Rattle.iv_resolution.specs.Types.{Condition, Expression, RangeName, TableConstraint, TableElement, Assignment, ConstraintList, Delete, Insert, InsertSource, Select, SelectList, Statement, Update, ValueOrDefault, TriggerAction, TriggerDefinition, Cause}
use Rattle.iv_resolution.specs.Types.condition
use Rattle.iv_resolution.specs.Types.expression
use Rattle.iv_resolution.specs.Types.constraints
use Rattle.iv_resolution.specs.Types.element
use Rattle.iv_resolution.specs.Types.insert
use Rattle.iv_resolution.specs.Types.source
use Rattle.iv_resolution.specs.Types.select
use Rattle.iv_resolution.specs.Types.select_list as list
use Rattle.iv_resolution.specs.Types.statement
use Rattle.iv_resolution.specs.Types.given as value
use Rattle.iv_resolution.specs.Types.action
use Rattle.iv_resolution.specs.Types.cause.{Unknown, Duplicate}
use Rattle.iv_syntax.specs.Trees.{group, signed, product, sum, enclosed, negated, both, either, exists_where}
use Rattle.iv_catalogue.specs.Names.{is_among}
use Rattle.iv_catalogue.specs.Catalogues.{Schema, has_constraint, has_table, has_trigger}
use Rattle.iv_resolution.specs.Scopes.{NamedColumn, NamedRange, Names, has_column, is_source, range_of, table_place}
use Rattle.iv_resolution.specs.Terms.{unknown_column}
use Rattle.iv_resolution.specs.Changes.{is_table, target_columns, target_ranges}
use Rattle.iv_resolution.specs.Constraints.{WrittenRule, not_null, unique, primary_key, check, foreign_key, WrittenConstraint, written_columns, written_constraints, table_constraint, constraint_name, constraints_of, Referenced, Altered, referenced}
use Rattle.iv_resolution.specs.Tables.{created_table, altered_at, creating, table_names, check_ranges}
use Rattle.iv_resolution.specs.Triggers.{subject_of, trigger_names, trigger_variables, variable_named}
use Rattle.iv_resolution.specs.Items.{Item, table_item, column_item, variable_item, trigger_item, constraint_item, generated_item, transition_item, Fault, unknown_fault, in_use_fault, twice_fault, told_if, first_of, first_again}

-- ---- value expressions and search conditions

abbrev pub unknown_in_expression : List NamedRange → Expression → Option Item
unknown_in_expression ranges (expression.Column c) = told_if (unknown_column ranges c) (column_item c.qualifier c.name)
unknown_in_expression ranges (group a) = unknown_in_expression ranges a
unknown_in_expression ranges (signed s a) = unknown_in_expression ranges a
unknown_in_expression ranges (product a b) = option_or (unknown_in_expression ranges a) (unknown_in_expression ranges b)
unknown_in_expression ranges (sum s a b) = option_or (unknown_in_expression ranges a) (unknown_in_expression ranges b)
unknown_in_expression ranges _ = None

-- what a FROM names
abbrev pub unknown_in_from : Names → RangeName → Option Item
unknown_in_from names r = told_if (not (is_source names r.table)) (table_item r.table)

unfoldable pub unknown_in_condition : Names → List NamedRange → Condition → Option Item
unknown_in_condition names ranges (condition.Compare op a b) = option_or (unknown_in_expression ranges a) (unknown_in_expression ranges b)
unknown_in_condition names ranges (condition.IsNull a) = unknown_in_expression ranges a
unknown_in_condition names ranges (condition.IsNotNull a) = unknown_in_expression ranges a
unknown_in_condition names ranges (condition.Exists r) = unknown_in_from names r
unknown_in_condition names ranges (exists_where r a) = option_or (unknown_in_from names r) (unknown_in_condition names (range_of names r ∷ ranges) a)
unknown_in_condition names ranges (enclosed a) = unknown_in_condition names ranges a
unknown_in_condition names ranges (negated a) = unknown_in_condition names ranges a
unknown_in_condition names ranges (both a b) = option_or (unknown_in_condition names ranges a) (unknown_in_condition names ranges b)
unknown_in_condition names ranges (either a b) = option_or (unknown_in_condition names ranges a) (unknown_in_condition names ranges b)

abbrev pub unknown_in_filter : Names → List NamedRange → Option Condition → Option Item
unknown_in_filter names ranges None = None
unknown_in_filter names ranges (Some c) = unknown_in_condition names ranges c

-- ---- INSERT, UPDATE, DELETE and SELECT

abbrev pub unknown_in_columns : List NamedColumn → List (List ℕ) → Option Item
unknown_in_columns columns names = first_of (λ n. told_if (not (has_column columns n)) (column_item None n)) names

abbrev pub unknown_in_listed : List NamedColumn → Option (List (List ℕ)) → Option Item
unknown_in_listed columns None = None
unknown_in_listed columns (Some names) = unknown_in_columns columns names

abbrev pub unknown_in_value : List NamedRange → ValueOrDefault → Option Item
unknown_in_value ranges (value.Value e) = unknown_in_expression ranges e
unknown_in_value ranges value.Default = None

abbrev pub unknown_in_select_list : List NamedRange → SelectList → Option Item
unknown_in_select_list ranges list.Star = None
unknown_in_select_list ranges (list.Values es) = first_of (unknown_in_expression ranges) es

abbrev pub unknown_in_query : Names → List NamedRange → SelectList → RangeName → Option Condition → Option Item
unknown_in_query names ranges l r filter =
    option_or (unknown_in_from names r)
    (option_or (unknown_in_select_list (range_of names r ∷ ranges) l) (unknown_in_filter names (range_of names r ∷ ranges) filter))

abbrev pub unknown_in_source : Names → List NamedRange → InsertSource → Option Item
unknown_in_source names ranges (source.Values tuples) = first_of (λ tuple. first_of (unknown_in_value ranges) tuple) tuples
unknown_in_source names ranges (source.Select l r filter) = unknown_in_query names ranges l r filter

-- the table that a statement changes
abbrev pub unknown_in_target : Names → List ℕ → Option Item
unknown_in_target names table = told_if (not (is_table names table)) (table_item table)

abbrev pub unknown_in_insert : Names → List NamedRange → Insert → Option Item
unknown_in_insert names ranges (insert.DefaultValues table) = unknown_in_target names table
unknown_in_insert names ranges (insert.Rows table columns s) =
    option_or (unknown_in_target names table)
    (option_or (unknown_in_listed (target_columns names table) columns) (unknown_in_source names ranges s))

abbrev pub unknown_in_assignment : List NamedColumn → List NamedRange → Assignment → Option Item
unknown_in_assignment columns ranges a =
    option_or (told_if (not (has_column columns a.column)) (column_item None a.column)) (unknown_in_value ranges a.value)

abbrev pub unknown_in_update : Names → List NamedRange → Update → Option Item
unknown_in_update names ranges u =
    option_or (unknown_in_target names u.table)
    (option_or (first_of (unknown_in_assignment (target_columns names u.table) (target_ranges names u.table ranges)) u.assignments)
    (unknown_in_filter names (target_ranges names u.table ranges) u.filter))

abbrev pub unknown_in_delete : Names → List NamedRange → Delete → Option Item
unknown_in_delete names ranges d =
    option_or (unknown_in_target names d.table) (unknown_in_filter names (target_ranges names d.table ranges) d.filter)

abbrev pub unknown_in_select : Names → List NamedRange → Select → Option Item
unknown_in_select names ranges (select.Count r filter) = unknown_in_query names ranges list.Star r filter
unknown_in_select names ranges (select.Rows l r filter) = unknown_in_query names ranges l r filter

-- ---- CREATE TRIGGER

-- SET of a column of a row variable: the variable, then its column
unfoldable pub unknown_in_set : Names → List NamedRange → List ℕ → List ℕ → Option Item
unknown_in_set names variables v column =
    option_or (told_if (is_none (variable_named variables v)) (variable_item v))
    (told_if (not (has_column names.subject column)) (column_item (Some v) column))

unfoldable pub unknown_in_action : Names → List NamedRange → TriggerAction → Option Item
unknown_in_action names variables (action.Insert i) = unknown_in_insert names variables i
unknown_in_action names variables (action.Update u) = unknown_in_update names variables u
unknown_in_action names variables (action.Delete d) = unknown_in_delete names variables d
unknown_in_action names variables (action.Signal t) = None
unknown_in_action names variables (action.Set v column e) = option_or (unknown_in_set names variables v column) (unknown_in_expression variables e)

abbrev pub unknown_in_trigger : Schema → TriggerDefinition → Option Item
unknown_in_trigger schema t =
    option_or (unknown_in_target (trigger_names schema t) t.table)
    (option_or (unknown_in_columns (subject_of schema t) t.columns)
    (option_or (unknown_in_filter (trigger_names schema t) (trigger_variables schema t) t.when)
    (first_of (unknown_in_action (trigger_names schema t) (trigger_variables schema t)) t.body)))

-- ---- CREATE TABLE and ALTER TABLE

-- the table that a foreign key refers to, then the columns of its list
abbrev pub unknown_in_reference : List ℕ → Option Referenced → Option (List (List ℕ)) → Option Item
unknown_in_reference table None names = Some (table_item table)
unknown_in_reference table (Some r) None = None
unknown_in_reference table (Some r) (Some names) = unknown_in_columns r.columns names

abbrev pub unknown_in_rule : Schema → Names → Altered → WrittenRule → Option Item
unknown_in_rule schema names own (not_null column) = told_if (not (has_column own.columns column)) (column_item None column)
unknown_in_rule schema names own (unique nulls columns) = unknown_in_columns own.columns columns
unknown_in_rule schema names own (primary_key columns) = unknown_in_columns own.columns columns
unknown_in_rule schema names own (check c) = unknown_in_condition names (check_ranges own) c
unknown_in_rule schema names own (foreign_key columns r) =
    option_or (unknown_in_columns own.columns columns) (unknown_in_reference r.table (referenced schema own r.table) r.columns)

abbrev pub unknown_in_table : Schema → List ℕ → List TableElement → Option Item
unknown_in_table schema name elements =
    first_of (λ k. unknown_in_rule schema (creating schema (created_table schema name elements)) (created_table schema name elements) k.rule) (written_constraints elements)

-- what is told of the table that an ALTER TABLE names; nothing if there is none, which is only Unknown
abbrev pub told_of_altered : {A : Type 0} → Schema → List ℕ → (Altered → Option A) → Option A
told_of_altered schema table tells =
    elim (table_place schema.tables table) [
      | Some place ↦ elim (slice_get schema.tables place) [ Some t ↦ tells (altered_at schema place t) | None ↦ None ]
      | None ↦ None
    ]

-- the table, then the constraint that is added
abbrev pub unknown_in_alteration : Schema → List ℕ → TableConstraint → Option Item
unknown_in_alteration schema table k =
    option_or (unknown_in_target (table_names schema) table)
    (told_of_altered schema table (λ own. unknown_in_rule schema (table_names schema) own (table_constraint k).rule))

-- ---- the first name of a statement that names nothing there

abbrev pub unknown_in_constraints : Schema → ConstraintList → Option Item
unknown_in_constraints schema constraints.All = None
unknown_in_constraints schema (constraints.Named names) = first_of (λ n. told_if (not (has_constraint schema n)) (constraint_item n)) names

abbrev pub unknown_name : Schema → Statement → Option Item
unknown_name schema (statement.CreateTable name elements) = unknown_in_table schema name elements
unknown_name schema (statement.AlterTable table k) = unknown_in_alteration schema table k
unknown_name schema (statement.CreateTrigger t) = unknown_in_trigger schema t
unknown_name schema (statement.DropTrigger name) = told_if (not (has_trigger schema name)) (trigger_item name)
unknown_name schema (statement.Insert i) = unknown_in_insert (table_names schema) [] i
unknown_name schema (statement.Update u) = unknown_in_update (table_names schema) [] u
unknown_name schema (statement.Delete d) = unknown_in_delete (table_names schema) [] d
unknown_name schema (statement.Select s) = unknown_in_select (table_names schema) [] s
unknown_name schema (statement.SetConstraints l m) = unknown_in_constraints schema l
unknown_name schema _ = None

-- ---- names that are in use or come twice

-- the first of these names of columns that comes again
abbrev pub column_twice : List (List ℕ) → Option Fault
column_twice names = option_map (λ n. twice_fault (column_item None n)) (first_again (λ n. n) [] names)

abbrev pub column_twice_listed : Option (List (List ℕ)) → Option Fault
column_twice_listed None = None
column_twice_listed (Some names) = column_twice names

abbrev pub duplicate_in_insert : Insert → Option Fault
duplicate_in_insert (insert.DefaultValues table) = None
duplicate_in_insert (insert.Rows table columns s) = column_twice_listed columns

abbrev pub duplicate_in_update : Update → Option Fault
duplicate_in_update u = column_twice (map (λ a. a.column) u.assignments)

abbrev pub duplicate_in_action : TriggerAction → Option Fault
duplicate_in_action (action.Insert i) = duplicate_in_insert i
duplicate_in_action (action.Update u) = duplicate_in_update u
duplicate_in_action _ = None

-- the first name of REFERENCING that comes again
abbrev pub transition_twice : List (List ℕ) → Option Fault
transition_twice names = option_map (λ n. twice_fault (transition_item n)) (first_again (λ n. n) [] names)

abbrev pub duplicate_in_trigger : Schema → TriggerDefinition → Option Fault
duplicate_in_trigger schema t =
    option_or (told_if (has_trigger schema t.name) (in_use_fault (trigger_item t.name)))
    (option_or (column_twice t.columns)
    (option_or (transition_twice (map (λ i. i.name) t.referencing))
    (first_of duplicate_in_action t.body)))

abbrev pub duplicate_in_rule : WrittenRule → Option Fault
duplicate_in_rule (not_null column) = None
duplicate_in_rule (unique nulls columns) = column_twice columns
duplicate_in_rule (primary_key columns) = column_twice columns
duplicate_in_rule (check c) = None
duplicate_in_rule (foreign_key columns r) = option_or (column_twice columns) (column_twice_listed r.columns)

-- a constraint by the name that is given, or by its table and its place
abbrev pub item_of_constraint : List ℕ → ℕ → WrittenConstraint → Item
item_of_constraint table place k = elim k.name [ Some name ↦ constraint_item name | None ↦ generated_item table place ]

-- the constraint at this place, if its name is in use
abbrev pub constraint_in_use : Schema → List ℕ → ℕ → WrittenConstraint → Option Fault
constraint_in_use schema table place k =
    told_if (has_constraint schema (constraint_name table place k)) (in_use_fault (item_of_constraint table place k))

-- the constraint at this place, if its name is among those before it
abbrev pub constraint_again : List ℕ → ℕ → List (List ℕ) → WrittenConstraint → Option Fault
constraint_again table place before k = told_if (is_among before (constraint_name table place k)) (twice_fault (item_of_constraint table place k))

-- a constraint in the order of its text: its name, which is in use or among those before it, then a column that comes twice in a list
abbrev pub duplicate_in_constraint : Schema → List ℕ → ℕ → List (List ℕ) → WrittenConstraint → Option Fault
duplicate_in_constraint schema table place before k =
    option_or (constraint_in_use schema table place k) (option_or (constraint_again table place before k) (duplicate_in_rule k.rule))

-- the first of these constraints of a new table; the first of them has this place, and those before it have these names
abbrev pub duplicate_in_constraints : Schema → List ℕ → ℕ → List (List ℕ) → List WrittenConstraint → Option Fault
duplicate_in_constraints schema table place before [] = None
duplicate_in_constraints schema table place before (k ∷ constraints) =
    option_or (duplicate_in_constraint schema table place before k)
    (duplicate_in_constraints schema table (place + 1) (before ++ constraint_name table place k ∷ []) constraints)

-- the text of a CREATE TABLE up to the first column that comes again, if these columns stand before it
abbrev pub before_column_again : List (List ℕ) → List TableElement → List TableElement
before_column_again before [] = []
before_column_again before (element.Column c ∷ elements) =
    if is_among before c.name then [] else element.Column c ∷ before_column_again (before ++ c.name ∷ []) elements
before_column_again before (element.Constraint k ∷ elements) = element.Constraint k ∷ before_column_again before elements

-- The first in the text: the table's name, the constraints that stand before the first column that comes again, and then that column.
abbrev pub duplicate_in_table : Schema → List ℕ → List TableElement → Option Fault
duplicate_in_table schema name elements =
    option_or (told_if (has_table schema name) (in_use_fault (table_item name)))
    (option_or (duplicate_in_constraints schema name 1 [] (written_constraints (before_column_again [] elements)))
    (column_twice (map (λ c. c.name) (written_columns elements))))

-- the name of the constraint that an ALTER TABLE adds, if it is in use
abbrev pub addition_in_use : Schema → Altered → WrittenConstraint → Option Fault
addition_in_use schema own k = constraint_in_use schema own.name (length (constraints_of schema own.table) + 1) k

-- the name of the constraint that is added, then the columns of its key or list
abbrev pub duplicate_in_alteration : Schema → List ℕ → TableConstraint → Option Fault
duplicate_in_alteration schema table k =
    option_or (told_of_altered schema table (λ own. addition_in_use schema own (table_constraint k))) (duplicate_in_rule (table_constraint k).rule)

-- ---- the first new name of a statement that is in use or comes twice, or the first column that comes twice in a list

abbrev pub duplicate_name : Schema → Statement → Option Fault
duplicate_name schema (statement.CreateTable name elements) = duplicate_in_table schema name elements
duplicate_name schema (statement.AlterTable table k) = duplicate_in_alteration schema table k
duplicate_name schema (statement.CreateTrigger t) = duplicate_in_trigger schema t
duplicate_name schema (statement.Insert i) = duplicate_in_insert i
duplicate_name schema (statement.Update u) = duplicate_in_update u
duplicate_name schema _ = None

-- ---- the name that a refusal is about

abbrev pub name_fault : Schema → Statement → Cause → Option Fault
name_fault schema s Unknown = option_map unknown_fault (unknown_name schema s)
name_fault schema s Duplicate = duplicate_name schema s
name_fault schema s _ = None
