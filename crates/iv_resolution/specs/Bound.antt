-- The plan of a statement: the statement with every name replaced by what it means. It is that of a statement which deserves no cause; of
-- any other one it says nothing of use, a name that names nothing being put as the first column or table.
use Rattle.std.specs.Prelude.{ℕ, min, ◌-ℤ◌, pos, List, [], ◌∷◌, map, find, Option, Some, None, unwrap_or, position, slice_get}
use Rattle.std.specs.List.{enumerate_from}
use Rattle.std.specs.Str.{bytes_eq}
use Rattle.iv_resolution.specs.Types.{Value, Kind, Expr, ColumnType, Literal, References, ColumnDefinition, TableElement, ValueOrDefault, SelectList, InsertSource, Insert, Assignment, Update, Delete, Select, ConstraintList, Statement, TriggerAction, TriggerDefinition, Column, Constraint, ForeignKey, Rule, Plan, QueryPlan, ConstraintSet, Setting, Outputs, InsertColumns, InsertRows, DataStatement, BodyStatement, Trigger}
use Rattle.iv_resolution.specs.Types.value
use Rattle.iv_resolution.specs.Types.kind
use Rattle.iv_resolution.specs.Types.expr
use Rattle.iv_resolution.specs.Types.sign
use Rattle.iv_resolution.specs.Types.type
use Rattle.iv_resolution.specs.Types.literal
use Rattle.iv_resolution.specs.Types.matching.{Simple}
use Rattle.iv_resolution.specs.Types.referential_action.{NoAction}
use Rattle.iv_resolution.specs.Types.given
use Rattle.iv_resolution.specs.Types.select_list as list
use Rattle.iv_resolution.specs.Types.source
use Rattle.iv_resolution.specs.Types.insert
use Rattle.iv_resolution.specs.Types.select
use Rattle.iv_resolution.specs.Types.constraints
use Rattle.iv_resolution.specs.Types.statement
use Rattle.iv_resolution.specs.Types.action
use Rattle.iv_resolution.specs.Types.rule
use Rattle.iv_resolution.specs.Types.plan
use Rattle.iv_resolution.specs.Types.schema.{CreateTable, AddConstraint, CreateTrigger, DropTrigger}
use Rattle.iv_resolution.specs.Types.query
use Rattle.iv_resolution.specs.Types.transaction
use Rattle.iv_resolution.specs.Types.set
use Rattle.iv_resolution.specs.Types.outputs
use Rattle.iv_resolution.specs.Types.insert_columns as listing
use Rattle.iv_resolution.specs.Types.insert_rows as rows
use Rattle.iv_resolution.specs.Types.data_statement
use Rattle.iv_resolution.specs.Types.body
use Rattle.iv_catalogue.specs.Catalogues.{Schema}
use Rattle.iv_resolution.specs.Scopes.{NamedColumn, NamedRange, Names, named_columns, place_of, table_place, range_of, source_range}
use Rattle.iv_resolution.specs.Terms.{integer_of, bound_expression, bound_condition, bound_filter}
use Rattle.iv_resolution.specs.Constraints.{WrittenRule, not_null, unique, primary_key, check, foreign_key, WrittenConstraint, written_columns, written_constraints, table_constraint, constraint_name, is_deferrable, initial_mode, places_of, primary_key_of, Referenced, Altered, referenced}
use Rattle.iv_resolution.specs.Changes.{stored_columns, target_columns, target_ranges}
use Rattle.iv_resolution.specs.Tables.{created_table, altered_at, creating, table_names, check_ranges, added_name}
use Rattle.iv_resolution.specs.Triggers.{subject_of, trigger_names, trigger_variables}

-- ---- INSERT, UPDATE, DELETE and SELECT

unfoldable pub table_id : Names → List ℕ → ℕ
table_id names name = unwrap_or (table_place names.tables name) 0

-- the default of a column by its place; NULL if there is no such column
unfoldable pub default_at : List Column → ℕ → Value
default_at columns place = elim (slice_get columns place) [ Some c ↦ c.default | None ↦ value.Null ]

-- a value for the column at this place: DEFAULT is the column's default
unfoldable pub bound_value : List Column → List NamedRange → ℕ → ValueOrDefault → Expr
bound_value columns ranges place (given.Value e) = bound_expression ranges e
bound_value columns ranges place given.Default = expr.Literal (default_at columns place)

-- the place of the column that the value at a place of a tuple is for
unfoldable pub target_place : List NamedColumn → Option (List (List ℕ)) → ℕ → ℕ
target_place columns None at = at
target_place columns (Some names) at = elim (slice_get names at) [ Some name ↦ place_of columns name | None ↦ 0 ]

unfoldable pub bound_tuple : List Column → Option (List (List ℕ)) → List NamedRange → List ValueOrDefault → List Expr
bound_tuple columns names ranges tuple =
    map (λ p. bound_value columns ranges (target_place (named_columns columns) names p.0) p.1) (enumerate_from 0 tuple)

unfoldable pub bound_list : List NamedRange → SelectList → Outputs
bound_list ranges list.Star = outputs.Star
bound_list ranges (list.Values es) = outputs.Values (map (bound_expression ranges) es)

unfoldable pub bound_source : Names → List NamedRange → List Column → Option (List (List ℕ)) → InsertSource → InsertRows
bound_source names ranges columns listed (source.Values tuples) = rows.Values (map (bound_tuple columns listed ranges) tuples)
bound_source names ranges columns listed (source.Select l r filter) =
    rows.Query (bound_list (range_of names r ∷ ranges) l) (source_range names r.table) (bound_filter names (range_of names r ∷ ranges) filter)

unfoldable pub bound_columns : List NamedColumn → Option (List (List ℕ)) → InsertColumns
bound_columns columns None = listing.All
bound_columns columns (Some names) = listing.Listed (places_of columns names)

-- DEFAULT VALUES is one tuple of no value for no column
abbrev pub bound_insert : Names → List NamedRange → Insert → DataStatement
bound_insert names ranges (insert.DefaultValues table) =
    data_statement.Insert (table_id names table) (listing.Listed []) (rows.Values ([] ∷ []))
bound_insert names ranges (insert.Rows table listed s) =
    data_statement.Insert (table_id names table) (bound_columns (target_columns names table) listed)
    (bound_source names ranges (stored_columns names.tables table) listed s)

unfoldable pub bound_assignment : List Column → List NamedRange → Assignment → Setting
bound_assignment columns ranges a = record {
  column = place_of (named_columns columns) a.column;
  value = bound_value columns ranges (place_of (named_columns columns) a.column) a.value;
}

abbrev pub bound_update : Names → List NamedRange → Update → DataStatement
bound_update names ranges u =
    data_statement.Update (table_id names u.table)
    (map (bound_assignment (stored_columns names.tables u.table) (target_ranges names u.table ranges)) u.assignments)
    (bound_filter names (target_ranges names u.table ranges) u.filter)

abbrev pub bound_delete : Names → List NamedRange → Delete → DataStatement
bound_delete names ranges d =
    data_statement.Delete (table_id names d.table) (bound_filter names (target_ranges names d.table ranges) d.filter)

abbrev pub bound_select : Names → Select → QueryPlan
bound_select names (select.Count r filter) = query.Count (table_id names r.table) (bound_filter names (range_of names r ∷ []) filter)
bound_select names (select.Rows l r filter) =
    query.Rows (table_id names r.table) (bound_list (range_of names r ∷ []) l) (bound_filter names (range_of names r ∷ []) filter)

-- ---- CREATE TABLE and ALTER TABLE

-- a number has no sign or one
abbrev pub bound_literal : Literal → Value
bound_literal (literal.Number (Some sign.Minus) n) = value.Int (pos 0 -ℤ integer_of n)
bound_literal (literal.Number _ n) = value.Int (integer_of n)
bound_literal (literal.Text t) = value.Text t
bound_literal literal.Null = value.Null

-- the length is at most 4,096 in a statement that deserves no cause
abbrev pub bound_kind : ColumnType → Kind
bound_kind type.Integer = kind.Integer
bound_kind (type.Varchar n) = kind.Varchar (min n 65535)

-- a column without DEFAULT has the default NULL
abbrev pub bound_default : Option Literal → Value
bound_default (Some l) = bound_literal l
bound_default None = value.Null

abbrev pub bound_column_definition : ColumnDefinition → Column
bound_column_definition c = record { name = c.name; kind = bound_kind c.kind; default = bound_default c.default }

-- the columns that a foreign key refers to: those of its list, or of the primary key
abbrev pub key_places : Referenced → Option (List (List ℕ)) → List ℕ
key_places r (Some names) = places_of r.columns names
key_places r None = elim (primary_key_of r.keys) [ Some k ↦ k.places | None ↦ [] ]

abbrev pub bound_reference : Altered → List (List ℕ) → References → Option Referenced → ForeignKey
bound_reference own names r t = record {
  columns = places_of own.columns names;
  referenced = elim t [ Some s ↦ s.table | None ↦ 0 ];
  key = elim t [ Some s ↦ key_places s r.columns | None ↦ [] ];
  matching = unwrap_or r.matching Simple;
  on_delete = unwrap_or r.on_delete NoAction;
  on_update = unwrap_or r.on_update NoAction;
}

abbrev pub bound_rule : Schema → Names → Altered → WrittenRule → Rule
bound_rule schema names own (not_null column) = rule.NotNull (place_of own.columns column)
bound_rule schema names own (unique nulls columns) = rule.Unique nulls (places_of own.columns columns)
bound_rule schema names own (primary_key columns) = rule.PrimaryKey (places_of own.columns columns)
bound_rule schema names own (check c) = rule.Check (bound_condition names (check_ranges own) c)
bound_rule schema names own (foreign_key columns r) = rule.ForeignKey (bound_reference own columns r (referenced schema own r.table))

abbrev pub bound_constraint : Schema → Names → Altered → List ℕ → WrittenConstraint → Constraint
bound_constraint schema names own name k = record {
  name = name;
  table = own.table;
  rule = bound_rule schema names own k.rule;
  deferrable = is_deferrable k.time;
  initially = initial_mode k.time;
}

-- the constraint at this place among those that the statement writes, from 1
abbrev pub bound_place : Schema → Altered → ℕ × WrittenConstraint → Constraint
bound_place schema own p = bound_constraint schema (creating schema own) own (constraint_name own.name p.0 p.1) p.1

abbrev pub bound_table : Schema → List ℕ → List TableElement → Plan
bound_table schema name elements =
    plan.Schema (CreateTable
    (record { name = name; columns = map bound_column_definition (written_columns elements) })
    (map (bound_place schema (created_table schema name elements)) (enumerate_from 1 (written_constraints elements))))

abbrev pub bound_addition : Schema → Altered → WrittenConstraint → Plan
bound_addition schema own k =
    plan.Schema (AddConstraint (bound_constraint schema (table_names schema) own (added_name schema own k) k))

-- ---- CREATE TRIGGER

abbrev pub bound_action : Names → List NamedRange → TriggerAction → BodyStatement
bound_action names variables (action.Insert i) = body.Data (bound_insert names variables i)
bound_action names variables (action.Update u) = body.Data (bound_update names variables u)
bound_action names variables (action.Delete d) = body.Data (bound_delete names variables d)
bound_action names variables (action.Signal t) = body.Signal t
bound_action names variables (action.Set v column e) =
    body.Set (record { column = place_of names.subject column; value = bound_expression variables e })

-- its number is how many triggers were created before it
abbrev pub bound_trigger : Schema → TriggerDefinition → Trigger
bound_trigger schema t = record {
  id = schema.created;
  name = t.name;
  table = table_id (table_names schema) t.table;
  time = t.time;
  event = t.event;
  columns = places_of (subject_of schema t) t.columns;
  granularity = t.granularity;
  when = bound_filter (trigger_names schema t) (trigger_variables schema t) t.when;
  body = map (bound_action (trigger_names schema t) (trigger_variables schema t)) t.body;
}

-- ---- the other statements

-- the number of the trigger of that name
abbrev pub trigger_id : Schema → List ℕ → ℕ
trigger_id schema name = elim (find (λ t. bytes_eq name t.name) schema.triggers) [ Some t ↦ t.id | None ↦ 0 ]

-- the place of the constraint of that name
abbrev pub constraint_id : Schema → List ℕ → ℕ
constraint_id schema name = unwrap_or (position (λ k. bytes_eq name k.name) schema.constraints) 0

abbrev pub bound_constraints : Schema → ConstraintList → ConstraintSet
bound_constraints schema constraints.All = set.All
bound_constraints schema (constraints.Named names) = set.Named (map (constraint_id schema) names)

-- the plan of an ALTER TABLE of the table at this place
abbrev pub bound_alteration : Schema → ℕ → WrittenConstraint → Plan
bound_alteration schema place k =
    elim (slice_get schema.tables place) [
      | Some t ↦ bound_addition schema (altered_at schema place t) k
      | None ↦ plan.Transaction transaction.Commit
    ]

-- The plan of a statement.
abbrev pub bound : Schema → Statement → Plan
bound schema (statement.CreateTable name elements) = bound_table schema name elements
bound schema (statement.AlterTable table k) = bound_alteration schema (table_id (table_names schema) table) (table_constraint k)
bound schema (statement.CreateTrigger t) = plan.Schema (CreateTrigger (bound_trigger schema t))
bound schema (statement.DropTrigger name) = plan.Schema (DropTrigger (trigger_id schema name))
bound schema (statement.Insert i) = plan.Change (bound_insert (table_names schema) [] i)
bound schema (statement.Update u) = plan.Change (bound_update (table_names schema) [] u)
bound schema (statement.Delete d) = plan.Change (bound_delete (table_names schema) [] d)
bound schema (statement.Select s) = plan.Query (bound_select (table_names schema) s)
bound schema statement.StartTransaction = plan.Transaction transaction.Start
bound schema statement.Commit = plan.Transaction transaction.Commit
bound schema statement.Rollback = plan.Transaction transaction.Rollback
bound schema (statement.Savepoint name) = plan.Transaction (transaction.Savepoint name)
bound schema (statement.Release name) = plan.Transaction (transaction.Release name)
bound schema (statement.RollbackTo name) = plan.Transaction (transaction.RollbackTo name)
bound schema (statement.SetConstraints l m) = plan.Transaction (transaction.SetConstraints (bound_constraints schema l) m)
