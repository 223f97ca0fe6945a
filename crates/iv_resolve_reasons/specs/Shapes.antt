-- What doesn't suit in a statement that is refused for WrongShape: the first in its text of a tuple or list with too few or too many
-- values, a value that doesn't suit its column, a comparison of an integer with a text, and a text as an operand.
use Rattle.std.specs.Prelude.{ℕ, ◌+◌, not, ◌==◌, List, [], ◌∷◌, length, map, zip, Option, Some, None}
use Rattle.std.specs.Option.{option_or}
use Rattle.iv_syntax.specs.declared.table.ColumnType.{ColumnType}
use Rattle.iv_syntax.specs.declared.table.TableElement.{TableElement}
use Rattle.iv_syntax.specs.declared.table.TableConstraint.{TableConstraint}
use Rattle.iv_syntax.specs.declared.tree.Expression.{Expression}
use Rattle.iv_syntax.specs.declared.tree.Condition.{Condition}
use Rattle.iv_syntax.specs.declared.tree.Condition.TheVariants as condition
use Rattle.iv_syntax.specs.declared.tree.RangeName.{RangeName}
use Rattle.iv_syntax.specs.declared.statement.Assignment.{Assignment}
use Rattle.iv_syntax.specs.declared.statement.Delete.{Delete}
use Rattle.iv_syntax.specs.declared.statement.Insert.{Insert}
use Rattle.iv_syntax.specs.declared.statement.Insert.TheVariants as insert
use Rattle.iv_syntax.specs.declared.statement.InsertSource.{InsertSource}
use Rattle.iv_syntax.specs.declared.statement.InsertSource.TheVariants as source
use Rattle.iv_syntax.specs.declared.statement.Select.{Select}
use Rattle.iv_syntax.specs.declared.statement.Select.TheVariants as select
use Rattle.iv_syntax.specs.declared.statement.SelectList.{SelectList}
use Rattle.iv_syntax.specs.declared.statement.SelectList.TheVariants as list
use Rattle.iv_syntax.specs.declared.statement.Statement.{Statement}
use Rattle.iv_syntax.specs.declared.statement.Statement.TheVariants as statement
use Rattle.iv_syntax.specs.declared.statement.Update.{Update}
use Rattle.iv_syntax.specs.declared.statement.ValueOrDefault.{ValueOrDefault}
use Rattle.iv_syntax.specs.declared.statement.ValueOrDefault.TheVariants as value
use Rattle.iv_syntax.specs.declared.trigger.TriggerAction.{TriggerAction}
use Rattle.iv_syntax.specs.declared.trigger.TriggerAction.TheVariants as action
use Rattle.iv_syntax.specs.declared.trigger.TriggerDefinition.{TriggerDefinition}
use Rattle.iv_syntax.specs.Trees.{group, signed, product, sum, enclosed, negated, both, either, exists_where}
use Rattle.iv_catalogue.specs.Catalogues.{Schema}
use Rattle.iv_resolution.specs.Scopes.{NamedColumn, NamedRange, Names, type_named, source_columns, range_of}
use Rattle.iv_resolution.specs.Terms.{is_text, clash}
use Rattle.iv_resolution.specs.Changes.{target_columns, target_ranges, clashes_with, kinds_clash}
use Rattle.iv_resolution.specs.Constraints.{WrittenRule, check, written_constraints, table_constraint, Altered}
use Rattle.iv_resolution.specs.Tables.{created_table, creating, table_names, check_ranges}
use Rattle.iv_resolution.specs.Triggers.{trigger_names, trigger_variables}
use Rattle.iv_resolution.specs.Items.{told_if, first_of}
use Rattle.iv_resolution.specs.NameFaults.{told_of_altered}

-- What doesn't suit. A tuple of VALUES: the table, the tuple's number from 1, how many columns there are values for, and how many values
-- the tuple has. A query of an INSERT: the table, how many columns, and how many values the query gives. A value for a column: the table,
-- the column, its type and the value. A column that SELECT * gives for a column: the table, the column and its type, and the table,
-- column and type of what is given. A value that SET gives to a column of a row variable: the variable, the column, its type and the
-- value. A comparison: its left and its right operand. A text as an operand of a sign or of arithmetic.
pub data ShapeFault : Type 0 where
  tuple_count : List ℕ → ℕ → ℕ → ℕ → ShapeFault
  query_count : List ℕ → ℕ → ℕ → ShapeFault
  value_fault : List ℕ → List ℕ → ColumnType → Expression → ShapeFault
  column_fault : List ℕ → List ℕ → ColumnType → List ℕ → List ℕ → ColumnType → ShapeFault
  set_fault : List ℕ → List ℕ → ColumnType → Expression → ShapeFault
  comparison_fault : Expression → Expression → ShapeFault
  operand_fault : Expression → ShapeFault

-- ---- value expressions and search conditions

-- the operand itself if it is a text, or else what is told of its inside
unfoldable pub operand_told : List NamedRange → Expression → Option ShapeFault → Option ShapeFault
operand_told ranges e inside = option_or (told_if (is_text ranges e) (operand_fault e)) inside

abbrev pub shape_in_expression : List NamedRange → Expression → Option ShapeFault
shape_in_expression ranges (group a) = shape_in_expression ranges a
shape_in_expression ranges (signed s a) = operand_told ranges a (shape_in_expression ranges a)
shape_in_expression ranges (product a b) =
    option_or (operand_told ranges a (shape_in_expression ranges a)) (operand_told ranges b (shape_in_expression ranges b))
shape_in_expression ranges (sum s a b) =
    option_or (operand_told ranges a (shape_in_expression ranges a)) (operand_told ranges b (shape_in_expression ranges b))
shape_in_expression ranges _ = None

-- the comparison itself if an integer meets a text, or else what is told of its operands
unfoldable pub shape_in_comparison : List NamedRange → Expression → Expression → Option ShapeFault
shape_in_comparison ranges a b =
    option_or (told_if (clash ranges a b) (comparison_fault a b)) (option_or (shape_in_expression ranges a) (shape_in_expression ranges b))

unfoldable pub shape_in_condition : Names → List NamedRange → Condition → Option ShapeFault
shape_in_condition names ranges (condition.Compare op a b) = shape_in_comparison ranges a b
shape_in_condition names ranges (condition.IsNull a) = shape_in_expression ranges a
shape_in_condition names ranges (condition.IsNotNull a) = shape_in_expression ranges a
shape_in_condition names ranges (condition.Exists r) = None
shape_in_condition names ranges (exists_where r a) = shape_in_condition names (range_of names r ∷ ranges) a
shape_in_condition names ranges (enclosed a) = shape_in_condition names ranges a
shape_in_condition names ranges (negated a) = shape_in_condition names ranges a
shape_in_condition names ranges (both a b) = option_or (shape_in_condition names ranges a) (shape_in_condition names ranges b)
shape_in_condition names ranges (either a b) = option_or (shape_in_condition names ranges a) (shape_in_condition names ranges b)

abbrev pub shape_in_filter : Names → List NamedRange → Option Condition → Option ShapeFault
shape_in_filter names ranges None = None
shape_in_filter names ranges (Some c) = shape_in_condition names ranges c

-- ---- INSERT, UPDATE, DELETE and SELECT

-- a column that there is a value for, by its name, with its type if there is such a column
pub record Target : Type 0 where
  pub name : List ℕ
  pub kind : Option ColumnType

-- the columns that an INSERT has values for: those of its list, or all
abbrev pub targets_of : List NamedColumn → Option (List (List ℕ)) → List Target
targets_of columns None = map (λ c. record { name = c.name; kind = Some c.kind }) columns
targets_of columns (Some names) = map (λ n. record { name = n; kind = type_named columns n }) names

-- an integer meets a text in the value of a column; a column that isn't there suits every value
abbrev pub value_told : List ℕ → List ℕ → Option ColumnType → List NamedRange → Expression → Option ShapeFault
value_told table column None ranges e = None
value_told table column (Some kind) ranges e = told_if (clashes_with (Some kind) ranges e) (value_fault table column kind e)

-- the value itself if it doesn't suit its column, or else what is told of its inside
unfoldable pub shape_of_expression : List ℕ → Target → List NamedRange → Expression → Option ShapeFault
shape_of_expression table t ranges e = option_or (value_told table t.name t.kind ranges e) (shape_in_expression ranges e)

unfoldable pub shape_of_value : List ℕ → Target → List NamedRange → ValueOrDefault → Option ShapeFault
shape_of_value table t ranges (value.Value e) = shape_of_expression table t ranges e
shape_of_value table t ranges value.Default = None

-- the first value of a tuple, each for the column at its place
unfoldable pub shape_of_values : List ℕ → List Target → List NamedRange → List ValueOrDefault → Option ShapeFault
shape_of_values table targets ranges tuple = first_of (λ p. shape_of_value table p.0 ranges p.1) (zip targets tuple)

-- the tuple of this number
unfoldable pub shape_of_tuple : List ℕ → List Target → List NamedRange → ℕ → List ValueOrDefault → Option ShapeFault
shape_of_tuple table targets ranges number tuple =
    option_or (told_if (not (length tuple == length targets)) (tuple_count table number (length targets) (length tuple)))
    (shape_of_values table targets ranges tuple)

-- the tuples of VALUES, the first of which has this number
abbrev pub shape_of_tuples : List ℕ → List Target → List NamedRange → ℕ → List (List ValueOrDefault) → Option ShapeFault
shape_of_tuples table targets ranges number [] = None
shape_of_tuples table targets ranges number (tuple ∷ tuples) =
    option_or (shape_of_tuple table targets ranges number tuple) (shape_of_tuples table targets ranges (number + 1) tuples)

-- a column of a table, which is given for a column of the table that is changed
abbrev pub column_told : List ℕ → List ℕ → Option ColumnType → List ℕ → NamedColumn → Option ShapeFault
column_told table column None from c = None
column_told table column (Some kind) from c = told_if (kinds_clash (Some kind) c.kind) (column_fault table column kind from c.name c.kind)

unfoldable pub shape_of_column : List ℕ → Target → List ℕ → NamedColumn → Option ShapeFault
shape_of_column table t from c = column_told table t.name t.kind from c

unfoldable pub shape_of_columns : List ℕ → List Target → List ℕ → List NamedColumn → Option ShapeFault
shape_of_columns table targets from columns = first_of (λ p. shape_of_column table p.0 from p.1) (zip targets columns)

unfoldable pub shape_of_expressions : List ℕ → List Target → List NamedRange → List Expression → Option ShapeFault
shape_of_expressions table targets ranges es = first_of (λ p. shape_of_expression table p.0 ranges p.1) (zip targets es)

-- a query of so many values
abbrev pub shape_of_count : List ℕ → List Target → ℕ → Option ShapeFault
shape_of_count table targets values = told_if (not (values == length targets)) (query_count table (length targets) values)

-- the select list of an INSERT: its range has the columns given
unfoldable pub shape_of_list : List ℕ → List Target → List ℕ → List NamedColumn → List NamedRange → SelectList → Option ShapeFault
shape_of_list table targets from columns ranges list.Star =
    option_or (shape_of_count table targets (length columns)) (shape_of_columns table targets from columns)
shape_of_list table targets from columns ranges (list.Values es) =
    option_or (shape_of_count table targets (length es)) (shape_of_expressions table targets ranges es)

unfoldable pub shape_of_source : List ℕ → List Target → Names → List NamedRange → InsertSource → Option ShapeFault
shape_of_source table targets names ranges (source.Values tuples) = shape_of_tuples table targets ranges 1 tuples
shape_of_source table targets names ranges (source.Select l r filter) =
    option_or (shape_of_list table targets r.table (source_columns names r.table) (range_of names r ∷ ranges) l)
    (shape_in_filter names (range_of names r ∷ ranges) filter)

abbrev pub shape_in_insert : Names → List NamedRange → Insert → Option ShapeFault
shape_in_insert names ranges (insert.DefaultValues table) = None
shape_in_insert names ranges (insert.Rows table columns s) =
    shape_of_source table (targets_of (target_columns names table) columns) names ranges s

unfoldable pub shape_in_assignment : List ℕ → List NamedColumn → List NamedRange → Assignment → Option ShapeFault
shape_in_assignment table columns ranges a =
    shape_of_value table (record { name = a.column; kind = type_named columns a.column }) ranges a.value

abbrev pub shape_in_update : Names → List NamedRange → Update → Option ShapeFault
shape_in_update names ranges u =
    option_or (first_of (shape_in_assignment u.table (target_columns names u.table) (target_ranges names u.table ranges)) u.assignments)
    (shape_in_filter names (target_ranges names u.table ranges) u.filter)

abbrev pub shape_in_delete : Names → List NamedRange → Delete → Option ShapeFault
shape_in_delete names ranges d = shape_in_filter names (target_ranges names d.table ranges) d.filter

abbrev pub shape_in_list : List NamedRange → SelectList → Option ShapeFault
shape_in_list ranges list.Star = None
shape_in_list ranges (list.Values es) = first_of (shape_in_expression ranges) es

abbrev pub shape_in_query : Names → List NamedRange → SelectList → RangeName → Option Condition → Option ShapeFault
shape_in_query names ranges l r filter =
    option_or (shape_in_list (range_of names r ∷ ranges) l) (shape_in_filter names (range_of names r ∷ ranges) filter)

abbrev pub shape_in_select : Names → List NamedRange → Select → Option ShapeFault
shape_in_select names ranges (select.Count r filter) = shape_in_query names ranges list.Star r filter
shape_in_select names ranges (select.Rows l r filter) = shape_in_query names ranges l r filter

-- ---- CREATE TRIGGER

abbrev pub set_told : List ℕ → List ℕ → Option ColumnType → List NamedRange → Expression → Option ShapeFault
set_told v column None variables e = None
set_told v column (Some kind) variables e = told_if (clashes_with (Some kind) variables e) (set_fault v column kind e)

unfoldable pub shape_in_set : Names → List NamedRange → List ℕ → List ℕ → Expression → Option ShapeFault
shape_in_set names variables v column e =
    option_or (set_told v column (type_named names.subject column) variables e) (shape_in_expression variables e)

unfoldable pub shape_in_action : Names → List NamedRange → TriggerAction → Option ShapeFault
shape_in_action names variables (action.Insert i) = shape_in_insert names variables i
shape_in_action names variables (action.Update u) = shape_in_update names variables u
shape_in_action names variables (action.Delete d) = shape_in_delete names variables d
shape_in_action names variables (action.Signal t) = None
shape_in_action names variables (action.Set v column e) = shape_in_set names variables v column e

abbrev pub shape_in_trigger : Schema → TriggerDefinition → Option ShapeFault
shape_in_trigger schema t =
    option_or (shape_in_filter (trigger_names schema t) (trigger_variables schema t) t.when)
    (first_of (shape_in_action (trigger_names schema t) (trigger_variables schema t)) t.body)

-- ---- CREATE TABLE and ALTER TABLE

abbrev pub shape_in_rule : Names → Altered → WrittenRule → Option ShapeFault
shape_in_rule names own (check c) = shape_in_condition names (check_ranges own) c
shape_in_rule names own _ = None

abbrev pub shape_in_table : Schema → List ℕ → List TableElement → Option ShapeFault
shape_in_table schema name elements =
    first_of (λ k. shape_in_rule (creating schema (created_table schema name elements)) (created_table schema name elements) k.rule) (written_constraints elements)

abbrev pub shape_in_alteration : Schema → List ℕ → TableConstraint → Option ShapeFault
shape_in_alteration schema table k =
    told_of_altered schema table (λ own. shape_in_rule (table_names schema) own (table_constraint k).rule)

-- ---- what doesn't suit first in a statement

abbrev pub shape_fault : Schema → Statement → Option ShapeFault
shape_fault schema (statement.CreateTable name elements) = shape_in_table schema name elements
shape_fault schema (statement.AlterTable table k) = shape_in_alteration schema table k
shape_fault schema (statement.CreateTrigger t) = shape_in_trigger schema t
shape_fault schema (statement.Insert i) = shape_in_insert (table_names schema) [] i
shape_fault schema (statement.Update u) = shape_in_update (table_names schema) [] u
shape_fault schema (statement.Delete d) = shape_in_delete (table_names schema) [] d
shape_fault schema (statement.Select s) = shape_in_select (table_names schema) [] s
shape_fault schema _ = None
