-- Constraints and columns of the catalogue as they are written in CREATE TABLE and ALTER TABLE ("Table constraint definition", "Column
-- definition").
use Rattle.std.specs.Prelude.{ℕ, suc, Bool, true, false, if◌then◌else◌, nat_le, pos, negsuc, List, [], ◌∷◌, length, map, Option, Some, None, slice_get}
use Rattle.iv_syntax.specs.declared.limits.TheConstants.{LONGEST_NAME}
use Rattle.iv_restate.specs.Types.{Value, ConstraintMode, ConstraintTime, MatchType, ReferentialAction, References, Literal, ColumnConstraint, ColumnDefinition, ColumnRule, TableRule, TableConstraint, Column, Table, ForeignKey, Rule, Constraint}
use Rattle.iv_restate.specs.Types.value
use Rattle.iv_restate.specs.Types.mode
use Rattle.iv_restate.specs.Types.matching
use Rattle.iv_restate.specs.Types.referential_action as action
use Rattle.iv_restate.specs.Types.sign
use Rattle.iv_restate.specs.Types.literal
use Rattle.iv_restate.specs.Types.column_rule
use Rattle.iv_restate.specs.Types.table_rule
use Rattle.iv_restate.specs.Types.rule
use Rattle.iv_resolution.specs.Scopes.{NamedColumn, named_columns, type_of}
use Rattle.iv_resolution.specs.Constraints.{name_at}
use Rattle.iv_restate.specs.Trees.{check_of}

-- ---- characteristics: NOT DEFERRABLE and INITIALLY IMMEDIATE are left out

abbrev pub time_of : Bool → ConstraintMode → ConstraintTime
time_of false mode.Immediate = record { deferrable = None; initially = None }
time_of true mode.Immediate = record { deferrable = Some true; initially = None }
time_of d mode.Deferred = record { deferrable = Some d; initially = Some mode.Deferred }

-- ---- rules

abbrev pub names_at : List NamedColumn → List ℕ → List (List ℕ)
names_at columns places = map (name_at columns) places

-- the columns of the table at this place; none if there is no such table
abbrev pub columns_at : List Table → ℕ → List NamedColumn
columns_at tables place = elim (slice_get tables place) [ Some t ↦ named_columns t.columns | None ↦ [] ]

abbrev pub table_name_at : List Table → ℕ → List ℕ
table_name_at tables place = elim (slice_get tables place) [ Some t ↦ t.name | None ↦ [] ]

-- MATCH SIMPLE is left out
abbrev pub written_match : MatchType → Option MatchType
written_match matching.Simple = None
written_match matching.Full = Some matching.Full

-- NO ACTION is left out
abbrev pub written_action : ReferentialAction → Option ReferentialAction
written_action action.NoAction = None
written_action a = Some a

-- the columns of the key are always listed
abbrev pub references_of : List Table → ForeignKey → References
references_of tables k = record {
  table = table_name_at tables k.referenced;
  columns = Some (names_at (columns_at tables k.referenced) k.key);
  matching = written_match k.matching;
  on_delete = written_action k.on_delete;
  on_update = written_action k.on_update;
}

-- a rule as one of the table; NOT NULL has no such form
abbrev pub table_rule_of : List Table → List NamedColumn → Rule → Option TableRule
table_rule_of tables columns (rule.NotNull place) = None
table_rule_of tables columns (rule.Check c) = Some (table_rule.Check (check_of columns c))
table_rule_of tables columns (rule.Unique nulls places) = Some (table_rule.Unique nulls (names_at columns places))
table_rule_of tables columns (rule.PrimaryKey places) = Some (table_rule.PrimaryKey (names_at columns places))
table_rule_of tables columns (rule.ForeignKey k) = Some (table_rule.ForeignKey (names_at columns k.columns) (references_of tables k))

-- a rule as one of a column
abbrev pub column_rule_of : List Table → List NamedColumn → Rule → ColumnRule
column_rule_of tables columns (rule.NotNull place) = column_rule.NotNull
column_rule_of tables columns (rule.Check c) = column_rule.Check (check_of columns c)
column_rule_of tables columns (rule.Unique nulls places) = column_rule.Unique nulls
column_rule_of tables columns (rule.PrimaryKey places) = column_rule.PrimaryKey
column_rule_of tables columns (rule.ForeignKey k) = column_rule.References (references_of tables k)

-- ---- constraints, each with its name

-- A generated name may be longer than a name of the language. It is left out, since it is generated again at the same place.
abbrev pub written_name : List ℕ → Option (List ℕ)
written_name name = if nat_le (length name) LONGEST_NAME then Some name else None

abbrev pub with_rule : Constraint → TableRule → TableConstraint
with_rule k r = record { name = written_name k.name; rule = r; time = time_of k.deferrable k.initially }

abbrev pub table_constraint_of : List Table → Constraint → Option TableConstraint
table_constraint_of tables k =
    elim (table_rule_of tables (columns_at tables k.table) k.rule) [ Some r ↦ Some (with_rule k r) | None ↦ None ]

abbrev pub column_constraint_of : List Table → Constraint → ColumnConstraint
column_constraint_of tables k = record {
  name = written_name k.name;
  rule = column_rule_of tables (columns_at tables k.table) k.rule;
  time = time_of k.deferrable k.initially;
}

-- ---- columns

-- the default NULL is left out
abbrev pub default_of : Value → Option Literal
default_of value.Null = None
default_of (value.Int (pos n)) = Some (literal.Number None n)
default_of (value.Int (negsuc n)) = Some (literal.Number (Some sign.Minus) (suc n))
default_of (value.Text t) = Some (literal.Text t)

abbrev pub definition_of : Column → List ColumnConstraint → ColumnDefinition
definition_of c constraints = record { name = c.name; kind = type_of c.kind; default = default_of c.default; constraints = constraints }
