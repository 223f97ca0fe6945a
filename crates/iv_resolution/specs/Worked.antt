-- Worked statements: what each deserves over one catalogue, and what some of them mean. The SQL is above each.
use Rattle.std.specs.Prelude.{◌≡◌, ℕ, false, List, [], ◌∷◌, map, codes, Option, Some, None, pos}
use Rattle.iv_resolution.specs.Types.{Side, RangeName, Expression, Condition, Statement, ColumnType, ColumnRule, TableRule, TableElement, Literal, References, ConstraintTime, ActionTime, TriggerEvent, TransitionName, TriggerAction, Referencing}
use Rattle.iv_resolution.specs.Types.value
use Rattle.iv_resolution.specs.Types.kind
use Rattle.iv_resolution.specs.Types.comparison.{Equal, Greater}
use Rattle.iv_resolution.specs.Types.side.{Old, New}
use Rattle.iv_resolution.specs.Types.range
use Rattle.iv_resolution.specs.Types.expr
use Rattle.iv_resolution.specs.Types.cond
use Rattle.iv_resolution.specs.Types.sign.{Plus}
use Rattle.iv_resolution.specs.Types.expression
use Rattle.iv_resolution.specs.Types.condition
use Rattle.iv_resolution.specs.Types.statement
use Rattle.iv_resolution.specs.Types.insert
use Rattle.iv_resolution.specs.Types.source
use Rattle.iv_resolution.specs.Types.select
use Rattle.iv_resolution.specs.Types.select_list as list
use Rattle.iv_resolution.specs.Types.given
use Rattle.iv_resolution.specs.Types.constraints
use Rattle.iv_resolution.specs.Types.mode
use Rattle.iv_resolution.specs.Types.type
use Rattle.iv_resolution.specs.Types.column_rule
use Rattle.iv_resolution.specs.Types.table_rule
use Rattle.iv_resolution.specs.Types.element
use Rattle.iv_resolution.specs.Types.literal
use Rattle.iv_resolution.specs.Types.matching.{Simple}
use Rattle.iv_resolution.specs.Types.nulls.{Distinct}
use Rattle.iv_resolution.specs.Types.referential_action.{NoAction}
use Rattle.iv_resolution.specs.Types.time
use Rattle.iv_resolution.specs.Types.event
use Rattle.iv_resolution.specs.Types.granularity.{Row}
use Rattle.iv_resolution.specs.Types.transition as what
use Rattle.iv_resolution.specs.Types.action
use Rattle.iv_resolution.specs.Types.cause.{Unknown, Duplicate, SchemaFault, WrongShape, Limit}
use Rattle.iv_resolution.specs.Types.rule
use Rattle.iv_resolution.specs.Types.plan
use Rattle.iv_resolution.specs.Types.query
use Rattle.iv_resolution.specs.Types.schema.{CreateTable}
use Rattle.iv_resolution.specs.Types.outputs
use Rattle.iv_expr.specs.Trees.{exists_c}
use Rattle.iv_syntax.specs.Trees.{signed, exists_where}
use Rattle.iv_catalogue.specs.Names.{generated_name}
use Rattle.iv_catalogue.specs.Catalogues.{Schema}
use Rattle.iv_resolution.specs.Bound.{bound}
use Rattle.iv_resolution.specs.Resolution.{least}

-- ---- words

abbrev pub a : List ℕ
a = codes "A"

abbrev pub b : List ℕ
b = codes "B"

abbrev pub k : List ℕ
k = codes "K"

abbrev pub p : List ℕ
p = codes "P"

abbrev pub t : List ℕ
t = codes "T"

abbrev pub w : List ℕ
w = codes "W"

abbrev pub z : List ℕ
z = codes "Z"

-- CREATE TABLE t (a INT, b VARCHAR(2)); CREATE TABLE p (k INT PRIMARY KEY);
abbrev pub tables : Schema
tables = record {
  tables =
      record { name = t; columns = record { name = a; kind = kind.Integer; default = value.Null } ∷ record { name = b; kind = kind.Varchar 2; default = value.Null } ∷ [] }
      ∷ record { name = p; columns = record { name = k; kind = kind.Integer; default = value.Null } ∷ [] } ∷ [];
  constraints = record { name = codes "P_C1"; table = 1; rule = rule.PrimaryKey (0 ∷ []); deferrable = false; initially = mode.Immediate } ∷ [];
  triggers = [];
  created = 0;
}

abbrev pub column : List ℕ → Expression
column name = expression.Column (record { qualifier = None; name = name })

abbrev pub of_range : List ℕ → List ℕ → Expression
of_range range name = expression.Column (record { qualifier = Some range; name = name })

abbrev pub one : Expression
one = expression.Number 1

abbrev pub text : Expression
text = expression.Text (codes "x")

abbrev pub from : List ℕ → RangeName
from table = record { table = table; alias = None }

abbrev pub called : List ℕ → List ℕ → RangeName
called table alias = record { table = table; alias = Some alias }

abbrev pub insert_into : List ℕ → Option (List (List ℕ)) → List Expression → Statement
insert_into table columns values = statement.Insert (insert.Rows table columns (source.Values (map given.Value values ∷ [])))

abbrev pub select_of : Expression → RangeName → Option Condition → Statement
select_of e r filter = statement.Select (select.Rows (list.Values (e ∷ [])) r filter)

abbrev pub delete_where : List ℕ → Condition → Statement
delete_where table c = statement.Delete (record { table = table; filter = Some c })

abbrev pub any_time : ConstraintTime
any_time = record { deferrable = None; initially = None }

abbrev pub defined : List ℕ → ColumnType → Option Literal → List ColumnRule → TableElement
defined name kind default rules = element.Column (record { name = name; kind = kind; default = default; constraints = map (λ r. record { name = None; rule = r; time = any_time }) rules })

abbrev pub constrained : TableRule → TableElement
constrained r = element.Constraint (record { name = None; rule = r; time = any_time })

abbrev pub named : List ℕ → TableRule → TableElement
named name r = element.Constraint (record { name = Some name; rule = r; time = any_time })

abbrev pub create : List TableElement → Statement
create elements = statement.CreateTable w elements

abbrev pub to_table : List ℕ → References
to_table table = record { table = table; columns = None; matching = None; on_delete = None; on_update = None }

abbrev pub item : Side → TransitionName → List ℕ → Referencing
item side what name = record { side = side; what = what; name = name }

abbrev pub trigger : ActionTime → TriggerEvent → List Referencing → TriggerAction → Statement
trigger time event items act = statement.CreateTrigger (record { name = codes "R"; time = time; event = event; columns = []; table = t; referencing = items; granularity = Row; when = None; body = act ∷ [] })

-- ---- the statements

pub record WorkedStatements : Type 0 where
  -- INSERT INTO w VALUES (1);
  pub unknown_target : least tables (insert_into w None (one ∷ [])) ≡ Some Unknown
  -- INSERT INTO t (a, w) VALUES (1, 1);
  pub unknown_in_list : least tables (insert_into t (Some (a ∷ w ∷ [])) (one ∷ one ∷ [])) ≡ Some Unknown
  -- INSERT INTO t VALUES (a, 'x');
  pub values_see_no_range : least tables (insert_into t None (column a ∷ text ∷ [])) ≡ Some Unknown
  -- INSERT INTO t (a, a) VALUES (1, 1);
  pub column_twice : least tables (insert_into t (Some (a ∷ a ∷ [])) (one ∷ one ∷ [])) ≡ Some Duplicate
  -- INSERT INTO t VALUES (1);
  pub too_few_values : least tables (insert_into t None (one ∷ [])) ≡ Some WrongShape
  -- INSERT INTO t (b) VALUES (1);
  pub integer_into_text : least tables (insert_into t (Some (b ∷ [])) (one ∷ [])) ≡ Some WrongShape
  -- INSERT INTO t VALUES (1, 'x');
  pub one_value_each : least tables (insert_into t None (one ∷ text ∷ [])) ≡ None
  -- SELECT t.a FROM t AS z;
  pub alias_hides_the_name : least tables (select_of (of_range t a) (called t z) None) ≡ Some Unknown
  -- SELECT z.a FROM t AS z;
  pub alias_names_the_range : least tables (select_of (of_range z a) (called t z) None) ≡ None
  -- SELECT a FROM t WHERE EXISTS (SELECT * FROM p WHERE k = a);
  pub names_go_outward :
      bound tables (select_of (column a) (from t) (Some (exists_where (from p) (condition.Compare Equal (column k) (column a)))))
      ≡ plan.Query (query.Rows 0 (outputs.Values (expr.Column 0 0 ∷ [])) (exists_c (range.Table 1) (cond.Compare Equal (expr.Column 0 0) (expr.Column 1 0))))
  -- SELECT a FROM t WHERE EXISTS (SELECT * FROM p AS t WHERE t.a = 1);
  pub qualifier_takes_the_innermost :
      least tables (select_of (column a) (from t) (Some (exists_where (called p t) (condition.Compare Equal (of_range t a) one)))) ≡ Some Unknown
  -- DELETE FROM t WHERE b = NULL;
  pub null_suits_a_text : least tables (delete_where t (condition.Compare Equal (column b) expression.Null)) ≡ None
  -- DELETE FROM t WHERE b = +NULL;
  pub sign_gives_an_integer : least tables (delete_where t (condition.Compare Equal (column b) (signed Plus expression.Null))) ≡ Some WrongShape
  -- DELETE FROM t WHERE a = 9223372036854775808;
  pub number_beyond_integers : least tables (delete_where t (condition.Compare Equal (column a) (expression.Number 9223372036854775808))) ≡ Some Limit
  -- CREATE TABLE w (a INT REFERENCES q);
  pub reference_to_nothing : least tables (create (defined a type.Integer None (column_rule.References (to_table (codes "Q")) ∷ []) ∷ [])) ≡ Some Unknown
  -- CREATE TABLE w (a INT, a INT);
  pub column_defined_twice : least tables (create (defined a type.Integer None [] ∷ defined a type.Integer None [] ∷ [])) ≡ Some Duplicate
  -- CREATE TABLE t (a INT);
  pub table_in_use : least tables (statement.CreateTable t (defined a type.Integer None [] ∷ [])) ≡ Some Duplicate
  -- CREATE TABLE w (a INT, UNIQUE (a, a));
  pub key_column_twice : least tables (create (defined a type.Integer None [] ∷ constrained (table_rule.Unique Distinct (a ∷ a ∷ [])) ∷ [])) ≡ Some Duplicate
  -- CREATE TABLE w (CHECK (1 = 1));
  pub no_columns : least tables (create (constrained (table_rule.Check (condition.Compare Equal one one)) ∷ [])) ≡ Some SchemaFault
  -- CREATE TABLE w (a INT, CONSTRAINT p PRIMARY KEY (a), CONSTRAINT z PRIMARY KEY (a));
  pub two_primary_keys :
      least tables (create (defined a type.Integer None [] ∷ named p (table_rule.PrimaryKey (a ∷ [])) ∷ named z (table_rule.PrimaryKey (a ∷ [])) ∷ [])) ≡ Some SchemaFault
  -- CREATE TABLE w (a INT DEFAULT 'x');
  pub default_of_another_kind : least tables (create (defined a type.Integer (Some (literal.Text (codes "x"))) [] ∷ [])) ≡ Some SchemaFault
  -- CREATE TABLE w (a INT REFERENCES t);
  pub reference_without_a_key : least tables (create (defined a type.Integer None (column_rule.References (to_table t) ∷ []) ∷ [])) ≡ Some SchemaFault
  -- CREATE TABLE w (a VARCHAR(2) REFERENCES p);
  pub reference_of_another_type : least tables (create (defined a (type.Varchar 2) None (column_rule.References (to_table p) ∷ []) ∷ [])) ≡ Some SchemaFault
  -- CREATE TABLE w (a INT, CHECK (EXISTS (SELECT * FROM w)));
  pub exists_in_a_check : least tables (create (defined a type.Integer None [] ∷ constrained (table_rule.Check (condition.Exists (from w))) ∷ [])) ≡ Some SchemaFault
  -- CREATE TABLE w (a INT CHECK (a = 'x'));
  pub text_in_a_check : least tables (create (defined a type.Integer None (column_rule.Check (condition.Compare Equal (column a) text) ∷ []) ∷ [])) ≡ Some WrongShape
  -- CREATE TABLE w (a VARCHAR(4097));
  pub long_text : least tables (create (defined a (type.Varchar 4097) None [] ∷ [])) ≡ Some Limit
  -- CREATE TABLE w (a VARCHAR(0));
  pub no_text : least tables (create (defined a (type.Varchar 0) None [] ∷ [])) ≡ Some Limit
  -- CREATE TABLE w (a VARCHAR(4096));
  pub longest_text : least tables (create (defined a (type.Varchar 4096) None [] ∷ [])) ≡ None
  -- CREATE TABLE w (a INT NOT NULL REFERENCES p, CHECK (a > 1));
  pub constraints_in_the_order_of_the_text :
      bound tables (create (defined a type.Integer None (column_rule.NotNull ∷ column_rule.References (to_table p) ∷ []) ∷ constrained (table_rule.Check (condition.Compare Greater (column a) one)) ∷ []))
      ≡ plan.Schema (CreateTable (record { name = w; columns = record { name = a; kind = kind.Integer; default = value.Null } ∷ [] })
      (record { name = generated_name w 1; table = 2; rule = rule.NotNull 0; deferrable = false; initially = mode.Immediate }
      ∷ record {
        name = generated_name w 2;
        table = 2;
        rule = rule.ForeignKey (record { columns = 0 ∷ []; referenced = 1; key = 0 ∷ []; matching = Simple; on_delete = NoAction; on_update = NoAction });
        deferrable = false;
        initially = mode.Immediate;
      }
      ∷ record { name = generated_name w 3; table = 2; rule = rule.Check (cond.Compare Greater (expr.Column 0 0) (expr.Literal (value.Int (pos 1)))); deferrable = false; initially = mode.Immediate } ∷ []))
  -- ALTER TABLE p ADD CONSTRAINT z PRIMARY KEY (k);
  pub primary_key_added_again : least tables (statement.AlterTable p (record { name = Some z; rule = table_rule.PrimaryKey (k ∷ []); time = any_time })) ≡ Some SchemaFault
  -- ALTER TABLE t ADD CONSTRAINT p_c1 UNIQUE (a);
  pub constraint_in_use : least tables (statement.AlterTable t (record { name = Some (codes "P_C1"); rule = table_rule.Unique Distinct (a ∷ []); time = any_time })) ≡ Some Duplicate
  -- CREATE TRIGGER r BEFORE INSERT ON t REFERENCING NEW AS z FOR EACH ROW SET z.a = 1;
  pub new_is_set : least tables (trigger time.Before event.Insert (item New what.Row z ∷ []) (action.Set z a one)) ≡ None
  -- CREATE TRIGGER r BEFORE INSERT ON t REFERENCING NEW AS z FOR EACH ROW SET w.a = 1;
  pub set_of_nothing : least tables (trigger time.Before event.Insert (item New what.Row z ∷ []) (action.Set w a one)) ≡ Some Unknown
  -- CREATE TRIGGER r BEFORE UPDATE ON t REFERENCING OLD AS z FOR EACH ROW SET z.a = 1;
  pub old_is_set : least tables (trigger time.Before event.Update (item Old what.Row z ∷ []) (action.Set z a one)) ≡ Some SchemaFault
  -- CREATE TRIGGER r AFTER INSERT ON t REFERENCING OLD AS z FOR EACH ROW DELETE FROM t WHERE a = z.a;
  pub insert_has_no_old_row :
      least tables (trigger time.After event.Insert (item Old what.Row z ∷ []) (action.Delete (record { table = t; filter = Some (condition.Compare Equal (column a) (of_range z a)) }))) ≡ Some SchemaFault
  -- CREATE TRIGGER r AFTER UPDATE ON t REFERENCING NEW TABLE AS z FOR EACH ROW DELETE FROM z;
  pub transition_table_is_no_target : least tables (trigger time.After event.Update (item New what.Table z ∷ []) (action.Delete (record { table = z; filter = None }))) ≡ Some Unknown
  -- CREATE TRIGGER r AFTER UPDATE ON t REFERENCING NEW TABLE AS z FOR EACH ROW DELETE FROM t WHERE EXISTS (SELECT * FROM z);
  pub transition_table_in_exists : least tables (trigger time.After event.Update (item New what.Table z ∷ []) (action.Delete (record { table = t; filter = Some (condition.Exists (from z)) }))) ≡ None
  -- DROP TRIGGER r;
  pub no_such_trigger : least tables (statement.DropTrigger (codes "R")) ≡ Some Unknown
  -- SET CONSTRAINTS p_c1 DEFERRED;
  pub constraint_named : least tables (statement.SetConstraints (constraints.Named (codes "P_C1" ∷ [])) mode.Deferred) ≡ None
  -- SET CONSTRAINTS w DEFERRED;
  pub no_such_constraint : least tables (statement.SetConstraints (constraints.Named (w ∷ [])) mode.Deferred) ≡ Some Unknown
