-- Worked statements: the name that a refusal of each is about. The SQL is above each; the names are worked out by hand.
use Rattle.std.specs.Prelude.{◌≡◌, ℕ, false, List, [], ◌∷◌, ◌++◌, codes, Option, Some, None}
use Rattle.iv_expr.specs.declared.tree.Comparison.TheVariants.{Equal}
use Rattle.iv_expr.specs.declared.tree.Side.TheVariants.{Old, New}
use Rattle.iv_syntax.specs.declared.tree.Condition.{Condition}
use Rattle.iv_syntax.specs.declared.tree.Condition.TheVariants as condition
use Rattle.iv_syntax.specs.declared.tree.Expression.{Expression}
use Rattle.iv_syntax.specs.declared.tree.Sign.TheVariants.{Plus}
use Rattle.iv_syntax.specs.declared.table.ColumnConstraint.{ColumnConstraint}
use Rattle.iv_syntax.specs.declared.table.ColumnRule.{ColumnRule}
use Rattle.iv_syntax.specs.declared.table.ColumnRule.TheVariants as column_rule
use Rattle.iv_syntax.specs.declared.table.ColumnType.TheVariants as type
use Rattle.iv_syntax.specs.declared.table.NullTreatment.TheVariants.{Distinct}
use Rattle.iv_syntax.specs.declared.table.TableElement.{TableElement}
use Rattle.iv_syntax.specs.declared.table.TableElement.TheVariants as element
use Rattle.iv_syntax.specs.declared.table.TableRule.{TableRule}
use Rattle.iv_syntax.specs.declared.table.TableRule.TheVariants as table_rule
use Rattle.iv_syntax.specs.declared.statement.ConstraintList.TheVariants as constraints
use Rattle.iv_syntax.specs.declared.statement.ConstraintMode.TheVariants as mode
use Rattle.iv_syntax.specs.declared.statement.Insert.TheVariants as insert
use Rattle.iv_syntax.specs.declared.statement.Select.TheVariants as select
use Rattle.iv_syntax.specs.declared.statement.SelectList.TheVariants as list
use Rattle.iv_syntax.specs.declared.statement.InsertSource.TheVariants as source
use Rattle.iv_syntax.specs.declared.statement.Statement.{Statement}
use Rattle.iv_syntax.specs.declared.statement.Statement.TheVariants as statement
use Rattle.iv_syntax.specs.declared.statement.ValueOrDefault.TheVariants as given
use Rattle.iv_syntax.specs.declared.trigger.ActionTime.TheVariants as time
use Rattle.iv_syntax.specs.declared.trigger.Granularity.TheVariants as granularity
use Rattle.iv_syntax.specs.declared.trigger.Referencing.{Referencing}
use Rattle.iv_syntax.specs.declared.trigger.TransitionName.TheVariants as what
use Rattle.iv_syntax.specs.declared.trigger.TriggerAction.{TriggerAction}
use Rattle.iv_syntax.specs.declared.trigger.TriggerAction.TheVariants as action
use Rattle.iv_syntax.specs.declared.trigger.TriggerEvent.TheVariants as event
use Rattle.iv_syntax.specs.Trees.{product, sum, both, exists_where}
use Rattle.iv_catalogue.specs.declared.cause.Cause.TheVariants.{Unknown, Duplicate, WrongShape}
use Rattle.iv_catalogue.specs.declared.constraint.Rule.TheVariants as rule
use Rattle.iv_catalogue.specs.Catalogues.{Schema}
use Rattle.iv_worked.specs.Words.{signalling}
use Rattle.iv_resolution.specs.Worked.{a, b, k, p, t, w, z, tables, column, of_range, one, from, called, insert_into, select_of, delete_where, any_time}
use Rattle.iv_resolution.specs.Worked.{defined, constrained, create, to_table, item}
use Rattle.iv_resolution.specs.Items.{Fault, table_item, column_item, variable_item, trigger_item, constraint_item, generated_item, transition_item}
use Rattle.iv_resolution.specs.Items.{unknown_fault, in_use_fault, twice_fault}
use Rattle.iv_resolution.specs.NameFaults.{name_fault}

-- ---- words

abbrev pub v : List ℕ
v = codes "V"

abbrev pub r : List ℕ
r = codes "R"

abbrev pub s : List ℕ
s = codes "S"

-- CREATE TABLE t (a INT, b VARCHAR(2)); CREATE TABLE p (k INT PRIMARY KEY);
-- ALTER TABLE t ADD CONSTRAINT v_c1 UNIQUE (a); ALTER TABLE t ADD CONSTRAINT p_c2 UNIQUE (b);
-- CREATE TRIGGER s AFTER INSERT ON t SIGNAL 'x';
abbrev pub schema : Schema
schema = record tables {
  constraints =
      tables.constraints
      ++ record { name = codes "V_C1"; table = 0; rule = rule.Unique Distinct (0 ∷ []); deferrable = false; initially = mode.Immediate }
      ∷ record { name = codes "P_C2"; table = 0; rule = rule.Unique Distinct (1 ∷ []); deferrable = false; initially = mode.Immediate } ∷ [];
  triggers = signalling s ∷ [];
  created = 1;
}

abbrev pub unknown : Statement → Option Fault
unknown st = name_fault schema st Unknown

abbrev pub duplicate : Statement → Option Fault
duplicate st = name_fault schema st Duplicate

abbrev pub equal : Expression → Expression → Condition
equal x y = condition.Compare Equal x y

abbrev pub in_column : Option (List ℕ) → ColumnRule → ColumnConstraint
in_column name rule = record { name = name; rule = rule; time = any_time }

-- a INT with these constraints
abbrev pub integer : List ColumnConstraint → TableElement
integer constraints = element.Column (record { name = a; kind = type.Integer; default = None; constraints = constraints })

-- a column INT with this constraint
abbrev pub defined_with : List ℕ → ColumnConstraint → TableElement
defined_with name k = element.Column (record { name = name; kind = type.Integer; default = None; constraints = k ∷ [] })

abbrev pub unique : List (List ℕ) → TableElement
unique columns = constrained (table_rule.Unique Distinct columns)

-- ALTER TABLE table ADD [CONSTRAINT name] rule
abbrev pub add : List ℕ → Option (List ℕ) → TableRule → Statement
add table name rule = statement.AlterTable table (record { name = name; rule = rule; time = any_time })

-- CREATE TRIGGER name BEFORE UPDATE OF columns ON table REFERENCING items FOR EACH ROW BEGIN body END
abbrev pub trigger : List ℕ → List (List ℕ) → List ℕ → List Referencing → List TriggerAction → Statement
trigger name columns table items actions =
    statement.CreateTrigger (record { name = name; time = time.Before; event = event.Update; columns = columns; table = table; referencing = items; granularity = granularity.Row; when = None; body = actions })

abbrev pub new_row : Referencing
new_row = item New what.Row z

-- INSERT INTO t columns VALUES (1)
abbrev pub inserted : List (List ℕ) → TriggerAction
inserted columns = action.Insert (insert.Rows t (Some columns) (source.Values ((given.Value one ∷ []) ∷ [])))

-- ---- the statements

pub record WorkedNames : Type 0 where
  -- ---- Unknown
  -- INSERT INTO w (z) VALUES (1);
  pub target : unknown (insert_into w (Some (z ∷ [])) (one ∷ [])) ≡ Some (unknown_fault (table_item w))
  -- INSERT INTO t (a, w, z) VALUES (1);
  pub column_of_the_list : unknown (insert_into t (Some (a ∷ w ∷ z ∷ [])) (one ∷ [])) ≡ Some (unknown_fault (column_item None w))
  -- INSERT INTO t VALUES (1, a);
  pub value_of_no_range : unknown (insert_into t None (one ∷ column a ∷ [])) ≡ Some (unknown_fault (column_item None a))
  -- SELECT z FROM w;
  pub from_before_the_list : unknown (select_of (column z) (from w) None) ≡ Some (unknown_fault (table_item w))
  -- SELECT z FROM t WHERE w = 1;
  pub list_before_the_condition : unknown (select_of (column z) (from t) (Some (equal (column w) one))) ≡ Some (unknown_fault (column_item None z))
  -- SELECT t.a FROM t AS z;
  pub with_its_qualifier : unknown (select_of (of_range t a) (called t z) None) ≡ Some (unknown_fault (column_item (Some t) a))
  -- DELETE FROM t WHERE a = w + z;
  pub left_operand_first : unknown (delete_where t (equal (column a) (sum Plus (column w) (column z)))) ≡ Some (unknown_fault (column_item None w))
  -- DELETE FROM t WHERE EXISTS (SELECT * FROM p WHERE k = a AND z = 1);
  pub inside_an_exists : unknown (delete_where t (exists_where (from p) (both (equal (column k) (column a)) (equal (column z) one))))
      ≡ Some (unknown_fault (column_item None z))
  -- UPDATE t SET a = 1, w = z;
  pub column_that_is_set :
      unknown (statement.Update (record { table = t; assignments = record { column = a; value = given.Value one } ∷ record { column = w; value = given.Value (column z) } ∷ []; filter = None }))
      ≡ Some (unknown_fault (column_item None w))
  -- CREATE TABLE w (a INT, UNIQUE (a, z));
  pub column_of_a_key : unknown (create (integer [] ∷ unique (a ∷ z ∷ []) ∷ [])) ≡ Some (unknown_fault (column_item None z))
  -- CREATE TABLE w (a INT REFERENCES v);
  pub referenced_table : unknown (create (integer (in_column None (column_rule.References (to_table v)) ∷ []) ∷ [])) ≡ Some (unknown_fault (table_item v))
  -- CREATE TABLE w (a INT, FOREIGN KEY (a) REFERENCES p (k, z), UNIQUE (b));
  pub referenced_column :
      unknown (create (integer [] ∷ constrained (table_rule.ForeignKey (a ∷ []) (record { table = p; columns = Some (k ∷ z ∷ []); matching = None; on_delete = None; on_update = None })) ∷ unique (b ∷ []) ∷ []))
      ≡ Some (unknown_fault (column_item None z))
  -- ALTER TABLE w ADD UNIQUE (z);
  pub altered_table : unknown (add w None (table_rule.Unique Distinct (z ∷ []))) ≡ Some (unknown_fault (table_item w))
  -- ALTER TABLE t ADD UNIQUE (a, z);
  pub column_of_an_added_key : unknown (add t None (table_rule.Unique Distinct (a ∷ z ∷ []))) ≡ Some (unknown_fault (column_item None z))
  -- CREATE TRIGGER r BEFORE UPDATE OF a, w ON t REFERENCING NEW AS z FOR EACH ROW SET v.a = 1;
  pub column_of_update_of : unknown (trigger r (a ∷ w ∷ []) t (new_row ∷ []) (action.Set v a one ∷ [])) ≡ Some (unknown_fault (column_item None w))
  -- CREATE TRIGGER r BEFORE UPDATE ON t REFERENCING NEW AS z FOR EACH ROW SET v.w = 1;
  pub row_variable : unknown (trigger r [] t (new_row ∷ []) (action.Set v w one ∷ [])) ≡ Some (unknown_fault (variable_item v))
  -- CREATE TRIGGER r BEFORE UPDATE ON t REFERENCING NEW AS z FOR EACH ROW SET z.w = 1;
  pub column_of_a_row_variable : unknown (trigger r [] t (new_row ∷ []) (action.Set z w one ∷ [])) ≡ Some (unknown_fault (column_item (Some z) w))
  -- CREATE TRIGGER r BEFORE UPDATE ON t REFERENCING NEW AS z FOR EACH ROW BEGIN ATOMIC SET z.a = 1; SET z.a = z.w; SET z.v = 1; END;
  pub second_statement_of_a_body :
      unknown (trigger r [] t (new_row ∷ []) (action.Set z a one ∷ action.Set z a (of_range z w) ∷ action.Set z v one ∷ []))
      ≡ Some (unknown_fault (column_item (Some z) w))
  -- DROP TRIGGER r;
  pub dropped_trigger : unknown (statement.DropTrigger r) ≡ Some (unknown_fault (trigger_item r))
  -- SET CONSTRAINTS p_c1, w, z DEFERRED;
  pub constraint_that_is_set : unknown (statement.SetConstraints (constraints.Named (codes "P_C1" ∷ w ∷ z ∷ [])) mode.Deferred)
      ≡ Some (unknown_fault (constraint_item w))
  -- ---- Duplicate
  -- CREATE TABLE t (a INT, a INT);
  pub table_before_its_columns : duplicate (statement.CreateTable t (integer [] ∷ integer [] ∷ [])) ≡ Some (in_use_fault (table_item t))
  -- CREATE TABLE w (a INT, b INT, b INT, a INT CONSTRAINT p_c1 UNIQUE);
  pub column_that_comes_again_first :
      duplicate (create (integer [] ∷ defined b type.Integer None [] ∷ defined b type.Integer None [] ∷ integer (in_column (Some (codes "P_C1")) (column_rule.Unique Distinct) ∷ []) ∷ []))
      ≡ Some (twice_fault (column_item None b))
  -- CREATE TABLE w (a INT CONSTRAINT p_c1 UNIQUE, a INT);
  pub constraint_in_use_before_a_column_again :
      duplicate (create (integer (in_column (Some (codes "P_C1")) (column_rule.Unique Distinct) ∷ []) ∷ integer [] ∷ []))
      ≡ Some (in_use_fault (constraint_item (codes "P_C1")))
  -- CREATE TABLE w (a INT, a INT CONSTRAINT p_c1 UNIQUE);
  pub column_again_before_its_constraint :
      duplicate (create (integer [] ∷ integer (in_column (Some (codes "P_C1")) (column_rule.Unique Distinct) ∷ []) ∷ []))
      ≡ Some (twice_fault (column_item None a))
  -- CREATE TABLE w (a INT, b INT, UNIQUE (b, b), a INT);
  pub key_before_a_column_again :
      duplicate (create (integer [] ∷ defined b type.Integer None [] ∷ unique (b ∷ b ∷ []) ∷ integer [] ∷ [])) ≡ Some (twice_fault (column_item None b))
  -- CREATE TABLE w (a INT, UNIQUE (a, a), b INT CONSTRAINT p_c1 UNIQUE);
  pub key_before_a_constraint_in_use :
      duplicate (create (integer [] ∷ unique (a ∷ a ∷ []) ∷ defined_with b (in_column (Some (codes "P_C1")) (column_rule.Unique Distinct)) ∷ []))
      ≡ Some (twice_fault (column_item None a))
  -- CREATE TABLE w (a INT, CONSTRAINT p_c1 UNIQUE (a, a));
  pub name_before_its_key :
      duplicate (create (integer [] ∷ element.Constraint (record { name = Some (codes "P_C1"); rule = table_rule.Unique Distinct (a ∷ a ∷ []); time = any_time }) ∷ [])) ≡ Some (in_use_fault (constraint_item (codes "P_C1")))
  -- CREATE TABLE w (a INT CONSTRAINT z NOT NULL CONSTRAINT z UNIQUE CONSTRAINT p_c1 CHECK (a = 1));
  pub constraint_twice_before_one_in_use :
      duplicate (create (integer (in_column (Some z) column_rule.NotNull ∷ in_column (Some z) (column_rule.Unique Distinct) ∷ in_column (Some (codes "P_C1")) (column_rule.Check (equal (column a) one)) ∷ []) ∷ []))
      ≡ Some (twice_fault (constraint_item z))
  -- CREATE TABLE v (a INT NOT NULL);
  pub generated_in_use : duplicate (statement.CreateTable v (integer (in_column None column_rule.NotNull ∷ []) ∷ [])) ≡ Some (in_use_fault (generated_item v 1))
  -- CREATE TABLE w (a INT CONSTRAINT z NOT NULL CONSTRAINT z UNIQUE);
  pub constraint_twice :
      duplicate (create (integer (in_column (Some z) column_rule.NotNull ∷ in_column (Some z) (column_rule.Unique Distinct) ∷ []) ∷ []))
      ≡ Some (twice_fault (constraint_item z))
  -- CREATE TABLE w (a INT CONSTRAINT w_c2 NOT NULL UNIQUE);
  pub generated_again :
      duplicate (create (integer (in_column (Some (codes "W_C2")) column_rule.NotNull ∷ in_column None (column_rule.Unique Distinct) ∷ []) ∷ []))
      ≡ Some (twice_fault (generated_item w 2))
  -- CREATE TABLE w (a INT, UNIQUE (a, a));
  pub column_of_a_key_twice : duplicate (create (integer [] ∷ unique (a ∷ a ∷ []) ∷ [])) ≡ Some (twice_fault (column_item None a))
  -- ALTER TABLE t ADD CONSTRAINT p_c1 UNIQUE (a, a);
  pub added_constraint_in_use : duplicate (add t (Some (codes "P_C1")) (table_rule.Unique Distinct (a ∷ a ∷ [])))
      ≡ Some (in_use_fault (constraint_item (codes "P_C1")))
  -- ALTER TABLE p ADD UNIQUE (k);
  pub added_name_in_use : duplicate (add p None (table_rule.Unique Distinct (k ∷ []))) ≡ Some (in_use_fault (generated_item p 2))
  -- ALTER TABLE t ADD UNIQUE (a, b, b, a);
  pub column_of_an_added_key_twice : duplicate (add t None (table_rule.Unique Distinct (a ∷ b ∷ b ∷ a ∷ []))) ≡ Some (twice_fault (column_item None b))
  -- CREATE TRIGGER s BEFORE UPDATE OF a, a ON t FOR EACH ROW SIGNAL 'x';
  pub trigger_in_use : duplicate (trigger s (a ∷ a ∷ []) t [] (action.Signal (codes "x") ∷ [])) ≡ Some (in_use_fault (trigger_item s))
  -- CREATE TRIGGER r BEFORE UPDATE OF a, a ON t REFERENCING OLD AS z NEW AS z FOR EACH ROW SIGNAL 'x';
  pub column_of_update_of_twice : duplicate (trigger r (a ∷ a ∷ []) t (item Old what.Row z ∷ new_row ∷ []) (action.Signal (codes "x") ∷ []))
      ≡ Some (twice_fault (column_item None a))
  -- CREATE TRIGGER r BEFORE UPDATE ON t REFERENCING OLD AS z NEW AS z FOR EACH ROW INSERT INTO t (a, a) VALUES (1);
  pub transition_twice : duplicate (trigger r [] t (item Old what.Row z ∷ new_row ∷ []) (inserted (a ∷ a ∷ []) ∷ [])) ≡ Some (twice_fault (transition_item z))
  -- CREATE TRIGGER r BEFORE UPDATE ON t FOR EACH ROW BEGIN ATOMIC SIGNAL 'x'; INSERT INTO t (b, b) VALUES (1); INSERT INTO t (a, a) VALUES (1); END;
  pub column_in_a_body_twice :
      duplicate (trigger r [] t [] (action.Signal (codes "x") ∷ inserted (b ∷ b ∷ []) ∷ inserted (a ∷ a ∷ []) ∷ [])) ≡ Some (twice_fault (column_item None b))
  -- INSERT INTO t (a, b, b, a) VALUES (1);
  pub column_of_the_list_twice : duplicate (insert_into t (Some (a ∷ b ∷ b ∷ a ∷ [])) (one ∷ [])) ≡ Some (twice_fault (column_item None b))
  -- UPDATE t SET a = 1, a = 1;
  pub column_set_twice :
      duplicate (statement.Update (record { table = t; assignments = record { column = a; value = given.Value one } ∷ record { column = a; value = given.Value one } ∷ []; filter = None }))
      ≡ Some (twice_fault (column_item None a))
  -- ---- another cause
  -- INSERT INTO w (a, a) VALUES (1);
  pub of_another_cause : name_fault schema (insert_into w (Some (a ∷ a ∷ [])) (one ∷ [])) WrongShape ≡ None
  -- ---- which of two
  -- DELETE FROM t WHERE a = w * z;
  pub left_factor_first : unknown (delete_where t (equal (column a) (product (column w) (column z)))) ≡ Some (unknown_fault (column_item None w))
  -- DELETE FROM t WHERE w = z;
  pub left_side_first : unknown (delete_where t (equal (column w) (column z))) ≡ Some (unknown_fault (column_item None w))
  -- DELETE FROM t WHERE EXISTS (SELECT * FROM w WHERE z = 1);
  pub from_before_its_condition : unknown (delete_where t (exists_where (from w) (equal (column z) one))) ≡ Some (unknown_fault (table_item w))
  -- INSERT INTO t (w) VALUES (z);
  pub list_before_the_values : unknown (insert_into t (Some (w ∷ [])) (column z ∷ [])) ≡ Some (unknown_fault (column_item None w))
  -- UPDATE t SET w = 1 WHERE z = 1;
  pub set_before_the_condition :
      unknown (statement.Update (record { table = t; assignments = record { column = w; value = given.Value one } ∷ []; filter = Some (equal (column z) one) }))
      ≡ Some (unknown_fault (column_item None w))
  -- SELECT w, z FROM t;
  pub first_of_the_list : unknown (statement.Select (select.Rows (list.Values (column w ∷ column z ∷ [])) (from t) None))
      ≡ Some (unknown_fault (column_item None w))
  -- CREATE TRIGGER r AFTER UPDATE ON t FOR EACH ROW WHEN (1 = w) DELETE FROM z;
  pub condition_before_the_body :
      unknown (statement.CreateTrigger
      (record {
        name = r;
        time = time.After;
        event = event.Update;
        columns = [];
        table = t;
        referencing = [];
        granularity = granularity.Row;
        when = Some
            (equal one (column w));
        body = action.Delete (record { table = z; filter = None }) ∷ [];
      }))
      ≡ Some (unknown_fault (column_item None w))
  -- CREATE TRIGGER r BEFORE UPDATE OF a ON w FOR EACH ROW SIGNAL 'x';
  pub table_before_update_of : unknown (trigger r (a ∷ []) w [] (action.Signal (codes "x") ∷ [])) ≡ Some (unknown_fault (table_item w))
  -- CREATE TABLE w (a INT, FOREIGN KEY (z) REFERENCES v);
  pub columns_before_the_reference : unknown (create (integer [] ∷ constrained (table_rule.ForeignKey (z ∷ []) (to_table v)) ∷ []))
      ≡ Some (unknown_fault (column_item None z))
  -- CREATE TABLE w (a INT CONSTRAINT z NOT NULL CONSTRAINT z UNIQUE, UNIQUE (a, a));
  pub constraint_again_before_a_key :
      duplicate (create (integer (in_column (Some z) column_rule.NotNull ∷ in_column (Some z) (column_rule.Unique Distinct) ∷ []) ∷ unique (a ∷ a ∷ []) ∷ []))
      ≡ Some (twice_fault (constraint_item z))
  -- CREATE TABLE w (a INT, FOREIGN KEY (a, a) REFERENCES p (k, k));
  pub first_list_before_the_second :
      duplicate (create (integer [] ∷ constrained (table_rule.ForeignKey (a ∷ a ∷ []) (record { table = p; columns = Some (k ∷ k ∷ []); matching = None; on_delete = None; on_update = None })) ∷ []))
      ≡ Some (twice_fault (column_item None a))
