-- SchemaFault: definitions that no schema can have, each with one beside it that a schema can have.
use Rattle.std.specs.Prelude.{◌≡◌, true, false, [], ◌∷◌, codes, Some, None}
use Rattle.iv_worked.specs.Words.comparison.{Equal}
use Rattle.iv_worked.specs.Words.side.{Old, New}
use Rattle.iv_worked.specs.Words.element
use Rattle.iv_worked.specs.Words.type
use Rattle.iv_worked.specs.Words.column_rule
use Rattle.iv_worked.specs.Words.table_rule
use Rattle.iv_worked.specs.Words.nulls.{Distinct}
use Rattle.iv_worked.specs.Words.literal
use Rattle.iv_worked.specs.Words.mode
use Rattle.iv_worked.specs.Words.given
use Rattle.iv_worked.specs.Words.source
use Rattle.iv_worked.specs.Words.insert
use Rattle.iv_worked.specs.Words.statement
use Rattle.iv_worked.specs.Words.condition
use Rattle.iv_worked.specs.Words.time
use Rattle.iv_worked.specs.Words.event
use Rattle.iv_worked.specs.Words.granularity
use Rattle.iv_worked.specs.Words.transition as what
use Rattle.iv_worked.specs.Words.action
use Rattle.iv_worked.specs.Words.sign.{Minus}
use Rattle.iv_worked.specs.Words.cause.{SchemaFault}
use Rattle.iv_syntax.specs.Trees.{enclosed, negated, both, either, exists_where}
use Rattle.iv_resolution.specs.Resolution.{least}
use Rattle.iv_resolution.specs.Worked.{a, b, k, p, t, w, z, column, of_range, one, text, from, any_time, item, defined, constrained, create, to_table}
use Rattle.iv_worked.specs.Words.{d, n, o, q, r, x, y, schema, sets, update_of, delete_of, refers, checked, in_column, column_of, constraint}
use Rattle.iv_worked.specs.Words.{trigger_of}

pub record WorkedSchemaFaults : Type 0 where
  -- ---- CREATE TABLE: columns and defaults
  -- CREATE TABLE w (a INT, CHECK (1 = 1));
  pub one_column : least schema (create (defined a type.Integer None [] ∷ constrained (table_rule.Check (condition.Compare Equal one one)) ∷ [])) ≡ None
  -- CREATE TABLE w (a VARCHAR(2) DEFAULT 1);
  pub number_for_a_text : least schema (create (defined a (type.Varchar 2) (Some (literal.Number None 1)) [] ∷ [])) ≡ Some SchemaFault
  -- CREATE TABLE w (a INT DEFAULT 1);
  pub number_for_a_number : least schema (create (defined a type.Integer (Some (literal.Number None 1)) [] ∷ [])) ≡ None
  -- CREATE TABLE w (a INT DEFAULT -1);
  pub negative_number : least schema (create (defined a type.Integer (Some (literal.Number (Some Minus) 1)) [] ∷ [])) ≡ None
  -- CREATE TABLE w (a INT DEFAULT NULL);
  pub null_for_a_number : least schema (create (defined a type.Integer (Some literal.Null) [] ∷ [])) ≡ None
  -- CREATE TABLE w (a VARCHAR(2) DEFAULT NULL);
  pub null_for_a_text : least schema (create (defined a (type.Varchar 2) (Some literal.Null) [] ∷ [])) ≡ None
  -- CREATE TABLE w (a VARCHAR(2) DEFAULT 'xyz');
  pub text_too_long : least schema (create (defined a (type.Varchar 2) (Some (literal.Text (codes "xyz"))) [] ∷ [])) ≡ Some SchemaFault
  -- CREATE TABLE w (a VARCHAR(2) DEFAULT 'xy');
  pub text_that_fits : least schema (create (defined a (type.Varchar 2) (Some (literal.Text (codes "xy"))) [] ∷ [])) ≡ None
  -- CREATE TABLE w (a VARCHAR(2) DEFAULT 'éé');
  pub text_of_two_long_characters : least schema (create (defined a (type.Varchar 2) (Some (literal.Text (codes "éé"))) [] ∷ [])) ≡ None
  -- CREATE TABLE w (a INT, b INT DEFAULT 'x');
  pub text_for_a_second_column :
      least schema (create (defined a type.Integer None [] ∷ defined b type.Integer (Some (literal.Text (codes "x"))) [] ∷ [])) ≡ Some SchemaFault
  -- ---- CREATE TABLE: primary keys and when constraints are checked
  -- CREATE TABLE w (a INT PRIMARY KEY, UNIQUE (a));
  pub primary_key_and_unique :
      least schema (create (defined a type.Integer None (column_rule.PrimaryKey ∷ []) ∷ constrained (table_rule.Unique Distinct (a ∷ [])) ∷ [])) ≡ None
  -- CREATE TABLE w (a INT PRIMARY KEY, PRIMARY KEY (a));
  pub primary_key_of_column_and_table :
      least schema (create (defined a type.Integer None (column_rule.PrimaryKey ∷ []) ∷ constrained (table_rule.PrimaryKey (a ∷ [])) ∷ [])) ≡ Some SchemaFault
  -- CREATE TABLE w (a INT UNIQUE NOT DEFERRABLE INITIALLY DEFERRED);
  pub not_deferrable_and_deferred :
      least schema (create (column_of a type.Integer None (in_column None (column_rule.Unique Distinct) (checked (Some false) (Some mode.Deferred)) ∷ []) ∷ [])) ≡ Some SchemaFault
  -- CREATE TABLE w (a INT, UNIQUE (a) INITIALLY DEFERRED NOT DEFERRABLE);
  pub deferred_and_not_deferrable :
      least schema (create (defined a type.Integer None [] ∷ element.Constraint (constraint None (table_rule.Unique Distinct (a ∷ [])) (checked (Some false) (Some mode.Deferred))) ∷ [])) ≡ Some SchemaFault
  -- CREATE TABLE w (a INT UNIQUE NOT DEFERRABLE INITIALLY IMMEDIATE);
  pub not_deferrable_and_immediate :
      least schema (create (column_of a type.Integer None (in_column None (column_rule.Unique Distinct) (checked (Some false) (Some mode.Immediate)) ∷ []) ∷ [])) ≡ None
  -- CREATE TABLE w (a INT UNIQUE NOT DEFERRABLE);
  pub not_deferrable : least schema
      (create (column_of a type.Integer None (in_column None (column_rule.Unique Distinct) (checked (Some false) None) ∷ []) ∷ [])) ≡ None
  -- CREATE TABLE w (a INT UNIQUE DEFERRABLE INITIALLY DEFERRED);
  pub deferrable_and_deferred :
      least schema (create (column_of a type.Integer None (in_column None (column_rule.Unique Distinct) (checked (Some true) (Some mode.Deferred)) ∷ []) ∷ [])) ≡ None
  -- CREATE TABLE w (a INT UNIQUE INITIALLY DEFERRED);
  pub deferred : least schema (create (column_of a type.Integer None (in_column None (column_rule.Unique Distinct) (checked None (Some mode.Deferred)) ∷ []) ∷ [])) ≡ None
  -- ---- CREATE TABLE: EXISTS in a CHECK
  -- CREATE TABLE w (a INT, CHECK (EXISTS (SELECT * FROM t WHERE b = 'x')));
  pub exists_where_in_a_check :
      least schema (create (defined a type.Integer None [] ∷ constrained (table_rule.Check (exists_where (from t) (condition.Compare Equal (column b) text))) ∷ [])) ≡ Some SchemaFault
  -- CREATE TABLE w (a INT, CHECK ((EXISTS (SELECT * FROM t))));
  pub enclosed_exists_in_a_check :
      least schema (create (defined a type.Integer None [] ∷ constrained (table_rule.Check (enclosed (condition.Exists (from t)))) ∷ [])) ≡ Some SchemaFault
  -- CREATE TABLE w (a INT, CHECK (NOT EXISTS (SELECT * FROM t)));
  pub negated_exists_in_a_check :
      least schema (create (defined a type.Integer None [] ∷ constrained (table_rule.Check (negated (condition.Exists (from t)))) ∷ [])) ≡ Some SchemaFault
  -- CREATE TABLE w (a INT, CHECK (EXISTS (SELECT * FROM t) AND a = 1));
  pub exists_in_a_check_before_and :
      least schema (create (defined a type.Integer None [] ∷ constrained (table_rule.Check (both (condition.Exists (from t)) (condition.Compare Equal (column a) one))) ∷ [])) ≡ Some SchemaFault
  -- CREATE TABLE w (a INT, CHECK (a = 1 AND EXISTS (SELECT * FROM t)));
  pub exists_in_a_check_after_and :
      least schema (create (defined a type.Integer None [] ∷ constrained (table_rule.Check (both (condition.Compare Equal (column a) one) (condition.Exists (from t)))) ∷ [])) ≡ Some SchemaFault
  -- CREATE TABLE w (a INT, CHECK (EXISTS (SELECT * FROM t) OR a = 1));
  pub exists_in_a_check_before_or :
      least schema (create (defined a type.Integer None [] ∷ constrained (table_rule.Check (either (condition.Exists (from t)) (condition.Compare Equal (column a) one))) ∷ [])) ≡ Some SchemaFault
  -- CREATE TABLE w (a INT, CHECK (a = 1 OR EXISTS (SELECT * FROM t)));
  pub exists_in_a_check_after_or :
      least schema (create (defined a type.Integer None [] ∷ constrained (table_rule.Check (either (condition.Compare Equal (column a) one) (condition.Exists (from t)))) ∷ [])) ≡ Some SchemaFault
  -- CREATE TABLE w (a INT, CHECK (NOT (a = 1 AND a IS NOT NULL OR a IS NULL)));
  pub no_exists_in_a_check :
      least schema (create (defined a type.Integer None [] ∷ constrained (table_rule.Check (negated (enclosed (either (both (condition.Compare Equal (column a) one) (condition.IsNotNull (column a))) (condition.IsNull (column a)))))) ∷ [])) ≡ None
  -- ---- CREATE TABLE: foreign keys with a list
  -- CREATE TABLE w (a INT, b VARCHAR(2), FOREIGN KEY (a, b) REFERENCES p (k));
  pub fewer_referenced_columns :
      least schema (create (defined a type.Integer None [] ∷ defined b (type.Varchar 2) None [] ∷ constrained (table_rule.ForeignKey (a ∷ b ∷ []) (refers p (Some (k ∷ [])))) ∷ [])) ≡ Some SchemaFault
  -- CREATE TABLE w (a INT REFERENCES q (a, b));
  pub more_referenced_columns :
      least schema (create (defined a type.Integer None (column_rule.References (refers q (Some (a ∷ b ∷ []))) ∷ []) ∷ [])) ≡ Some SchemaFault
  -- CREATE TABLE w (a INT, b VARCHAR(2), FOREIGN KEY (a, b) REFERENCES q (a, b));
  pub as_many_referenced_columns :
      least schema (create (defined a type.Integer None [] ∷ defined b (type.Varchar 2) None [] ∷ constrained (table_rule.ForeignKey (a ∷ b ∷ []) (refers q (Some (a ∷ b ∷ [])))) ∷ [])) ≡ None
  -- CREATE TABLE w (a INT, b VARCHAR(2), FOREIGN KEY (b, a) REFERENCES q (b, a));
  pub columns_in_another_order :
      least schema (create (defined a type.Integer None [] ∷ defined b (type.Varchar 2) None [] ∷ constrained (table_rule.ForeignKey (b ∷ a ∷ []) (refers q (Some (b ∷ a ∷ [])))) ∷ [])) ≡ None
  -- CREATE TABLE w (a INT, b VARCHAR(2), FOREIGN KEY (b, a) REFERENCES q (a, b));
  pub columns_crossed :
      least schema (create (defined a type.Integer None [] ∷ defined b (type.Varchar 2) None [] ∷ constrained (table_rule.ForeignKey (b ∷ a ∷ []) (refers q (Some (a ∷ b ∷ [])))) ∷ [])) ≡ Some SchemaFault
  -- CREATE TABLE w (a VARCHAR(2) REFERENCES p (k));
  pub text_for_an_integer_key :
      least schema (create (defined a (type.Varchar 2) None (column_rule.References (refers p (Some (k ∷ []))) ∷ []) ∷ [])) ≡ Some SchemaFault
  -- CREATE TABLE w (a INT REFERENCES p (k));
  pub integer_for_an_integer_key : least schema (create (defined a type.Integer None (column_rule.References (refers p (Some (k ∷ []))) ∷ []) ∷ [])) ≡ None
  -- CREATE TABLE w (a INT, b INT, FOREIGN KEY (a, b) REFERENCES q (a, b));
  pub integer_for_a_text_key :
      least schema (create (defined a type.Integer None [] ∷ defined b type.Integer None [] ∷ constrained (table_rule.ForeignKey (a ∷ b ∷ []) (refers q (Some (a ∷ b ∷ [])))) ∷ [])) ≡ Some SchemaFault
  -- CREATE TABLE w (a INT, b VARCHAR(3), FOREIGN KEY (a, b) REFERENCES q (a, b));
  pub longer_text_for_a_text_key :
      least schema (create (defined a type.Integer None [] ∷ defined b (type.Varchar 3) None [] ∷ constrained (table_rule.ForeignKey (a ∷ b ∷ []) (refers q (Some (a ∷ b ∷ [])))) ∷ [])) ≡ Some SchemaFault
  -- CREATE TABLE w (a INT REFERENCES t (a));
  pub columns_without_a_key : least schema (create (defined a type.Integer None (column_rule.References (refers t (Some (a ∷ []))) ∷ []) ∷ []))
      ≡ Some SchemaFault
  -- CREATE TABLE w (a INT REFERENCES q (a));
  pub column_of_a_wider_key : least schema (create (defined a type.Integer None (column_rule.References (refers q (Some (a ∷ []))) ∷ []) ∷ []))
      ≡ Some SchemaFault
  -- CREATE TABLE w (a INT, b INT, FOREIGN KEY (a, b) REFERENCES q (z, k));
  pub columns_of_two_keys :
      least schema (create (defined a type.Integer None [] ∷ defined b type.Integer None [] ∷ constrained (table_rule.ForeignKey (a ∷ b ∷ []) (refers q (Some (z ∷ k ∷ [])))) ∷ [])) ≡ Some SchemaFault
  -- CREATE TABLE w (a INT REFERENCES q (z));
  pub column_of_a_unique_key : least schema (create (defined a type.Integer None (column_rule.References (refers q (Some (z ∷ []))) ∷ []) ∷ [])) ≡ None
  -- CREATE TABLE w (a INT REFERENCES q (k));
  pub column_of_a_deferrable_key :
      least schema (create (defined a type.Integer None (column_rule.References (refers q (Some (k ∷ []))) ∷ []) ∷ [])) ≡ Some SchemaFault
  -- CREATE TABLE w (a INT REFERENCES d (k));
  pub column_of_two_keys_of_which_one_is_deferrable :
      least schema (create (defined a type.Integer None (column_rule.References (refers d (Some (k ∷ []))) ∷ []) ∷ [])) ≡ None
  -- CREATE TABLE w (a INT REFERENCES w (k), k INT);
  pub own_columns_without_a_key :
      least schema (create (defined a type.Integer None (column_rule.References (refers w (Some (k ∷ []))) ∷ []) ∷ defined k type.Integer None [] ∷ []))
      ≡ Some SchemaFault
  -- CREATE TABLE w (a INT REFERENCES w (k), k INT UNIQUE);
  pub own_columns_of_a_key :
      least schema (create (defined a type.Integer None (column_rule.References (refers w (Some (k ∷ []))) ∷ []) ∷ defined k type.Integer None ((column_rule.Unique Distinct) ∷ []) ∷ [])) ≡ None
  -- CREATE TABLE w (a INT REFERENCES w (k), k INT UNIQUE DEFERRABLE);
  pub own_columns_of_a_deferrable_key :
      least schema (create (defined a type.Integer None (column_rule.References (refers w (Some (k ∷ []))) ∷ []) ∷ column_of k type.Integer None (in_column None (column_rule.Unique Distinct) (checked (Some true) None) ∷ []) ∷ [])) ≡ Some SchemaFault
  -- ---- CREATE TABLE: foreign keys without a list
  -- CREATE TABLE w (a INT REFERENCES d);
  pub primary_key_is_deferrable : least schema (create (defined a type.Integer None (column_rule.References (to_table d) ∷ []) ∷ [])) ≡ Some SchemaFault
  -- CREATE TABLE w (a INT REFERENCES p);
  pub primary_key_is_not_deferrable : least schema (create (defined a type.Integer None (column_rule.References (to_table p) ∷ []) ∷ [])) ≡ None
  -- CREATE TABLE w (a INT REFERENCES q);
  pub primary_key_has_more_columns : least schema (create (defined a type.Integer None (column_rule.References (to_table q) ∷ []) ∷ [])) ≡ Some SchemaFault
  -- CREATE TABLE w (a INT, b INT, FOREIGN KEY (a, b) REFERENCES p);
  pub primary_key_has_fewer_columns :
      least schema (create (defined a type.Integer None [] ∷ defined b type.Integer None [] ∷ constrained (table_rule.ForeignKey (a ∷ b ∷ []) (to_table p)) ∷ [])) ≡ Some SchemaFault
  -- CREATE TABLE w (a INT, b VARCHAR(2), FOREIGN KEY (a, b) REFERENCES q);
  pub primary_key_has_as_many_columns :
      least schema (create (defined a type.Integer None [] ∷ defined b (type.Varchar 2) None [] ∷ constrained (table_rule.ForeignKey (a ∷ b ∷ []) (to_table q)) ∷ [])) ≡ None
  -- CREATE TABLE w (a INT, b VARCHAR(2), FOREIGN KEY (b, a) REFERENCES q);
  pub primary_key_has_other_types :
      least schema (create (defined a type.Integer None [] ∷ defined b (type.Varchar 2) None [] ∷ constrained (table_rule.ForeignKey (b ∷ a ∷ []) (to_table q)) ∷ [])) ≡ Some SchemaFault
  -- CREATE TABLE w (a INT REFERENCES w, k INT UNIQUE);
  pub no_primary_key_of_its_own :
      least schema (create (defined a type.Integer None (column_rule.References (to_table w) ∷ []) ∷ defined k type.Integer None ((column_rule.Unique Distinct) ∷ []) ∷ [])) ≡ Some SchemaFault
  -- CREATE TABLE w (a INT REFERENCES w, k INT PRIMARY KEY);
  pub primary_key_of_its_own :
      least schema (create (defined a type.Integer None (column_rule.References (to_table w) ∷ []) ∷ defined k type.Integer None (column_rule.PrimaryKey ∷ []) ∷ [])) ≡ None
  -- CREATE TABLE w (a INT REFERENCES w, k INT PRIMARY KEY DEFERRABLE);
  pub deferrable_primary_key_of_its_own :
      least schema (create (defined a type.Integer None (column_rule.References (to_table w) ∷ []) ∷ column_of k type.Integer None (in_column None column_rule.PrimaryKey (checked (Some true) None) ∷ []) ∷ [])) ≡ Some SchemaFault
  -- CREATE TABLE w (a INT REFERENCES w, k INT PRIMARY KEY INITIALLY DEFERRED);
  pub deferred_primary_key_of_its_own :
      least schema (create (defined a type.Integer None (column_rule.References (to_table w) ∷ []) ∷ column_of k type.Integer None (in_column None column_rule.PrimaryKey (checked None (Some mode.Deferred)) ∷ []) ∷ [])) ≡ Some SchemaFault
  -- CREATE TABLE w (a INT REFERENCES w, k INT PRIMARY KEY INITIALLY IMMEDIATE);
  pub immediate_primary_key_of_its_own :
      least schema (create (defined a type.Integer None (column_rule.References (to_table w) ∷ []) ∷ column_of k type.Integer None (in_column None column_rule.PrimaryKey (checked None (Some mode.Immediate)) ∷ []) ∷ [])) ≡ None
  -- ---- ALTER TABLE
  -- ALTER TABLE t ADD PRIMARY KEY (a);
  pub first_primary_key_added : least schema (statement.AlterTable t (constraint None (table_rule.PrimaryKey (a ∷ [])) any_time)) ≡ None
  -- ALTER TABLE p ADD UNIQUE (k);
  pub unique_added_beside_the_primary_key : least schema (statement.AlterTable p (constraint None (table_rule.Unique Distinct (k ∷ [])) any_time)) ≡ None
  -- ALTER TABLE t ADD UNIQUE (a) NOT DEFERRABLE INITIALLY DEFERRED;
  pub added_as_not_deferrable_and_deferred :
      least schema (statement.AlterTable t (constraint None (table_rule.Unique Distinct (a ∷ [])) (checked (Some false) (Some mode.Deferred))))
      ≡ Some SchemaFault
  -- ALTER TABLE t ADD UNIQUE (a) DEFERRABLE INITIALLY DEFERRED;
  pub added_as_deferrable_and_deferred :
      least schema (statement.AlterTable t (constraint None (table_rule.Unique Distinct (a ∷ [])) (checked (Some true) (Some mode.Deferred)))) ≡ None
  -- ALTER TABLE t ADD CHECK (EXISTS (SELECT * FROM p));
  pub added_check_with_exists : least schema (statement.AlterTable t (constraint None (table_rule.Check (condition.Exists (from p))) any_time))
      ≡ Some SchemaFault
  -- ALTER TABLE t ADD CHECK (a = 1);
  pub added_check_without_exists :
      least schema (statement.AlterTable t (constraint None (table_rule.Check (condition.Compare Equal (column a) one)) any_time)) ≡ None
  -- ALTER TABLE t ADD FOREIGN KEY (a) REFERENCES t;
  pub added_reference_without_a_primary_key :
      least schema (statement.AlterTable t (constraint None (table_rule.ForeignKey (a ∷ []) (to_table t)) any_time)) ≡ Some SchemaFault
  -- ALTER TABLE t ADD FOREIGN KEY (a) REFERENCES p;
  pub added_reference_to_a_primary_key : least schema (statement.AlterTable t (constraint None (table_rule.ForeignKey (a ∷ []) (to_table p)) any_time)) ≡ None
  -- ALTER TABLE t ADD FOREIGN KEY (b) REFERENCES p;
  pub added_reference_of_another_type :
      least schema (statement.AlterTable t (constraint None (table_rule.ForeignKey (b ∷ []) (to_table p)) any_time)) ≡ Some SchemaFault
  -- ALTER TABLE t ADD FOREIGN KEY (a) REFERENCES q;
  pub added_reference_of_fewer_columns :
      least schema (statement.AlterTable t (constraint None (table_rule.ForeignKey (a ∷ []) (to_table q)) any_time)) ≡ Some SchemaFault
  -- ALTER TABLE t ADD FOREIGN KEY (a, b) REFERENCES q;
  pub added_reference_of_as_many_columns : least schema (statement.AlterTable t (constraint None (table_rule.ForeignKey (a ∷ b ∷ []) (to_table q)) any_time))
      ≡ None
  -- ALTER TABLE t ADD FOREIGN KEY (a) REFERENCES q (a);
  pub added_reference_to_columns_without_a_key :
      least schema (statement.AlterTable t (constraint None (table_rule.ForeignKey (a ∷ []) (refers q (Some (a ∷ [])))) any_time)) ≡ Some SchemaFault
  -- ALTER TABLE t ADD FOREIGN KEY (a) REFERENCES q (z);
  pub added_reference_to_a_unique_key :
      least schema (statement.AlterTable t (constraint None (table_rule.ForeignKey (a ∷ []) (refers q (Some (z ∷ [])))) any_time)) ≡ None
  -- ALTER TABLE t ADD FOREIGN KEY (a) REFERENCES q (k);
  pub added_reference_to_a_deferrable_key :
      least schema (statement.AlterTable t (constraint None (table_rule.ForeignKey (a ∷ []) (refers q (Some (k ∷ [])))) any_time)) ≡ Some SchemaFault
  -- ALTER TABLE t ADD FOREIGN KEY (a) REFERENCES d;
  pub added_reference_to_a_deferrable_primary_key :
      least schema (statement.AlterTable t (constraint None (table_rule.ForeignKey (a ∷ []) (to_table d)) any_time)) ≡ Some SchemaFault
  -- ALTER TABLE t ADD FOREIGN KEY (a) REFERENCES d (k);
  pub added_reference_to_one_of_two_keys :
      least schema (statement.AlterTable t (constraint None (table_rule.ForeignKey (a ∷ []) (refers d (Some (k ∷ [])))) any_time)) ≡ None
  -- ---- CREATE TRIGGER: REFERENCING
  -- CREATE TRIGGER r AFTER UPDATE ON t REFERENCING OLD AS o OLD AS x FOR EACH ROW SIGNAL 'x';
  pub old_row_twice :
      least schema (trigger_of r time.After event.Update t (item Old what.Row o ∷ item Old what.Row x ∷ []) granularity.Row None (action.Signal (codes "x") ∷ [])) ≡ Some SchemaFault
  -- CREATE TRIGGER r AFTER UPDATE ON t REFERENCING NEW AS n NEW AS x FOR EACH ROW SIGNAL 'x';
  pub new_row_twice :
      least schema (trigger_of r time.After event.Update t (item New what.Row n ∷ item New what.Row x ∷ []) granularity.Row None (action.Signal (codes "x") ∷ [])) ≡ Some SchemaFault
  -- CREATE TRIGGER r AFTER UPDATE ON t REFERENCING OLD TABLE AS o OLD TABLE AS x SIGNAL 'x';
  pub old_table_twice :
      least schema (trigger_of r time.After event.Update t (item Old what.Table o ∷ item Old what.Table x ∷ []) granularity.Statement None (action.Signal (codes "x") ∷ [])) ≡ Some SchemaFault
  -- CREATE TRIGGER r AFTER UPDATE ON t REFERENCING NEW TABLE AS n NEW TABLE AS x SIGNAL 'x';
  pub new_table_twice :
      least schema (trigger_of r time.After event.Update t (item New what.Table n ∷ item New what.Table x ∷ []) granularity.Statement None (action.Signal (codes "x") ∷ [])) ≡ Some SchemaFault
  -- CREATE TRIGGER r AFTER UPDATE ON t REFERENCING OLD AS o NEW AS n OLD TABLE AS x NEW TABLE AS y FOR EACH ROW SIGNAL 'x';
  pub each_item_once :
      least schema (trigger_of r time.After event.Update t (item Old what.Row o ∷ item New what.Row n ∷ item Old what.Table x ∷ item New what.Table y ∷ [])
      granularity.Row None (action.Signal (codes "x") ∷ [])) ≡ None
  -- CREATE TRIGGER r AFTER INSERT ON t REFERENCING OLD TABLE AS o SIGNAL 'x';
  pub insert_has_no_old_rows :
      least schema (trigger_of r time.After event.Insert t (item Old what.Table o ∷ []) granularity.Statement None (action.Signal (codes "x") ∷ []))
      ≡ Some SchemaFault
  -- CREATE TRIGGER r AFTER INSERT ON t REFERENCING NEW TABLE AS n SIGNAL 'x';
  pub insert_has_new_rows :
      least schema (trigger_of r time.After event.Insert t (item New what.Table n ∷ []) granularity.Statement None (action.Signal (codes "x") ∷ [])) ≡ None
  -- CREATE TRIGGER r AFTER INSERT ON t REFERENCING NEW AS n FOR EACH ROW SIGNAL 'x';
  pub insert_has_a_new_row :
      least schema (trigger_of r time.After event.Insert t (item New what.Row n ∷ []) granularity.Row None (action.Signal (codes "x") ∷ [])) ≡ None
  -- CREATE TRIGGER r AFTER DELETE ON t REFERENCING NEW AS n FOR EACH ROW SIGNAL 'x';
  pub delete_has_no_new_row :
      least schema (trigger_of r time.After event.Delete t (item New what.Row n ∷ []) granularity.Row None (action.Signal (codes "x") ∷ [])) ≡ Some SchemaFault
  -- CREATE TRIGGER r AFTER DELETE ON t REFERENCING NEW TABLE AS n SIGNAL 'x';
  pub delete_has_no_new_rows :
      least schema (trigger_of r time.After event.Delete t (item New what.Table n ∷ []) granularity.Statement None (action.Signal (codes "x") ∷ []))
      ≡ Some SchemaFault
  -- CREATE TRIGGER r AFTER DELETE ON t REFERENCING OLD AS o FOR EACH ROW SIGNAL 'x';
  pub delete_has_an_old_row :
      least schema (trigger_of r time.After event.Delete t (item Old what.Row o ∷ []) granularity.Row None (action.Signal (codes "x") ∷ [])) ≡ None
  -- CREATE TRIGGER r AFTER DELETE ON t REFERENCING OLD TABLE AS o SIGNAL 'x';
  pub delete_has_old_rows :
      least schema (trigger_of r time.After event.Delete t (item Old what.Table o ∷ []) granularity.Statement None (action.Signal (codes "x") ∷ [])) ≡ None
  -- CREATE TRIGGER r AFTER UPDATE ON t REFERENCING NEW AS n FOR EACH STATEMENT SIGNAL 'x';
  pub row_of_a_statement :
      least schema (trigger_of r time.After event.Update t (item New what.Row n ∷ []) granularity.Statement None (action.Signal (codes "x") ∷ []))
      ≡ Some SchemaFault
  -- CREATE TRIGGER r AFTER UPDATE ON t REFERENCING NEW AS n SIGNAL 'x';
  pub row_without_for_each :
      least schema (trigger_of r time.After event.Update t (item New what.Row n ∷ []) granularity.Statement None (action.Signal (codes "x") ∷ []))
      ≡ Some SchemaFault
  -- CREATE TRIGGER r AFTER UPDATE ON t REFERENCING NEW TABLE AS n FOR EACH ROW SIGNAL 'x';
  pub rows_of_each_row :
      least schema (trigger_of r time.After event.Update t (item New what.Table n ∷ []) granularity.Row None (action.Signal (codes "x") ∷ [])) ≡ None
  -- CREATE TRIGGER r BEFORE UPDATE ON t REFERENCING NEW TABLE AS n SIGNAL 'x';
  pub rows_before :
      least schema (trigger_of r time.Before event.Update t (item New what.Table n ∷ []) granularity.Statement None (action.Signal (codes "x") ∷ []))
      ≡ Some SchemaFault
  -- CREATE TRIGGER r BEFORE UPDATE ON t REFERENCING NEW AS n FOR EACH ROW SIGNAL 'x';
  pub row_before : least schema (trigger_of r time.Before event.Update t (item New what.Row n ∷ []) granularity.Row None (action.Signal (codes "x") ∷ []))
      ≡ None
  -- CREATE TRIGGER r AFTER DELETE ON t REFERENCING NEW AS n FOR EACH ROW WHEN (n.a = 1) SIGNAL 'x';
  pub row_that_is_not_there_has_its_columns :
      least schema (trigger_of r time.After event.Delete t (item New what.Row n ∷ []) granularity.Row (Some (condition.Compare Equal (of_range n a) one))
      (action.Signal (codes "x") ∷ [])) ≡ Some SchemaFault
  -- ---- CREATE TRIGGER: actions
  -- CREATE TRIGGER r BEFORE INSERT ON t INSERT INTO p VALUES (1);
  pub insert_before :
      least schema (trigger_of r time.Before event.Insert t [] granularity.Statement None (action.Insert (insert.Rows p None (source.Values ((given.Value one ∷ []) ∷ []))) ∷ [])) ≡ Some SchemaFault
  -- CREATE TRIGGER r AFTER INSERT ON t INSERT INTO p VALUES (1);
  pub insert_after :
      least schema (trigger_of r time.After event.Insert t [] granularity.Statement None (action.Insert (insert.Rows p None (source.Values ((given.Value one ∷ []) ∷ []))) ∷ [])) ≡ None
  -- CREATE TRIGGER r BEFORE INSERT ON t UPDATE p SET k = 1;
  pub update_before :
      least schema (trigger_of r time.Before event.Insert t [] granularity.Statement None (action.Update (update_of p (sets k (given.Value one) ∷ []) None) ∷ [])) ≡ Some SchemaFault
  -- CREATE TRIGGER r AFTER INSERT ON t UPDATE p SET k = 1;
  pub update_after :
      least schema (trigger_of r time.After event.Insert t [] granularity.Statement None (action.Update (update_of p (sets k (given.Value one) ∷ []) None) ∷ [])) ≡ None
  -- CREATE TRIGGER r BEFORE INSERT ON t DELETE FROM p;
  pub delete_before :
      least schema (trigger_of r time.Before event.Insert t [] granularity.Statement None (action.Delete (delete_of p None) ∷ [])) ≡ Some SchemaFault
  -- CREATE TRIGGER r AFTER INSERT ON t DELETE FROM p;
  pub delete_after : least schema (trigger_of r time.After event.Insert t [] granularity.Statement None (action.Delete (delete_of p None) ∷ [])) ≡ None
  -- CREATE TRIGGER r BEFORE INSERT ON t SIGNAL 'x';
  pub signal_before : least schema (trigger_of r time.Before event.Insert t [] granularity.Statement None (action.Signal (codes "x") ∷ [])) ≡ None
  -- CREATE TRIGGER r AFTER INSERT ON t REFERENCING NEW AS n FOR EACH ROW SET n.a = 1;
  pub set_after : least schema (trigger_of r time.After event.Insert t (item New what.Row n ∷ []) granularity.Row None (action.Set n a one ∷ []))
      ≡ Some SchemaFault
  -- CREATE TRIGGER r BEFORE INSERT ON t REFERENCING NEW AS n FOR EACH ROW SET n.a = 1;
  pub set_before : least schema (trigger_of r time.Before event.Insert t (item New what.Row n ∷ []) granularity.Row None (action.Set n a one ∷ [])) ≡ None
  -- CREATE TRIGGER r BEFORE INSERT ON t REFERENCING NEW AS n FOR EACH STATEMENT SET n.a = 1;
  pub set_for_each_statement :
      least schema (trigger_of r time.Before event.Insert t (item New what.Row n ∷ []) granularity.Statement None (action.Set n a one ∷ [])) ≡ Some SchemaFault
  -- CREATE TRIGGER r BEFORE INSERT ON t BEGIN ATOMIC SIGNAL 'x'; DELETE FROM p; END;
  pub second_action_before :
      least schema (trigger_of r time.Before event.Insert t [] granularity.Statement None (action.Signal (codes "x") ∷ action.Delete (delete_of p None) ∷ []))
      ≡ Some SchemaFault
  -- CREATE TRIGGER r AFTER INSERT ON t BEGIN ATOMIC SIGNAL 'x'; DELETE FROM p; END;
  pub second_action_after :
      least schema (trigger_of r time.After event.Insert t [] granularity.Statement None (action.Signal (codes "x") ∷ action.Delete (delete_of p None) ∷ []))
      ≡ None
  -- CREATE TRIGGER r BEFORE UPDATE ON t REFERENCING OLD AS o NEW AS n FOR EACH ROW SET o.a = n.a;
  pub set_of_the_old_row :
      least schema (trigger_of r time.Before event.Update t (item Old what.Row o ∷ item New what.Row n ∷ []) granularity.Row None (action.Set o a (of_range n a) ∷ [])) ≡ Some SchemaFault
  -- CREATE TRIGGER r BEFORE UPDATE ON t REFERENCING OLD AS o NEW AS n FOR EACH ROW SET n.a = o.a;
  pub set_by_the_old_row :
      least schema (trigger_of r time.Before event.Update t (item Old what.Row o ∷ item New what.Row n ∷ []) granularity.Row None (action.Set n a (of_range o a) ∷ [])) ≡ None
