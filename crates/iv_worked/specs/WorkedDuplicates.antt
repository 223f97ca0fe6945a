-- Duplicate: names in use, and names that come twice, each with a statement beside it that misses this by one name.
use Rattle.std.specs.Prelude.{◌≡◌, [], ◌∷◌, codes, Some, None}
use Rattle.iv_worked.specs.Words.side.{Old, New}
use Rattle.iv_worked.specs.Words.type
use Rattle.iv_worked.specs.Words.column_rule
use Rattle.iv_worked.specs.Words.table_rule
use Rattle.iv_worked.specs.Words.nulls.{Distinct}
use Rattle.iv_worked.specs.Words.mode
use Rattle.iv_worked.specs.Words.constraints
use Rattle.iv_worked.specs.Words.given
use Rattle.iv_worked.specs.Words.select_list as list
use Rattle.iv_worked.specs.Words.source
use Rattle.iv_worked.specs.Words.insert
use Rattle.iv_worked.specs.Words.select
use Rattle.iv_worked.specs.Words.statement
use Rattle.iv_worked.specs.Words.expression
use Rattle.iv_worked.specs.Words.time
use Rattle.iv_worked.specs.Words.event
use Rattle.iv_worked.specs.Words.granularity
use Rattle.iv_worked.specs.Words.transition as what
use Rattle.iv_worked.specs.Words.action
use Rattle.iv_worked.specs.Words.cause.{Duplicate}
use Rattle.iv_resolution.specs.Resolution.{least}
use Rattle.iv_resolution.specs.Worked.{a, b, t, column, one, text, from, any_time, item, insert_into, defined, constrained, named, create, to_table}
use Rattle.iv_worked.specs.Words.{d, n, o, q, r, s, v, x, y, schema, sets, update_of, refers, in_column, column_of, constraint, trigger_of}

pub record WorkedDuplicates : Type 0 where
  -- ---- CREATE TABLE: tables, triggers and constraints have names of their own kind
  -- CREATE TABLE w (a INT);
  pub table_not_in_use : least schema (create (defined a type.Integer None [] ∷ [])) ≡ None
  -- CREATE TABLE s (a INT);
  pub table_called_as_a_trigger : least schema (statement.CreateTable s (defined a type.Integer None [] ∷ [])) ≡ None
  -- CREATE TABLE p_c1 (a INT);
  pub table_called_as_a_constraint : least schema (statement.CreateTable (codes "P_C1") (defined a type.Integer None [] ∷ [])) ≡ None
  -- CREATE TABLE w (a INT, b INT);
  pub two_columns : least schema (create (defined a type.Integer None [] ∷ defined b type.Integer None [] ∷ [])) ≡ None
  -- CREATE TABLE w (a INT, b INT, a INT);
  pub last_column_again :
      least schema (create (defined a type.Integer None [] ∷ defined b type.Integer None [] ∷ defined a type.Integer None [] ∷ [])) ≡ Some Duplicate
  -- CREATE TABLE w (a INT CONSTRAINT p_c1 UNIQUE);
  pub given_name_in_use :
      least schema (create (column_of a type.Integer None (in_column (Some (codes "P_C1")) (column_rule.Unique Distinct) any_time ∷ []) ∷ [])) ≡ Some Duplicate
  -- CREATE TABLE w (a INT CONSTRAINT p_c2 UNIQUE);
  pub given_name_not_in_use : least schema
      (create (column_of a type.Integer None (in_column (Some (codes "P_C2")) (column_rule.Unique Distinct) any_time ∷ []) ∷ [])) ≡ None
  -- CREATE TABLE w (a INT, CONSTRAINT t UNIQUE (a));
  pub constraint_called_as_a_table : least schema (create (defined a type.Integer None [] ∷ named t (table_rule.Unique Distinct (a ∷ [])) ∷ [])) ≡ None
  -- CREATE TABLE v (a INT NOT NULL);
  pub generated_name_in_use : least schema (statement.CreateTable v (defined a type.Integer None (column_rule.NotNull ∷ []) ∷ [])) ≡ Some Duplicate
  -- CREATE TABLE v (a INT CONSTRAINT x NOT NULL UNIQUE);
  pub generated_name_at_the_next_place :
      least schema (statement.CreateTable v (column_of a type.Integer None (in_column (Some x) column_rule.NotNull any_time ∷ in_column None (column_rule.Unique Distinct) any_time ∷ []) ∷ [])) ≡ None
  -- CREATE TABLE w (a INT CONSTRAINT x NOT NULL CONSTRAINT x UNIQUE);
  pub one_name_given_twice :
      least schema (create (column_of a type.Integer None (in_column (Some x) column_rule.NotNull any_time ∷ in_column (Some x) (column_rule.Unique Distinct) any_time ∷ []) ∷ [])) ≡ Some Duplicate
  -- CREATE TABLE w (a INT CONSTRAINT x NOT NULL CONSTRAINT y UNIQUE);
  pub two_names_given :
      least schema (create (column_of a type.Integer None (in_column (Some x) column_rule.NotNull any_time ∷ in_column (Some y) (column_rule.Unique Distinct) any_time ∷ []) ∷ [])) ≡ None
  -- CREATE TABLE w (a INT CONSTRAINT w_c2 NOT NULL UNIQUE);
  pub given_name_is_generated_later :
      least schema (create (column_of a type.Integer None (in_column (Some (codes "W_C2")) column_rule.NotNull any_time ∷ in_column None (column_rule.Unique Distinct) any_time ∷ []) ∷ [])) ≡ Some Duplicate
  -- CREATE TABLE w (a INT CONSTRAINT w_c1 NOT NULL UNIQUE);
  pub given_name_is_of_its_own_place :
      least schema (create (column_of a type.Integer None (in_column (Some (codes "W_C1")) column_rule.NotNull any_time ∷ in_column None (column_rule.Unique Distinct) any_time ∷ []) ∷ [])) ≡ None
  -- CREATE TABLE w (a INT NOT NULL CONSTRAINT w_c1 UNIQUE);
  pub given_name_was_generated :
      least schema (create (column_of a type.Integer None (in_column None column_rule.NotNull any_time ∷ in_column (Some (codes "W_C1")) (column_rule.Unique Distinct) any_time ∷ []) ∷ [])) ≡ Some Duplicate
  -- CREATE TABLE w (a INT, b INT, UNIQUE (a, b));
  pub unique_of_two_columns :
      least schema (create (defined a type.Integer None [] ∷ defined b type.Integer None [] ∷ constrained (table_rule.Unique Distinct (a ∷ b ∷ [])) ∷ []))
      ≡ None
  -- CREATE TABLE w (a INT UNIQUE, UNIQUE (a));
  pub column_in_two_keys : least schema
      (create (defined a type.Integer None ((column_rule.Unique Distinct) ∷ []) ∷ constrained (table_rule.Unique Distinct (a ∷ [])) ∷ [])) ≡ None
  -- CREATE TABLE w (a INT, PRIMARY KEY (a, a));
  pub primary_key_column_twice : least schema (create (defined a type.Integer None [] ∷ constrained (table_rule.PrimaryKey (a ∷ a ∷ [])) ∷ [])) ≡ Some Duplicate
  -- CREATE TABLE w (a INT, b INT, PRIMARY KEY (a, b));
  pub primary_key_of_two_columns :
      least schema (create (defined a type.Integer None [] ∷ defined b type.Integer None [] ∷ constrained (table_rule.PrimaryKey (a ∷ b ∷ [])) ∷ [])) ≡ None
  -- CREATE TABLE w (a INT, FOREIGN KEY (a, a) REFERENCES q);
  pub referencing_column_twice :
      least schema (create (defined a type.Integer None [] ∷ constrained (table_rule.ForeignKey (a ∷ a ∷ []) (to_table q)) ∷ [])) ≡ Some Duplicate
  -- CREATE TABLE w (a INT, b VARCHAR(2), FOREIGN KEY (a, b) REFERENCES q);
  pub referencing_columns :
      least schema (create (defined a type.Integer None [] ∷ defined b (type.Varchar 2) None [] ∷ constrained (table_rule.ForeignKey (a ∷ b ∷ []) (to_table q)) ∷ [])) ≡ None
  -- CREATE TABLE w (a INT, b VARCHAR(2), FOREIGN KEY (a, b) REFERENCES q (a, a));
  pub referenced_column_twice :
      least schema (create (defined a type.Integer None [] ∷ defined b (type.Varchar 2) None [] ∷ constrained (table_rule.ForeignKey (a ∷ b ∷ []) (refers q (Some (a ∷ a ∷ [])))) ∷ [])) ≡ Some Duplicate
  -- CREATE TABLE w (a INT, b VARCHAR(2), FOREIGN KEY (a, b) REFERENCES q (a, b));
  pub referenced_columns :
      least schema (create (defined a type.Integer None [] ∷ defined b (type.Varchar 2) None [] ∷ constrained (table_rule.ForeignKey (a ∷ b ∷ []) (refers q (Some (a ∷ b ∷ [])))) ∷ [])) ≡ None
  -- ---- ALTER TABLE
  -- ALTER TABLE t ADD CONSTRAINT p_c2 UNIQUE (a);
  pub added_name_not_in_use : least schema (statement.AlterTable t (constraint (Some (codes "P_C2")) (table_rule.Unique Distinct (a ∷ [])) any_time)) ≡ None
  -- ALTER TABLE d ADD UNIQUE (a);
  pub added_name_is_generated_in_use : least schema (statement.AlterTable d (constraint None (table_rule.Unique Distinct (a ∷ [])) any_time)) ≡ Some Duplicate
  -- ALTER TABLE d ADD CONSTRAINT d_c4 UNIQUE (a);
  pub added_name_is_given_instead : least schema (statement.AlterTable d (constraint (Some (codes "D_C4")) (table_rule.Unique Distinct (a ∷ [])) any_time))
      ≡ None
  -- ALTER TABLE q ADD CONSTRAINT q_c3 UNIQUE (a);
  pub added_name_is_generated_for_its_place : least schema
      (statement.AlterTable q (constraint (Some (codes "Q_C3")) (table_rule.Unique Distinct (a ∷ [])) any_time)) ≡ None
  -- ALTER TABLE t ADD UNIQUE (a, a);
  pub added_unique_column_twice : least schema (statement.AlterTable t (constraint None (table_rule.Unique Distinct (a ∷ a ∷ [])) any_time)) ≡ Some Duplicate
  -- ALTER TABLE t ADD UNIQUE (a, b);
  pub added_unique_of_two_columns : least schema (statement.AlterTable t (constraint None (table_rule.Unique Distinct (a ∷ b ∷ [])) any_time)) ≡ None
  -- ALTER TABLE t ADD PRIMARY KEY (a, a);
  pub added_primary_key_column_twice : least schema (statement.AlterTable t (constraint None (table_rule.PrimaryKey (a ∷ a ∷ [])) any_time)) ≡ Some Duplicate
  -- ALTER TABLE t ADD PRIMARY KEY (a, b);
  pub added_primary_key_of_two_columns : least schema (statement.AlterTable t (constraint None (table_rule.PrimaryKey (a ∷ b ∷ [])) any_time)) ≡ None
  -- ALTER TABLE t ADD FOREIGN KEY (a, a) REFERENCES q;
  pub added_referencing_column_twice :
      least schema (statement.AlterTable t (constraint None (table_rule.ForeignKey (a ∷ a ∷ []) (to_table q)) any_time)) ≡ Some Duplicate
  -- ALTER TABLE t ADD FOREIGN KEY (a, b) REFERENCES q;
  pub added_referencing_columns : least schema (statement.AlterTable t (constraint None (table_rule.ForeignKey (a ∷ b ∷ []) (to_table q)) any_time)) ≡ None
  -- ALTER TABLE t ADD FOREIGN KEY (a, b) REFERENCES q (a, a);
  pub added_referenced_column_twice :
      least schema (statement.AlterTable t (constraint None (table_rule.ForeignKey (a ∷ b ∷ []) (refers q (Some (a ∷ a ∷ [])))) any_time)) ≡ Some Duplicate
  -- ALTER TABLE t ADD FOREIGN KEY (a, b) REFERENCES q (a, b);
  pub added_referenced_columns :
      least schema (statement.AlterTable t (constraint None (table_rule.ForeignKey (a ∷ b ∷ []) (refers q (Some (a ∷ b ∷ [])))) any_time)) ≡ None
  -- ---- CREATE TRIGGER
  -- CREATE TRIGGER s AFTER INSERT ON t SIGNAL 'x';
  pub trigger_in_use : least schema (trigger_of s time.After event.Insert t [] granularity.Statement None (action.Signal (codes "x") ∷ [])) ≡ Some Duplicate
  -- CREATE TRIGGER r AFTER INSERT ON t SIGNAL 'x';
  pub trigger_not_in_use : least schema (trigger_of r time.After event.Insert t [] granularity.Statement None (action.Signal (codes "x") ∷ [])) ≡ None
  -- CREATE TRIGGER t AFTER INSERT ON t SIGNAL 'x';
  pub trigger_called_as_a_table : least schema (trigger_of t time.After event.Insert t [] granularity.Statement None (action.Signal (codes "x") ∷ [])) ≡ None
  -- CREATE TRIGGER r AFTER UPDATE ON t REFERENCING OLD AS n NEW AS n FOR EACH ROW SIGNAL 'x';
  pub one_name_for_both_rows :
      least schema (trigger_of r time.After event.Update t (item Old what.Row n ∷ item New what.Row n ∷ []) granularity.Row None (action.Signal (codes "x") ∷ [])) ≡ Some Duplicate
  -- CREATE TRIGGER r AFTER UPDATE ON t REFERENCING OLD AS o NEW AS n FOR EACH ROW SIGNAL 'x';
  pub two_names_for_both_rows :
      least schema (trigger_of r time.After event.Update t (item Old what.Row o ∷ item New what.Row n ∷ []) granularity.Row None (action.Signal (codes "x") ∷ [])) ≡ None
  -- CREATE TRIGGER r AFTER UPDATE ON t REFERENCING NEW ROW AS n NEW TABLE AS n FOR EACH ROW SIGNAL 'x';
  pub one_name_for_row_and_table :
      least schema (trigger_of r time.After event.Update t (item New what.Row n ∷ item New what.Table n ∷ []) granularity.Row None (action.Signal (codes "x") ∷ [])) ≡ Some Duplicate
  -- CREATE TRIGGER r AFTER UPDATE ON t REFERENCING NEW ROW AS n NEW TABLE AS x FOR EACH ROW SIGNAL 'x';
  pub two_names_for_row_and_table :
      least schema (trigger_of r time.After event.Update t (item New what.Row n ∷ item New what.Table x ∷ []) granularity.Row None (action.Signal (codes "x") ∷ [])) ≡ None
  -- CREATE TRIGGER r AFTER INSERT ON t INSERT INTO t (a, a) VALUES (1, 1);
  pub triggered_insert_of_a_column_twice :
      least schema (trigger_of r time.After event.Insert t [] granularity.Statement None (action.Insert (insert.Rows t (Some (a ∷ a ∷ [])) (source.Values ((given.Value one ∷ given.Value one ∷ []) ∷ []))) ∷ [])) ≡ Some Duplicate
  -- CREATE TRIGGER r AFTER INSERT ON t INSERT INTO t (a, b) VALUES (1, 'x');
  pub triggered_insert_of_two_columns :
      least schema (trigger_of r time.After event.Insert t [] granularity.Statement None (action.Insert (insert.Rows t (Some (a ∷ b ∷ [])) (source.Values ((given.Value one ∷ given.Value text ∷ []) ∷ []))) ∷ [])) ≡ None
  -- CREATE TRIGGER r AFTER INSERT ON t UPDATE t SET a = 1, a = 1;
  pub triggered_update_of_a_column_twice :
      least schema (trigger_of r time.After event.Insert t [] granularity.Statement None (action.Update (update_of t (sets a (given.Value one) ∷ sets a (given.Value one) ∷ []) None) ∷ [])) ≡ Some Duplicate
  -- CREATE TRIGGER r AFTER INSERT ON t UPDATE t SET a = 1, b = 'x';
  pub triggered_update_of_two_columns :
      least schema (trigger_of r time.After event.Insert t [] granularity.Statement None (action.Update (update_of t (sets a (given.Value one) ∷ sets b (given.Value text) ∷ []) None) ∷ [])) ≡ None
  -- CREATE TRIGGER r BEFORE INSERT ON t REFERENCING NEW AS n FOR EACH ROW BEGIN ATOMIC SET n.a = 1; SET n.a = 2; END;
  pub two_sets_of_one_column :
      least schema (trigger_of r time.Before event.Insert t (item New what.Row n ∷ []) granularity.Row None (action.Set n a one ∷ action.Set n a (expression.Number 2) ∷ [])) ≡ None
  -- ---- INSERT, UPDATE and where a name may come twice
  -- INSERT INTO t (a, b) VALUES (1, 'x');
  pub insert_of_two_columns : least schema (insert_into t (Some (a ∷ b ∷ [])) (one ∷ text ∷ [])) ≡ None
  -- INSERT INTO t (a, a) SELECT a, a FROM t;
  pub insert_from_a_query_of_a_column_twice :
      least schema (statement.Insert (insert.Rows t (Some (a ∷ a ∷ [])) (source.Select (list.Values (column a ∷ column a ∷ [])) (from t) None)))
      ≡ Some Duplicate
  -- INSERT INTO t (b, a) SELECT b, a FROM t;
  pub insert_from_a_query_of_two_columns :
      least schema (statement.Insert (insert.Rows t (Some (b ∷ a ∷ [])) (source.Select (list.Values (column b ∷ column a ∷ [])) (from t) None))) ≡ None
  -- UPDATE t SET a = 1, a = 2;
  pub update_of_a_column_twice :
      least schema (statement.Update (update_of t (sets a (given.Value one) ∷ sets a (given.Value (expression.Number 2)) ∷ []) None)) ≡ Some Duplicate
  -- UPDATE t SET a = 1, b = 'x';
  pub update_of_two_columns : least schema (statement.Update (update_of t (sets a (given.Value one) ∷ sets b (given.Value text) ∷ []) None)) ≡ None
  -- SELECT a, a FROM t;
  pub selected_column_twice : least schema (statement.Select (select.Rows (list.Values (column a ∷ column a ∷ [])) (from t) None)) ≡ None
  -- SET CONSTRAINTS p_c1, p_c1 DEFERRED;
  pub constraint_set_twice : least schema (statement.SetConstraints (constraints.Named (codes "P_C1" ∷ codes "P_C1" ∷ [])) mode.Deferred) ≡ None
