-- Statements that deserve two causes: the least is answered. A caller of the library may build 9223372036854775808, which no text is.
use Rattle.std.specs.Prelude.{◌≡◌, false, [], ◌∷◌, codes, Some, None}
use Rattle.iv_worked.specs.Words.comparison.{Equal}
use Rattle.iv_worked.specs.Words.side.{Old}
use Rattle.iv_worked.specs.Words.type
use Rattle.iv_worked.specs.Words.column_rule
use Rattle.iv_worked.specs.Words.table_rule
use Rattle.iv_worked.specs.Words.nulls.{Distinct}
use Rattle.iv_worked.specs.Words.literal
use Rattle.iv_worked.specs.Words.mode
use Rattle.iv_worked.specs.Words.given
use Rattle.iv_worked.specs.Words.source
use Rattle.iv_worked.specs.Words.insert
use Rattle.iv_worked.specs.Words.statement
use Rattle.iv_worked.specs.Words.expression
use Rattle.iv_worked.specs.Words.condition
use Rattle.iv_worked.specs.Words.time
use Rattle.iv_worked.specs.Words.event
use Rattle.iv_worked.specs.Words.granularity
use Rattle.iv_worked.specs.Words.transition as what
use Rattle.iv_worked.specs.Words.action
use Rattle.iv_worked.specs.Words.cause.{Unknown, Duplicate, SchemaFault, WrongShape, Limit}
use Rattle.iv_syntax.specs.Trees.{both, exists_where}
use Rattle.iv_resolution.specs.Resolution.{least}
use Rattle.iv_resolution.specs.Worked.{a, b, k, p, t, w, z, column, one, text, from, any_time, item, insert_into, select_of, delete_where, defined}
use Rattle.iv_resolution.specs.Worked.{constrained, create, to_table}
use Rattle.iv_worked.specs.Words.{n, o, r, s, schema, sets, update_of, checked, constraint, trigger_of}

pub record WorkedOrder : Type 0 where
  -- ---- CREATE TABLE
  -- CREATE TABLE t (a INT REFERENCES n);
  pub table_in_use_that_refers_to_nothing :
      least schema (statement.CreateTable t (defined a type.Integer None (column_rule.References (to_table n) ∷ []) ∷ [])) ≡ Some Unknown
  -- CREATE TABLE w (a INT, CHECK (EXISTS (SELECT * FROM t) AND z = 1));
  pub check_of_nothing_with_exists :
      least schema (create (defined a type.Integer None [] ∷ constrained (table_rule.Check (both (condition.Exists (from t)) (condition.Compare Equal (column z) one))) ∷ [])) ≡ Some Unknown
  -- CREATE TABLE w (a INT, CHECK (a = 'x' AND z = 1));
  pub check_of_nothing_with_a_clash :
      least schema (create (defined a type.Integer None [] ∷ constrained (table_rule.Check (both (condition.Compare Equal (column a) text) (condition.Compare Equal (column z) one))) ∷ [])) ≡ Some Unknown
  -- CREATE TABLE w (a VARCHAR(4097) REFERENCES n);
  pub long_text_that_refers_to_nothing : least schema (create (defined a (type.Varchar 4097) None (column_rule.References (to_table n) ∷ []) ∷ []))
      ≡ Some Unknown
  -- CREATE TABLE t (CHECK (1 = 1));
  pub table_in_use_without_columns : least schema (statement.CreateTable t (constrained (table_rule.Check (condition.Compare Equal one one)) ∷ []))
      ≡ Some Duplicate
  -- CREATE TABLE t (a INT, CHECK (a = 'x'));
  pub table_in_use_with_a_clash :
      least schema (statement.CreateTable t (defined a type.Integer None [] ∷ constrained (table_rule.Check (condition.Compare Equal (column a) text)) ∷ []))
      ≡ Some Duplicate
  -- CREATE TABLE t (a VARCHAR(4097));
  pub table_in_use_with_a_long_text : least schema (statement.CreateTable t (defined a (type.Varchar 4097) None [] ∷ [])) ≡ Some Duplicate
  -- CREATE TABLE w (a INT, CHECK (EXISTS (SELECT * FROM t WHERE a = 'x')));
  pub exists_with_a_clash :
      least schema (create (defined a type.Integer None [] ∷ constrained (table_rule.Check (exists_where (from t) (condition.Compare Equal (column a) text))) ∷ [])) ≡ Some SchemaFault
  -- CREATE TABLE w (a VARCHAR(0) DEFAULT 'a');
  pub default_that_no_text_of_no_character_is : least schema (create (defined a (type.Varchar 0) (Some (literal.Text (codes "a"))) [] ∷ [])) ≡ Some SchemaFault
  -- CREATE TABLE w (a VARCHAR(0) DEFAULT '');
  pub default_that_a_text_of_no_character_is : least schema (create (defined a (type.Varchar 0) (Some (literal.Text (codes ""))) [] ∷ [])) ≡ Some Limit
  -- CREATE TABLE w (a VARCHAR(4097), CHECK (a = 1));
  pub clash_with_a_long_text :
      least schema (create (defined a (type.Varchar 4097) None [] ∷ constrained (table_rule.Check (condition.Compare Equal (column a) one)) ∷ []))
      ≡ Some WrongShape
  -- CREATE TABLE t (a VARCHAR(4097) DEFAULT 1, CHECK (a = 1), CHECK (z = 1));
  pub all_five :
      least schema (statement.CreateTable t (defined a (type.Varchar 4097) (Some (literal.Number None 1)) [] ∷ constrained (table_rule.Check (condition.Compare Equal (column a) one)) ∷ constrained (table_rule.Check (condition.Compare Equal (column z) one)) ∷ [])) ≡ Some Unknown
  -- ---- ALTER TABLE
  -- ALTER TABLE t ADD CONSTRAINT p_c1 UNIQUE (z);
  pub constraint_in_use_of_nothing : least schema (statement.AlterTable t (constraint (Some (codes "P_C1")) (table_rule.Unique Distinct (z ∷ [])) any_time))
      ≡ Some Unknown
  -- ALTER TABLE w ADD CONSTRAINT p_c1 UNIQUE (a, a);
  pub constraint_in_use_of_no_table :
      least schema (statement.AlterTable w (constraint (Some (codes "P_C1")) (table_rule.Unique Distinct (a ∷ a ∷ [])) any_time)) ≡ Some Unknown
  -- ALTER TABLE t ADD CONSTRAINT p_c1 CHECK (EXISTS (SELECT * FROM p));
  pub constraint_in_use_with_exists :
      least schema (statement.AlterTable t (constraint (Some (codes "P_C1")) (table_rule.Check (condition.Exists (from p))) any_time)) ≡ Some Duplicate
  -- ALTER TABLE t ADD CONSTRAINT p_c1 CHECK (a = 'x');
  pub constraint_in_use_with_a_clash :
      least schema (statement.AlterTable t (constraint (Some (codes "P_C1")) (table_rule.Check (condition.Compare Equal (column a) text)) any_time))
      ≡ Some Duplicate
  -- ALTER TABLE p ADD PRIMARY KEY (z);
  pub second_primary_key_of_nothing : least schema (statement.AlterTable p (constraint None (table_rule.PrimaryKey (z ∷ [])) any_time)) ≡ Some Unknown
  -- ALTER TABLE p ADD PRIMARY KEY (k, k);
  pub second_primary_key_of_a_column_twice : least schema (statement.AlterTable p (constraint None (table_rule.PrimaryKey (k ∷ k ∷ [])) any_time))
      ≡ Some Duplicate
  -- ALTER TABLE t ADD CHECK (a = 'x') NOT DEFERRABLE INITIALLY DEFERRED;
  pub deferred_clash_not_deferrable :
      least schema (statement.AlterTable t (constraint None (table_rule.Check (condition.Compare Equal (column a) text)) (checked (Some false) (Some mode.Deferred)))) ≡ Some SchemaFault
  -- ---- CREATE TRIGGER
  -- CREATE TRIGGER s AFTER INSERT ON w SIGNAL 'x';
  pub trigger_in_use_on_nothing :
      least schema (trigger_of s time.After event.Insert w [] granularity.Statement None (action.Signal (codes "x") ∷ [])) ≡ Some Unknown
  -- CREATE TRIGGER r BEFORE INSERT ON t INSERT INTO w VALUES (1);
  pub insert_into_nothing_before :
      least schema (trigger_of r time.Before event.Insert t [] granularity.Statement None (action.Insert (insert.Rows w None (source.Values ((given.Value one ∷ []) ∷ []))) ∷ [])) ≡ Some Unknown
  -- CREATE TRIGGER r BEFORE INSERT ON t INSERT INTO t (a, a) VALUES (1, 1);
  pub insert_of_a_column_twice_before :
      least schema (trigger_of r time.Before event.Insert t [] granularity.Statement None (action.Insert (insert.Rows t (Some (a ∷ a ∷ [])) (source.Values ((given.Value one ∷ given.Value one ∷ []) ∷ []))) ∷ [])) ≡ Some Duplicate
  -- CREATE TRIGGER r AFTER UPDATE ON t REFERENCING OLD AS o OLD AS o FOR EACH ROW SIGNAL 'x';
  pub one_name_for_the_old_row_twice :
      least schema (trigger_of r time.After event.Update t (item Old what.Row o ∷ item Old what.Row o ∷ []) granularity.Row None (action.Signal (codes "x") ∷ [])) ≡ Some Duplicate
  -- CREATE TRIGGER s AFTER INSERT ON t UPDATE p SET k = 'x';
  pub trigger_in_use_with_a_clash :
      least schema (trigger_of s time.After event.Insert t [] granularity.Statement None (action.Update (update_of p (sets k (given.Value text) ∷ []) None) ∷ [])) ≡ Some Duplicate
  -- CREATE TRIGGER r BEFORE INSERT ON t UPDATE p SET k = 'x';
  pub clash_before :
      least schema (trigger_of r time.Before event.Insert t [] granularity.Statement None (action.Update (update_of p (sets k (given.Value text) ∷ []) None) ∷ [])) ≡ Some SchemaFault
  -- CREATE TRIGGER r BEFORE UPDATE ON t REFERENCING OLD AS o FOR EACH ROW SET o.z = 1;
  pub set_of_no_column_of_the_old_row :
      least schema (trigger_of r time.Before event.Update t (item Old what.Row o ∷ []) granularity.Row None (action.Set o z one ∷ [])) ≡ Some Unknown
  -- ---- INSERT, UPDATE, DELETE and SELECT
  -- INSERT INTO t (a, a, z) VALUES (1, 1, 1);
  pub column_twice_and_nothing : least schema (insert_into t (Some (a ∷ a ∷ z ∷ [])) (one ∷ one ∷ one ∷ [])) ≡ Some Unknown
  -- INSERT INTO t (a, a) VALUES (1);
  pub column_twice_for_one_value : least schema (insert_into t (Some (a ∷ a ∷ [])) (one ∷ [])) ≡ Some Duplicate
  -- INSERT INTO t VALUES (z);
  pub too_few_values_of_nothing : least schema (insert_into t None (column z ∷ [])) ≡ Some Unknown
  -- INSERT INTO t VALUES (9223372036854775808);
  pub too_few_values_beyond_integers : least schema (insert_into t None (expression.Number 9223372036854775808 ∷ [])) ≡ Some WrongShape
  -- UPDATE t SET a = 1, a = 1, z = 1;
  pub update_of_a_column_twice_and_of_nothing :
      least schema (statement.Update (update_of t (sets a (given.Value one) ∷ sets a (given.Value one) ∷ sets z (given.Value one) ∷ []) None)) ≡ Some Unknown
  -- UPDATE t SET a = 'x', a = 1;
  pub update_of_a_column_twice_to_a_text :
      least schema (statement.Update (update_of t (sets a (given.Value text) ∷ sets a (given.Value one) ∷ []) None)) ≡ Some Duplicate
  -- UPDATE t SET a = 9223372036854775808, a = 1;
  pub update_of_a_column_twice_beyond_integers :
      least schema (statement.Update (update_of t (sets a (given.Value (expression.Number 9223372036854775808)) ∷ sets a (given.Value one) ∷ []) None))
      ≡ Some Duplicate
  -- UPDATE t SET b = 9223372036854775808;
  pub update_of_a_text_beyond_integers :
      least schema (statement.Update (update_of t (sets b (given.Value (expression.Number 9223372036854775808)) ∷ []) None)) ≡ Some WrongShape
  -- DELETE FROM t WHERE a = 'x' AND z = 1;
  pub clash_where_nothing : least schema (delete_where t (both (condition.Compare Equal (column a) text) (condition.Compare Equal (column z) one)))
      ≡ Some Unknown
  -- DELETE FROM t WHERE b = 9223372036854775808;
  pub clash_beyond_integers : least schema (delete_where t (condition.Compare Equal (column b) (expression.Number 9223372036854775808))) ≡ Some WrongShape
  -- SELECT z FROM t WHERE a = 9223372036854775808;
  pub nothing_beyond_integers :
      least schema (select_of (column z) (from t) (Some (condition.Compare Equal (column a) (expression.Number 9223372036854775808)))) ≡ Some Unknown
  -- SELECT a FROM t WHERE a = 9223372036854775808;
  pub column_beyond_integers :
      least schema (select_of (column a) (from t) (Some (condition.Compare Equal (column a) (expression.Number 9223372036854775808)))) ≡ Some Limit
