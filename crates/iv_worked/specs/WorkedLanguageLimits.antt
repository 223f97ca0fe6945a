-- Limit: one more than there may be, with as many as there may be beside it; and statements that no text of the language is, which a
-- caller of the library may build.
use Rattle.std.specs.Prelude.{◌≡◌, [], ◌∷◌, codes, Some, None}
use Rattle.iv_worked.specs.Words.comparison.{Equal}
use Rattle.iv_worked.specs.Words.side.{New}
use Rattle.iv_worked.specs.Words.type
use Rattle.iv_worked.specs.Words.column_rule
use Rattle.iv_worked.specs.Words.table_rule
use Rattle.iv_worked.specs.Words.nulls.{Distinct}
use Rattle.iv_worked.specs.Words.literal
use Rattle.iv_worked.specs.Words.mode
use Rattle.iv_worked.specs.Words.constraints
use Rattle.iv_worked.specs.Words.given
use Rattle.iv_worked.specs.Words.select_list as list
use Rattle.iv_worked.specs.Words.source
use Rattle.iv_worked.specs.Words.insert
use Rattle.iv_worked.specs.Words.select
use Rattle.iv_worked.specs.Words.statement
use Rattle.iv_worked.specs.Words.expression
use Rattle.iv_worked.specs.Words.condition
use Rattle.iv_worked.specs.Words.time
use Rattle.iv_worked.specs.Words.event
use Rattle.iv_worked.specs.Words.granularity
use Rattle.iv_worked.specs.Words.transition as what
use Rattle.iv_worked.specs.Words.action
use Rattle.iv_worked.specs.Words.sign.{Plus, Minus}
use Rattle.iv_worked.specs.Words.cause.{Limit}
use Rattle.iv_syntax.specs.Trees.{group, signed, product, sum, enclosed, negated, both, either, exists_where}
use Rattle.iv_resolution.specs.Resolution.{least}
use Rattle.iv_resolution.specs.Worked.{a, k, p, t, column, one, from, called, any_time, item, insert_into, select_of, delete_where, defined, constrained}
use Rattle.iv_resolution.specs.Worked.{named, create}
use Rattle.iv_worked.specs.Words.{n, r, schema, sets, update_of, delete_of, in_column, column_of, constraint, trigger_of}
use Rattle.iv_worked.specs.Many.{numbered, columns, long_name, enclosed_by, grouped_by, with_tables, with_constraints, with_triggers, wide}
use Rattle.iv_worked.specs.Many.{first_digit, not_nulls, signals}

pub record WorkedLanguageLimits : Type 0 where
  -- ---- tables, columns, constraints and keys
  -- CREATE TABLE w (a INT); after 64 tables
  pub table_65 : least (with_tables 64) (create (defined a type.Integer None [] ∷ [])) ≡ Some Limit
  -- CREATE TABLE w (a INT); after 63 tables
  pub table_64 : least (with_tables 63) (create (defined a type.Integer None [] ∷ [])) ≡ None
  -- CREATE TABLE w (.. 33 columns ..);
  pub columns_33 : least schema (create (columns 33)) ≡ Some Limit
  -- CREATE TABLE w (.. 32 columns ..);
  pub columns_32 : least schema (create (columns 32)) ≡ None
  -- CREATE TABLE w (a INT .. 65 times NOT NULL ..);
  pub constraints_65 : least schema (create (defined a type.Integer None (not_nulls 65) ∷ [])) ≡ Some Limit
  -- CREATE TABLE w (a INT .. 64 times NOT NULL ..);
  pub constraints_64 : least schema (create (defined a type.Integer None (not_nulls 64) ∷ [])) ≡ None
  -- CREATE TABLE w (a VARCHAR(1));
  pub text_of_one_character : least schema (create (defined a (type.Varchar 1) None [] ∷ [])) ≡ None
  -- CREATE TABLE w (.. 9 columns .., UNIQUE (.. the 9 ..));
  pub unique_of_9_columns : least schema (create (constrained (table_rule.Unique Distinct (numbered 9)) ∷ columns 9)) ≡ Some Limit
  -- CREATE TABLE w (.. 9 columns .., UNIQUE (.. 8 of them ..));
  pub unique_of_8_columns : least schema (create (constrained (table_rule.Unique Distinct (numbered 8)) ∷ columns 9)) ≡ None
  -- CREATE TABLE w (.. 9 columns .., PRIMARY KEY (.. the 9 ..));
  pub primary_key_of_9_columns : least schema (create (constrained (table_rule.PrimaryKey (numbered 9)) ∷ columns 9)) ≡ Some Limit
  -- CREATE TABLE w (.. 9 columns .., PRIMARY KEY (.. 8 of them ..));
  pub primary_key_of_8_columns : least schema (create (constrained (table_rule.PrimaryKey (numbered 8)) ∷ columns 9)) ≡ None
  -- ALTER TABLE t ADD CHECK (1 = 1); after 64 constraints of t
  pub added_constraint_65 :
      least (with_constraints 64) (statement.AlterTable t (constraint None (table_rule.Check (condition.Compare Equal one one)) any_time)) ≡ Some Limit
  -- ALTER TABLE t ADD CHECK (1 = 1); after 63 constraints of t
  pub added_constraint_64 :
      least (with_constraints 63) (statement.AlterTable t (constraint None (table_rule.Check (condition.Compare Equal one one)) any_time)) ≡ None
  -- ALTER TABLE p ADD CHECK (1 = 1); after 64 constraints of t
  pub added_constraint_of_another_table :
      least (with_constraints 64) (statement.AlterTable p (constraint None (table_rule.Check (condition.Compare Equal one one)) any_time)) ≡ None
  -- ALTER TABLE t ADD UNIQUE (.. 9 columns ..);
  pub added_unique_of_9_columns : least (wide 9) (statement.AlterTable t (constraint None (table_rule.Unique Distinct (numbered 9)) any_time)) ≡ Some Limit
  -- ALTER TABLE t ADD UNIQUE (.. 8 columns ..);
  pub added_unique_of_8_columns : least (wide 9) (statement.AlterTable t (constraint None (table_rule.Unique Distinct (numbered 8)) any_time)) ≡ None
  -- ALTER TABLE t ADD PRIMARY KEY (.. 9 columns ..);
  pub added_primary_key_of_9_columns : least (wide 9) (statement.AlterTable t (constraint None (table_rule.PrimaryKey (numbered 9)) any_time)) ≡ Some Limit
  -- ALTER TABLE t ADD PRIMARY KEY (.. 8 columns ..);
  pub added_primary_key_of_8_columns : least (wide 9) (statement.AlterTable t (constraint None (table_rule.PrimaryKey (numbered 8)) any_time)) ≡ None
  -- ---- triggers
  -- CREATE TRIGGER r AFTER INSERT ON t SIGNAL 'x'; after 256 triggers
  pub trigger_257 : least (with_triggers 256 256) (trigger_of r time.After event.Insert t [] granularity.Statement None (signals 1)) ≡ Some Limit
  -- CREATE TRIGGER r AFTER INSERT ON t SIGNAL 'x'; after 255 triggers
  pub trigger_256 : least (with_triggers 255 255) (trigger_of r time.After event.Insert t [] granularity.Statement None (signals 1)) ≡ None
  -- CREATE TRIGGER r AFTER INSERT ON t SIGNAL 'x'; after 4294967295 that were created
  pub last_trigger_ever_was_created :
      least (with_triggers 1 4294967295) (trigger_of r time.After event.Insert t [] granularity.Statement None (signals 1)) ≡ Some Limit
  -- CREATE TRIGGER r AFTER INSERT ON t SIGNAL 'x'; after 4294967294 that were created
  pub last_trigger_ever : least (with_triggers 1 4294967294) (trigger_of r time.After event.Insert t [] granularity.Statement None (signals 1)) ≡ None
  -- CREATE TRIGGER r AFTER INSERT ON t BEGIN ATOMIC .. 33 times SIGNAL 'x'; .. END;
  pub body_of_33 : least schema (trigger_of r time.After event.Insert t [] granularity.Statement None (signals 33)) ≡ Some Limit
  -- CREATE TRIGGER r AFTER INSERT ON t BEGIN ATOMIC .. 32 times SIGNAL 'x'; .. END;
  pub body_of_32 : least schema (trigger_of r time.After event.Insert t [] granularity.Statement None (signals 32)) ≡ None
  -- CREATE TRIGGER r AFTER INSERT ON t BEGIN ATOMIC END;
  pub body_of_none : least schema (trigger_of r time.After event.Insert t [] granularity.Statement None []) ≡ Some Limit
  -- ---- names
  -- SAVEPOINT .. 129 letters ..;
  pub name_of_129_letters : least schema (statement.Savepoint (long_name 129)) ≡ Some Limit
  -- SAVEPOINT .. 128 letters ..;
  pub name_of_128_letters : least schema (statement.Savepoint (long_name 128)) ≡ None
  -- SAVEPOINT ;
  pub name_of_no_letter : least schema (statement.Savepoint []) ≡ Some Limit
  -- SAVEPOINT 1a;
  pub name_with_a_digit_first : least schema (statement.Savepoint first_digit) ≡ Some Limit
  -- SAVEPOINT a1;
  pub name_with_a_digit_last : least schema (statement.Savepoint (codes "A1")) ≡ None
  -- SAVEPOINT _1;
  pub name_with_an_underscore_first : least schema (statement.Savepoint (codes "_1")) ≡ None
  -- SAVEPOINT az_09;
  pub name_of_the_outermost_letters : least schema (statement.Savepoint (codes "AZ_09")) ≡ None
  -- a savepoint whose name is not folded to upper case
  pub name_in_lower_case : least schema (statement.Savepoint (codes "a")) ≡ Some Limit
  -- a savepoint whose name has a space
  pub name_with_a_space : least schema (statement.Savepoint (codes "A B")) ≡ Some Limit
  -- SAVEPOINT @;
  pub name_before_the_letters : least schema (statement.Savepoint (codes "@")) ≡ Some Limit
  -- SAVEPOINT [;
  pub name_after_the_letters : least schema (statement.Savepoint (codes "[")) ≡ Some Limit
  -- SAVEPOINT a:;
  pub name_after_the_digits : least schema (statement.Savepoint (codes "A:")) ≡ Some Limit
  -- SAVEPOINT é;
  pub name_with_a_letter_of_two_bytes : least schema (statement.Savepoint (codes "é")) ≡ Some Limit
  -- RELEASE SAVEPOINT 1a;
  pub released_name : least schema (statement.Release first_digit) ≡ Some Limit
  -- ROLLBACK TO SAVEPOINT 1a;
  pub name_to_roll_back_to : least schema (statement.RollbackTo first_digit) ≡ Some Limit
  -- CREATE TABLE 1a (a INT);
  pub name_of_a_table : least schema (statement.CreateTable first_digit (defined a type.Integer None [] ∷ [])) ≡ Some Limit
  -- CREATE TABLE w (1a INT);
  pub name_of_a_column : least schema (create (defined first_digit type.Integer None [] ∷ [])) ≡ Some Limit
  -- CREATE TABLE w (a INT, CONSTRAINT 1a UNIQUE (a));
  pub name_of_a_constraint : least schema (create (defined a type.Integer None [] ∷ named first_digit (table_rule.Unique Distinct (a ∷ [])) ∷ [])) ≡ Some Limit
  -- CREATE TABLE w (a INT CONSTRAINT 1a UNIQUE);
  pub name_of_a_constraint_of_a_column :
      least schema (create (column_of a type.Integer None (in_column (Some first_digit) (column_rule.Unique Distinct) any_time ∷ []) ∷ [])) ≡ Some Limit
  -- ALTER TABLE t ADD CONSTRAINT 1a UNIQUE (a);
  pub name_of_an_added_constraint : least schema (statement.AlterTable t (constraint (Some first_digit) (table_rule.Unique Distinct (a ∷ [])) any_time))
      ≡ Some Limit
  -- CREATE TRIGGER 1a AFTER INSERT ON t SIGNAL 'x';
  pub name_of_a_trigger : least schema (trigger_of first_digit time.After event.Insert t [] granularity.Statement None (signals 1)) ≡ Some Limit
  -- CREATE TRIGGER r AFTER INSERT ON t REFERENCING NEW TABLE AS 1a SIGNAL 'x';
  pub name_of_a_transition_table :
      least schema (trigger_of r time.After event.Insert t (item New what.Table first_digit ∷ []) granularity.Statement None (signals 1)) ≡ Some Limit
  -- SELECT a FROM t AS 1a;
  pub name_of_a_range : least schema (select_of (column a) (called t first_digit) None) ≡ Some Limit
  -- SELECT COUNT(*) FROM t AS 1a;
  pub name_of_a_counted_range : least schema (statement.Select (select.Count (called t first_digit) None)) ≡ Some Limit
  -- INSERT INTO t SELECT * FROM t AS 1a;
  pub name_of_a_range_of_an_insert : least schema (statement.Insert (insert.Rows t None (source.Select list.Star (called t first_digit) None))) ≡ Some Limit
  -- DELETE FROM t WHERE EXISTS (SELECT * FROM p AS 1a);
  pub name_of_a_range_in_exists : least schema (delete_where t (condition.Exists (called p first_digit))) ≡ Some Limit
  -- DELETE FROM t WHERE EXISTS (SELECT * FROM p AS 1a WHERE k = 1);
  pub name_of_a_range_in_exists_where : least schema (delete_where t (exists_where (called p first_digit) (condition.Compare Equal (column k) one)))
      ≡ Some Limit
  -- ---- numbers
  -- CREATE TABLE w (a INT DEFAULT 9223372036854775808);
  pub number_of_a_default : least schema (create (defined a type.Integer (Some (literal.Number None 9223372036854775808)) [] ∷ [])) ≡ Some Limit
  -- CREATE TABLE w (a INT DEFAULT 9223372036854775807);
  pub greatest_number_of_a_default : least schema (create (defined a type.Integer (Some (literal.Number None 9223372036854775807)) [] ∷ [])) ≡ None
  -- CREATE TABLE w (a INT DEFAULT -9223372036854775808);
  pub negative_number_of_a_default : least schema (create (defined a type.Integer (Some (literal.Number (Some Minus) 9223372036854775808)) [] ∷ []))
      ≡ Some Limit
  -- DELETE FROM t WHERE a = 9223372036854775807;
  pub greatest_number : least schema (delete_where t (condition.Compare Equal (column a) (expression.Number 9223372036854775807))) ≡ None
  -- DELETE FROM t WHERE 9223372036854775808 = a;
  pub number_on_the_left : least schema (delete_where t (condition.Compare Equal (expression.Number 9223372036854775808) (column a))) ≡ Some Limit
  -- DELETE FROM t WHERE 9223372036854775808 IS NULL;
  pub number_is_null : least schema (delete_where t (condition.IsNull (expression.Number 9223372036854775808))) ≡ Some Limit
  -- DELETE FROM t WHERE 9223372036854775808 IS NOT NULL;
  pub number_is_not_null : least schema (delete_where t (condition.IsNotNull (expression.Number 9223372036854775808))) ≡ Some Limit
  -- DELETE FROM t WHERE EXISTS (SELECT * FROM p WHERE k = 9223372036854775808);
  pub number_in_exists :
      least schema (delete_where t (exists_where (from p) (condition.Compare Equal (column k) (expression.Number 9223372036854775808)))) ≡ Some Limit
  -- DELETE FROM t WHERE (a = 9223372036854775808);
  pub enclosed_number : least schema (delete_where t (enclosed (condition.Compare Equal (column a) (expression.Number 9223372036854775808)))) ≡ Some Limit
  -- DELETE FROM t WHERE NOT a = 9223372036854775808;
  pub negated_number : least schema (delete_where t (negated (condition.Compare Equal (column a) (expression.Number 9223372036854775808)))) ≡ Some Limit
  -- DELETE FROM t WHERE a = 9223372036854775808 AND a = 1;
  pub number_before_and :
      least schema (delete_where t (both (condition.Compare Equal (column a) (expression.Number 9223372036854775808)) (condition.Compare Equal (column a) one))) ≡ Some Limit
  -- DELETE FROM t WHERE a = 1 AND a = 9223372036854775808;
  pub number_after_and :
      least schema (delete_where t (both (condition.Compare Equal (column a) one) (condition.Compare Equal (column a) (expression.Number 9223372036854775808)))) ≡ Some Limit
  -- DELETE FROM t WHERE a = 9223372036854775808 OR a = 1;
  pub number_before_or :
      least schema (delete_where t (either (condition.Compare Equal (column a) (expression.Number 9223372036854775808)) (condition.Compare Equal (column a) one))) ≡ Some Limit
  -- DELETE FROM t WHERE a = 1 OR a = 9223372036854775808;
  pub number_after_or :
      least schema (delete_where t (either (condition.Compare Equal (column a) one) (condition.Compare Equal (column a) (expression.Number 9223372036854775808)))) ≡ Some Limit
  -- INSERT INTO p VALUES (9223372036854775808);
  pub number_in_values : least schema (insert_into p None (expression.Number 9223372036854775808 ∷ [])) ≡ Some Limit
  -- INSERT INTO p VALUES (1), (9223372036854775808);
  pub number_in_a_second_tuple :
      least schema (statement.Insert (insert.Rows p None (source.Values ((given.Value one ∷ []) ∷ (given.Value (expression.Number 9223372036854775808) ∷ []) ∷ [])))) ≡ Some Limit
  -- INSERT INTO p SELECT 9223372036854775808 FROM t;
  pub number_in_the_list_of_an_insert :
      least schema (statement.Insert (insert.Rows p None (source.Select (list.Values (expression.Number 9223372036854775808 ∷ [])) (from t) None))) ≡ Some Limit
  -- INSERT INTO p SELECT a FROM t WHERE a = 9223372036854775808;
  pub number_in_the_condition_of_an_insert :
      least schema (statement.Insert (insert.Rows p None (source.Select (list.Values (column a ∷ [])) (from t) (Some (condition.Compare Equal (column a) (expression.Number 9223372036854775808)))))) ≡ Some Limit
  -- UPDATE t SET a = 9223372036854775808;
  pub number_in_an_update : least schema (statement.Update (update_of t (sets a (given.Value (expression.Number 9223372036854775808)) ∷ []) None)) ≡ Some Limit
  -- UPDATE t SET a = 1 WHERE a = 9223372036854775808;
  pub number_in_the_condition_of_an_update :
      least schema (statement.Update (update_of t (sets a (given.Value one) ∷ []) (Some (condition.Compare Equal (column a) (expression.Number 9223372036854775808))))) ≡ Some Limit
  -- SELECT 9223372036854775808 FROM t;
  pub number_in_a_list : least schema (select_of (expression.Number 9223372036854775808) (from t) None) ≡ Some Limit
  -- SELECT * FROM t WHERE a = 9223372036854775808;
  pub number_in_the_condition_of_a_select :
      least schema (statement.Select (select.Rows list.Star (from t) (Some (condition.Compare Equal (column a) (expression.Number 9223372036854775808)))))
      ≡ Some Limit
  -- SELECT COUNT(*) FROM t WHERE a = 9223372036854775808;
  pub number_in_the_condition_of_a_count :
      least schema (statement.Select (select.Count (from t) (Some (condition.Compare Equal (column a) (expression.Number 9223372036854775808))))) ≡ Some Limit
  -- SELECT (9223372036854775808) FROM t;
  pub grouped_number : least schema (select_of (group (expression.Number 9223372036854775808)) (from t) None) ≡ Some Limit
  -- SELECT -9223372036854775808 FROM t;
  pub signed_number : least schema (select_of (signed Minus (expression.Number 9223372036854775808)) (from t) None) ≡ Some Limit
  -- SELECT 9223372036854775808 * 1 FROM t;
  pub number_in_a_product_on_the_left : least schema (select_of (product (expression.Number 9223372036854775808) one) (from t) None) ≡ Some Limit
  -- SELECT 1 * 9223372036854775808 FROM t;
  pub number_in_a_product_on_the_right : least schema (select_of (product one (expression.Number 9223372036854775808)) (from t) None) ≡ Some Limit
  -- SELECT 9223372036854775808 + 1 FROM t;
  pub number_in_a_sum_on_the_left : least schema (select_of (sum Plus (expression.Number 9223372036854775808) one) (from t) None) ≡ Some Limit
  -- SELECT 1 + 9223372036854775808 FROM t;
  pub number_in_a_sum_on_the_right : least schema (select_of (sum Plus one (expression.Number 9223372036854775808)) (from t) None) ≡ Some Limit
  -- CREATE TABLE w (a INT, CHECK (a = 9223372036854775808));
  pub number_in_a_check :
      least schema (create (defined a type.Integer None [] ∷ constrained (table_rule.Check (condition.Compare Equal (column a) (expression.Number 9223372036854775808))) ∷ [])) ≡ Some Limit
  -- ALTER TABLE t ADD CHECK (a = 9223372036854775808);
  pub number_in_an_added_check :
      least schema (statement.AlterTable t (constraint None (table_rule.Check (condition.Compare Equal (column a) (expression.Number 9223372036854775808))) any_time)) ≡ Some Limit
  -- CREATE TRIGGER r AFTER INSERT ON t WHEN (1 = 9223372036854775808) SIGNAL 'x';
  pub number_in_when :
      least schema (trigger_of r time.After event.Insert t [] granularity.Statement (Some (condition.Compare Equal one (expression.Number 9223372036854775808))) (action.Signal (codes "x") ∷ [])) ≡ Some Limit
  -- CREATE TRIGGER r BEFORE INSERT ON t REFERENCING NEW AS n FOR EACH ROW SET n.a = 9223372036854775808;
  pub number_in_a_set :
      least schema (trigger_of r time.Before event.Insert t (item New what.Row n ∷ []) granularity.Row None (action.Set n a (expression.Number 9223372036854775808) ∷ [])) ≡ Some Limit
  -- CREATE TRIGGER r AFTER INSERT ON t INSERT INTO p VALUES (9223372036854775808);
  pub number_in_a_triggered_insert :
      least schema (trigger_of r time.After event.Insert t [] granularity.Statement None (action.Insert (insert.Rows p None (source.Values ((given.Value (expression.Number 9223372036854775808) ∷ []) ∷ []))) ∷ [])) ≡ Some Limit
  -- CREATE TRIGGER r AFTER INSERT ON t UPDATE p SET k = 9223372036854775808;
  pub number_in_a_triggered_update :
      least schema (trigger_of r time.After event.Insert t [] granularity.Statement None (action.Update (update_of p (sets k (given.Value (expression.Number 9223372036854775808)) ∷ []) None) ∷ [])) ≡ Some Limit
  -- CREATE TRIGGER r AFTER INSERT ON t DELETE FROM p WHERE k = 9223372036854775808;
  pub number_in_a_triggered_delete :
      least schema (trigger_of r time.After event.Insert t [] granularity.Statement None (action.Delete (delete_of p (Some (condition.Compare Equal (column k) (expression.Number 9223372036854775808)))) ∷ [])) ≡ Some Limit
  -- ---- depth
  -- INSERT INTO p VALUES (.. 1 in 64 pairs of parentheses ..);
  pub value_of_depth_65 : least schema (insert_into p None (grouped_by 64 one ∷ [])) ≡ Some Limit
  -- INSERT INTO p VALUES (.. 1 in 63 pairs of parentheses ..);
  pub value_of_depth_64 : least schema (insert_into p None (grouped_by 63 one ∷ [])) ≡ None
  -- INSERT INTO p VALUES (1 + .. 1 in 63 pairs of parentheses ..);
  pub sum_of_depth_65 : least schema (insert_into p None (sum Plus one (grouped_by 63 one) ∷ [])) ≡ Some Limit
  -- INSERT INTO p VALUES (1 + .. 1 in 62 pairs of parentheses ..);
  pub sum_of_depth_64 : least schema (insert_into p None (sum Plus one (grouped_by 62 one) ∷ [])) ≡ None
  -- INSERT INTO p VALUES (- .. 1 in 63 pairs of parentheses ..);
  pub sign_of_depth_65 : least schema (insert_into p None (signed Minus (grouped_by 63 one) ∷ [])) ≡ Some Limit
  -- INSERT INTO p VALUES (- .. 1 in 62 pairs of parentheses ..);
  pub sign_of_depth_64 : least schema (insert_into p None (signed Minus (grouped_by 62 one) ∷ [])) ≡ None
  -- DELETE FROM t WHERE .. 1 = 1 in 63 pairs of parentheses ..;
  pub condition_of_depth_65 : least schema (delete_where t (enclosed_by 63 (condition.Compare Equal one one))) ≡ Some Limit
  -- DELETE FROM t WHERE .. 1 = 1 in 62 pairs of parentheses ..;
  pub condition_of_depth_64 : least schema (delete_where t (enclosed_by 62 (condition.Compare Equal one one))) ≡ None
  -- DELETE FROM t WHERE 1 = .. 1 in 63 pairs of parentheses ..;
  pub comparison_of_depth_65 : least schema (delete_where t (condition.Compare Equal one (grouped_by 63 one))) ≡ Some Limit
  -- DELETE FROM t WHERE 1 = .. 1 in 62 pairs of parentheses ..;
  pub comparison_of_depth_64 : least schema (delete_where t (condition.Compare Equal one (grouped_by 62 one))) ≡ None
  -- INSERT INTO p VALUES (1 * .. 1 in 63 pairs of parentheses ..);
  pub product_of_depth_65 : least schema (insert_into p None (product one (grouped_by 63 one) ∷ [])) ≡ Some Limit
  -- INSERT INTO p VALUES (1 * .. 1 in 62 pairs of parentheses ..);
  pub product_of_depth_64 : least schema (insert_into p None (product one (grouped_by 62 one) ∷ [])) ≡ None
  -- UPDATE t SET a = .. 1 in 64 pairs of parentheses ..;
  pub set_of_depth_65 : least schema
      (statement.Update (record { table = t; assignments = record { column = a; value = given.Value (grouped_by 64 one) } ∷ []; filter = None })) ≡ Some Limit
  -- UPDATE t SET a = .. 1 in 63 pairs of parentheses ..;
  pub set_of_depth_64 : least schema
      (statement.Update (record { table = t; assignments = record { column = a; value = given.Value (grouped_by 63 one) } ∷ []; filter = None })) ≡ None
  -- DELETE FROM t WHERE 1 = 1 AND .. 1 = 1 in 62 pairs of parentheses ..;
  pub and_of_depth_65 : least schema (delete_where t (both (condition.Compare Equal one one) (enclosed_by 62 (condition.Compare Equal one one)))) ≡ Some Limit
  -- DELETE FROM t WHERE 1 = 1 AND .. 1 = 1 in 61 pairs of parentheses ..;
  pub and_of_depth_64 : least schema (delete_where t (both (condition.Compare Equal one one) (enclosed_by 61 (condition.Compare Equal one one)))) ≡ None
  -- DELETE FROM t WHERE .. EXISTS (SELECT * FROM p) in 64 pairs of parentheses ..;
  pub exists_of_depth_65 : least schema (delete_where t (enclosed_by 64 (condition.Exists (from p)))) ≡ Some Limit
  -- DELETE FROM t WHERE .. EXISTS (SELECT * FROM p) in 63 pairs of parentheses ..;
  pub exists_of_depth_64 : least schema (delete_where t (enclosed_by 63 (condition.Exists (from p)))) ≡ None
  -- DELETE FROM t WHERE EXISTS (SELECT * FROM p WHERE .. 1 = 1 in 62 pairs of parentheses ..);
  pub exists_where_of_depth_65 : least schema (delete_where t (exists_where (from p) (enclosed_by 62 (condition.Compare Equal one one)))) ≡ Some Limit
  -- DELETE FROM t WHERE EXISTS (SELECT * FROM p WHERE .. 1 = 1 in 61 pairs of parentheses ..);
  pub exists_where_of_depth_64 : least schema (delete_where t (exists_where (from p) (enclosed_by 61 (condition.Compare Equal one one)))) ≡ None
  -- ---- lists without an element
  -- INSERT INTO t () SELECT a FROM t; if its list has no value either
  pub listed_columns : least schema (statement.Insert (insert.Rows t (Some []) (source.Select (list.Values []) (from t) None))) ≡ Some Limit
  -- INSERT INTO t VALUES ;
  pub tuples : least schema (statement.Insert (insert.Rows t None (source.Values []))) ≡ Some Limit
  -- UPDATE t SET ;
  pub assignments : least schema (statement.Update (update_of t [] None)) ≡ Some Limit
  -- SELECT FROM t;
  pub selected_values : least schema (statement.Select (select.Rows (list.Values []) (from t) None)) ≡ Some Limit
  -- CREATE TABLE w (a INT, UNIQUE ());
  pub unique_columns : least schema (create (defined a type.Integer None [] ∷ constrained (table_rule.Unique Distinct []) ∷ [])) ≡ Some Limit
  -- CREATE TABLE w (a INT, PRIMARY KEY ());
  pub primary_key_columns : least schema (create (defined a type.Integer None [] ∷ constrained (table_rule.PrimaryKey []) ∷ [])) ≡ Some Limit
  -- SET CONSTRAINTS DEFERRED;
  pub constraint_names : least schema (statement.SetConstraints (constraints.Named []) mode.Deferred) ≡ Some Limit
  -- INSERT INTO t () VALUES ();
  pub tuple_of_none : least schema (statement.Insert (insert.Rows t (Some []) (source.Values ([] ∷ [])))) ≡ Some Limit
