-- WrongShape: counts and kinds of values that don't suit, each with values beside it that do.
use Rattle.std.specs.Prelude.{◌≡◌, [], ◌∷◌, codes, Some, None}
use Rattle.iv_worked.specs.Words.comparison.{Equal, NotEqual, Less}
use Rattle.iv_worked.specs.Words.side.{New}
use Rattle.iv_worked.specs.Words.type
use Rattle.iv_worked.specs.Words.table_rule
use Rattle.iv_worked.specs.Words.given
use Rattle.iv_worked.specs.Words.select_list as list
use Rattle.iv_worked.specs.Words.source
use Rattle.iv_worked.specs.Words.insert
use Rattle.iv_worked.specs.Words.select
use Rattle.iv_worked.specs.Words.statement
use Rattle.iv_worked.specs.Words.expression
use Rattle.iv_worked.specs.Words.condition
use Rattle.iv_worked.specs.Words.time
use Rattle.iv_worked.specs.Words.event
use Rattle.iv_worked.specs.Words.granularity
use Rattle.iv_worked.specs.Words.transition as what
use Rattle.iv_worked.specs.Words.action
use Rattle.iv_worked.specs.Words.sign.{Plus, Minus}
use Rattle.iv_worked.specs.Words.cause.{WrongShape}
use Rattle.iv_syntax.specs.Trees.{group, signed, product, sum, enclosed, negated, both, either, exists_where}
use Rattle.iv_resolution.specs.Resolution.{least}
use Rattle.iv_resolution.specs.Worked.{a, b, k, p, t, column, of_range, one, text, from, any_time, item, insert_into, select_of, delete_where, defined}
use Rattle.iv_resolution.specs.Worked.{constrained, create}
use Rattle.iv_worked.specs.Words.{d, n, r, schema, sets, update_of, delete_of, constraint, trigger_of}

pub record WorkedShapes : Type 0 where
  -- ---- CHECK
  -- CREATE TABLE w (a INT, CHECK (a <> 'x'));
  pub text_compared_in_a_check :
      least schema (create (defined a type.Integer None [] ∷ constrained (table_rule.Check (condition.Compare NotEqual (column a) text)) ∷ []))
      ≡ Some WrongShape
  -- CREATE TABLE w (a INT, CHECK (a <> 1));
  pub integer_compared_in_a_check :
      least schema (create (defined a type.Integer None [] ∷ constrained (table_rule.Check (condition.Compare NotEqual (column a) one)) ∷ [])) ≡ None
  -- CREATE TABLE w (b VARCHAR(2), CHECK (b + 1 = 1));
  pub sum_of_a_text_in_a_check :
      least schema (create (defined b (type.Varchar 2) None [] ∷ constrained (table_rule.Check (condition.Compare Equal (sum Plus (column b) one) one)) ∷ []))
      ≡ Some WrongShape
  -- ALTER TABLE t ADD CHECK (b = 1);
  pub text_in_an_added_check :
      least schema (statement.AlterTable t (constraint None (table_rule.Check (condition.Compare Equal (column b) one)) any_time)) ≡ Some WrongShape
  -- ALTER TABLE t ADD CHECK (b = 'x');
  pub text_in_an_added_check_of_texts :
      least schema (statement.AlterTable t (constraint None (table_rule.Check (condition.Compare Equal (column b) text)) any_time)) ≡ None
  -- ALTER TABLE t ADD CHECK (-b = 1);
  pub sign_of_a_text_in_an_added_check :
      least schema (statement.AlterTable t (constraint None (table_rule.Check (condition.Compare Equal (signed Minus (column b)) one)) any_time))
      ≡ Some WrongShape
  -- ---- INSERT with VALUES
  -- INSERT INTO p VALUES (1, 1);
  pub too_many_values : least schema (insert_into p None (one ∷ one ∷ [])) ≡ Some WrongShape
  -- INSERT INTO p VALUES (1);
  pub as_many_values : least schema (insert_into p None (one ∷ [])) ≡ None
  -- INSERT INTO t (a) VALUES (1, 'x');
  pub more_values_than_listed : least schema (insert_into t (Some (a ∷ [])) (one ∷ text ∷ [])) ≡ Some WrongShape
  -- INSERT INTO t (a, b) VALUES (1);
  pub fewer_values_than_listed : least schema (insert_into t (Some (a ∷ b ∷ [])) (one ∷ [])) ≡ Some WrongShape
  -- INSERT INTO p VALUES (1), (1, 1);
  pub second_tuple_of_two :
      least schema (statement.Insert (insert.Rows p None (source.Values ((given.Value one ∷ []) ∷ (given.Value one ∷ given.Value one ∷ []) ∷ []))))
      ≡ Some WrongShape
  -- INSERT INTO t VALUES ('x', 'x');
  pub text_into_an_integer : least schema (insert_into t None (text ∷ text ∷ [])) ≡ Some WrongShape
  -- INSERT INTO t VALUES (1, 1);
  pub integer_into_a_text : least schema (insert_into t None (one ∷ one ∷ [])) ≡ Some WrongShape
  -- INSERT INTO t VALUES (NULL, NULL);
  pub nulls_into_each : least schema (insert_into t None (expression.Null ∷ expression.Null ∷ [])) ≡ None
  -- INSERT INTO t VALUES (DEFAULT, DEFAULT);
  pub defaults_into_each : least schema (statement.Insert (insert.Rows t None (source.Values ((given.Default ∷ given.Default ∷ []) ∷ [])))) ≡ None
  -- INSERT INTO p VALUES (DEFAULT, DEFAULT);
  pub too_many_defaults : least schema (statement.Insert (insert.Rows p None (source.Values ((given.Default ∷ given.Default ∷ []) ∷ [])))) ≡ Some WrongShape
  -- INSERT INTO t VALUES (1, -NULL);
  pub sign_of_null_into_a_text : least schema (insert_into t None (one ∷ signed Minus expression.Null ∷ [])) ≡ Some WrongShape
  -- INSERT INTO t VALUES (-NULL, 'x');
  pub sign_of_null_into_an_integer : least schema (insert_into t None (signed Minus expression.Null ∷ text ∷ [])) ≡ None
  -- INSERT INTO t VALUES (1, (NULL));
  pub enclosed_null_into_a_text : least schema (insert_into t None (one ∷ group expression.Null ∷ [])) ≡ None
  -- INSERT INTO t VALUES (('x'), 'x');
  pub enclosed_text_into_an_integer : least schema (insert_into t None (group text ∷ text ∷ [])) ≡ Some WrongShape
  -- INSERT INTO t VALUES (1, NULL + NULL);
  pub sum_of_nulls_into_a_text : least schema (insert_into t None (one ∷ sum Plus expression.Null expression.Null ∷ [])) ≡ Some WrongShape
  -- INSERT INTO t VALUES (1, NULL * NULL);
  pub product_of_nulls_into_a_text : least schema (insert_into t None (one ∷ product expression.Null expression.Null ∷ [])) ≡ Some WrongShape
  -- INSERT INTO t VALUES (1 + 'x', 'x');
  pub sum_with_a_text : least schema (insert_into t None (sum Plus one text ∷ text ∷ [])) ≡ Some WrongShape
  -- INSERT INTO t VALUES (1 + NULL, 'x');
  pub sum_with_null : least schema (insert_into t None (sum Plus one expression.Null ∷ text ∷ [])) ≡ None
  -- INSERT INTO t (b, a) VALUES (1, 'x');
  pub values_in_the_order_of_the_columns : least schema (insert_into t (Some (b ∷ a ∷ [])) (one ∷ text ∷ [])) ≡ Some WrongShape
  -- INSERT INTO t (b, a) VALUES ('x', 1);
  pub values_in_the_order_of_the_list : least schema (insert_into t (Some (b ∷ a ∷ [])) (text ∷ one ∷ [])) ≡ None
  -- ---- INSERT with SELECT
  -- INSERT INTO t SELECT * FROM p;
  pub one_column_into_two : least schema (statement.Insert (insert.Rows t None (source.Select list.Star (from p) None))) ≡ Some WrongShape
  -- INSERT INTO t SELECT * FROM t;
  pub two_columns_into_two : least schema (statement.Insert (insert.Rows t None (source.Select list.Star (from t) None))) ≡ None
  -- INSERT INTO t (a) SELECT * FROM p;
  pub one_column_into_a_list_of_one : least schema (statement.Insert (insert.Rows t (Some (a ∷ [])) (source.Select list.Star (from p) None))) ≡ None
  -- INSERT INTO t SELECT * FROM d;
  pub integer_column_into_a_text : least schema (statement.Insert (insert.Rows t None (source.Select list.Star (from d) None))) ≡ Some WrongShape
  -- INSERT INTO d SELECT * FROM t;
  pub text_column_into_an_integer : least schema (statement.Insert (insert.Rows d None (source.Select list.Star (from t) None))) ≡ Some WrongShape
  -- INSERT INTO d SELECT * FROM d;
  pub integer_columns_into_integers : least schema (statement.Insert (insert.Rows d None (source.Select list.Star (from d) None))) ≡ None
  -- INSERT INTO t (b, a) SELECT * FROM t;
  pub columns_into_a_list_in_another_order :
      least schema (statement.Insert (insert.Rows t (Some (b ∷ a ∷ [])) (source.Select list.Star (from t) None))) ≡ Some WrongShape
  -- INSERT INTO t SELECT a FROM t;
  pub one_value_into_two_columns :
      least schema (statement.Insert (insert.Rows t None (source.Select (list.Values (column a ∷ [])) (from t) None))) ≡ Some WrongShape
  -- INSERT INTO t SELECT a, b FROM t;
  pub two_values_into_two_columns :
      least schema (statement.Insert (insert.Rows t None (source.Select (list.Values (column a ∷ column b ∷ [])) (from t) None))) ≡ None
  -- INSERT INTO t SELECT b, a FROM t;
  pub selected_values_crossed :
      least schema (statement.Insert (insert.Rows t None (source.Select (list.Values (column b ∷ column a ∷ [])) (from t) None))) ≡ Some WrongShape
  -- INSERT INTO t SELECT a, NULL FROM t;
  pub selected_null : least schema (statement.Insert (insert.Rows t None (source.Select (list.Values (column a ∷ expression.Null ∷ [])) (from t) None))) ≡ None
  -- INSERT INTO p SELECT -b FROM t;
  pub selected_sign_of_a_text :
      least schema (statement.Insert (insert.Rows p None (source.Select (list.Values (signed Minus (column b) ∷ [])) (from t) None))) ≡ Some WrongShape
  -- INSERT INTO p SELECT -a FROM t;
  pub selected_sign_of_an_integer :
      least schema (statement.Insert (insert.Rows p None (source.Select (list.Values (signed Minus (column a) ∷ [])) (from t) None))) ≡ None
  -- INSERT INTO p SELECT a FROM t WHERE b = 1;
  pub selected_where_a_text_is_an_integer :
      least schema (statement.Insert (insert.Rows p None (source.Select (list.Values (column a ∷ [])) (from t) (Some (condition.Compare Equal (column b) one))))) ≡ Some WrongShape
  -- INSERT INTO p SELECT a FROM t WHERE b = 'x';
  pub selected_where_a_text_is_a_text :
      least schema (statement.Insert (insert.Rows p None (source.Select (list.Values (column a ∷ [])) (from t) (Some (condition.Compare Equal (column b) text))))) ≡ None
  -- ---- UPDATE
  -- UPDATE t SET a = 'x';
  pub integer_set_to_a_text : least schema (statement.Update (update_of t (sets a (given.Value text) ∷ []) None)) ≡ Some WrongShape
  -- UPDATE t SET b = 1;
  pub text_set_to_an_integer : least schema (statement.Update (update_of t (sets b (given.Value one) ∷ []) None)) ≡ Some WrongShape
  -- UPDATE t SET b = 'x';
  pub text_set_to_a_text : least schema (statement.Update (update_of t (sets b (given.Value text) ∷ []) None)) ≡ None
  -- UPDATE t SET b = NULL;
  pub text_set_to_null : least schema (statement.Update (update_of t (sets b (given.Value expression.Null) ∷ []) None)) ≡ None
  -- UPDATE t SET b = DEFAULT;
  pub text_set_to_its_default : least schema (statement.Update (update_of t (sets b given.Default ∷ []) None)) ≡ None
  -- UPDATE t SET a = b;
  pub integer_set_to_a_text_column : least schema (statement.Update (update_of t (sets a (given.Value (column b)) ∷ []) None)) ≡ Some WrongShape
  -- UPDATE t SET b = a;
  pub text_set_to_an_integer_column : least schema (statement.Update (update_of t (sets b (given.Value (column a)) ∷ []) None)) ≡ Some WrongShape
  -- UPDATE t SET b = b;
  pub text_set_to_a_text_column : least schema (statement.Update (update_of t (sets b (given.Value (column b)) ∷ []) None)) ≡ None
  -- UPDATE t SET b = +NULL;
  pub text_set_to_a_sign_of_null : least schema (statement.Update (update_of t (sets b (given.Value (signed Plus expression.Null)) ∷ []) None))
      ≡ Some WrongShape
  -- UPDATE t SET a = b + 1;
  pub integer_set_to_a_sum_of_a_text : least schema (statement.Update (update_of t (sets a (given.Value (sum Plus (column b) one)) ∷ []) None))
      ≡ Some WrongShape
  -- UPDATE t SET a = a + 1;
  pub integer_set_to_a_sum : least schema (statement.Update (update_of t (sets a (given.Value (sum Plus (column a) one)) ∷ []) None)) ≡ None
  -- UPDATE t SET a = 1, b = 1;
  pub second_of_two_assignments : least schema (statement.Update (update_of t (sets a (given.Value one) ∷ sets b (given.Value one) ∷ []) None))
      ≡ Some WrongShape
  -- UPDATE t SET a = 1 WHERE b = 1;
  pub updated_where_a_text_is_an_integer :
      least schema (statement.Update (update_of t (sets a (given.Value one) ∷ []) (Some (condition.Compare Equal (column b) one)))) ≡ Some WrongShape
  -- UPDATE t SET a = 1 WHERE b = 'x';
  pub updated_where_a_text_is_a_text :
      least schema (statement.Update (update_of t (sets a (given.Value one) ∷ []) (Some (condition.Compare Equal (column b) text)))) ≡ None
  -- ---- DELETE, with each search condition
  -- DELETE FROM t WHERE a < b;
  pub integer_less_than_a_text : least schema (delete_where t (condition.Compare Less (column a) (column b))) ≡ Some WrongShape
  -- DELETE FROM t WHERE a < a;
  pub integer_less_than_an_integer : least schema (delete_where t (condition.Compare Less (column a) (column a))) ≡ None
  -- DELETE FROM t WHERE b < a;
  pub text_less_than_an_integer : least schema (delete_where t (condition.Compare Less (column b) (column a))) ≡ Some WrongShape
  -- DELETE FROM t WHERE b < b;
  pub text_less_than_a_text : least schema (delete_where t (condition.Compare Less (column b) (column b))) ≡ None
  -- DELETE FROM t WHERE 1 = 'x';
  pub number_is_a_text : least schema (delete_where t (condition.Compare Equal one text)) ≡ Some WrongShape
  -- DELETE FROM t WHERE NULL = NULL;
  pub null_is_null : least schema (delete_where t (condition.Compare Equal expression.Null expression.Null)) ≡ None
  -- DELETE FROM t WHERE b = NULL + NULL;
  pub text_is_a_sum_of_nulls : least schema (delete_where t (condition.Compare Equal (column b) (sum Plus expression.Null expression.Null))) ≡ Some WrongShape
  -- DELETE FROM t WHERE b = (NULL);
  pub text_is_an_enclosed_null : least schema (delete_where t (condition.Compare Equal (column b) (group expression.Null))) ≡ None
  -- DELETE FROM t WHERE a = a + b;
  pub sum_of_a_text_on_the_right : least schema (delete_where t (condition.Compare Equal (column a) (sum Plus (column a) (column b)))) ≡ Some WrongShape
  -- DELETE FROM t WHERE b + 1 IS NULL;
  pub sum_of_a_text_is_null : least schema (delete_where t (condition.IsNull (sum Plus (column b) one))) ≡ Some WrongShape
  -- DELETE FROM t WHERE a + 1 IS NULL;
  pub sum_of_an_integer_is_null : least schema (delete_where t (condition.IsNull (sum Plus (column a) one))) ≡ None
  -- DELETE FROM t WHERE b + 1 IS NOT NULL;
  pub sum_of_a_text_is_not_null : least schema (delete_where t (condition.IsNotNull (sum Plus (column b) one))) ≡ Some WrongShape
  -- DELETE FROM t WHERE a + 1 IS NOT NULL;
  pub sum_of_an_integer_is_not_null : least schema (delete_where t (condition.IsNotNull (sum Plus (column a) one))) ≡ None
  -- DELETE FROM t WHERE EXISTS (SELECT * FROM p WHERE k = b);
  pub exists_where_an_integer_is_a_text : least schema (delete_where t (exists_where (from p) (condition.Compare Equal (column k) (column b))))
      ≡ Some WrongShape
  -- DELETE FROM t WHERE EXISTS (SELECT * FROM p WHERE k = a);
  pub exists_where_an_integer_is_an_integer : least schema (delete_where t (exists_where (from p) (condition.Compare Equal (column k) (column a)))) ≡ None
  -- DELETE FROM t WHERE (a = 'x');
  pub enclosed_clash : least schema (delete_where t (enclosed (condition.Compare Equal (column a) text))) ≡ Some WrongShape
  -- DELETE FROM t WHERE NOT a = 'x';
  pub negated_clash : least schema (delete_where t (negated (condition.Compare Equal (column a) text))) ≡ Some WrongShape
  -- DELETE FROM t WHERE a = 'x' AND a = 1;
  pub clash_before_and : least schema (delete_where t (both (condition.Compare Equal (column a) text) (condition.Compare Equal (column a) one)))
      ≡ Some WrongShape
  -- DELETE FROM t WHERE a = 1 AND a = 'x';
  pub clash_after_and : least schema (delete_where t (both (condition.Compare Equal (column a) one) (condition.Compare Equal (column a) text)))
      ≡ Some WrongShape
  -- DELETE FROM t WHERE a = 'x' OR a = 1;
  pub clash_before_or : least schema (delete_where t (either (condition.Compare Equal (column a) text) (condition.Compare Equal (column a) one)))
      ≡ Some WrongShape
  -- DELETE FROM t WHERE a = 1 OR a = 'x';
  pub clash_after_or : least schema (delete_where t (either (condition.Compare Equal (column a) one) (condition.Compare Equal (column a) text)))
      ≡ Some WrongShape
  -- DELETE FROM t WHERE NOT (a = 1 AND b = 'x' OR a = NULL);
  pub no_clash :
      least schema (delete_where t (negated (enclosed (either (both (condition.Compare Equal (column a) one) (condition.Compare Equal (column b) text)) (condition.Compare Equal (column a) expression.Null))))) ≡ None
  -- ---- SELECT, with each value expression
  -- SELECT +b FROM t;
  pub sign_of_a_text : least schema (select_of (signed Plus (column b)) (from t) None) ≡ Some WrongShape
  -- SELECT +a FROM t;
  pub sign_of_an_integer : least schema (select_of (signed Plus (column a)) (from t) None) ≡ None
  -- SELECT -('x') FROM t;
  pub sign_of_an_enclosed_text : least schema (select_of (signed Minus (group text)) (from t) None) ≡ Some WrongShape
  -- SELECT (-b) FROM t;
  pub enclosed_sign_of_a_text : least schema (select_of (group (signed Minus (column b))) (from t) None) ≡ Some WrongShape
  -- SELECT (b) FROM t;
  pub enclosed_text : least schema (select_of (group (column b)) (from t) None) ≡ None
  -- SELECT -(-b) FROM t;
  pub sign_of_an_enclosed_sign_of_a_text : least schema (select_of (signed Minus (group (signed Minus (column b)))) (from t) None) ≡ Some WrongShape
  -- SELECT b * 1 FROM t;
  pub product_with_a_text_on_the_left : least schema (select_of (product (column b) one) (from t) None) ≡ Some WrongShape
  -- SELECT 1 * b FROM t;
  pub product_with_a_text_on_the_right : least schema (select_of (product one (column b)) (from t) None) ≡ Some WrongShape
  -- SELECT a * 1 FROM t;
  pub product_of_integers : least schema (select_of (product (column a) one) (from t) None) ≡ None
  -- SELECT -b * 1 FROM t;
  pub product_with_a_sign_of_a_text_on_the_left : least schema (select_of (product (signed Minus (column b)) one) (from t) None) ≡ Some WrongShape
  -- SELECT 1 * -b FROM t;
  pub product_with_a_sign_of_a_text_on_the_right : least schema (select_of (product one (signed Minus (column b))) (from t) None) ≡ Some WrongShape
  -- SELECT b + 1 FROM t;
  pub sum_with_a_text_on_the_left : least schema (select_of (sum Plus (column b) one) (from t) None) ≡ Some WrongShape
  -- SELECT 1 - b FROM t;
  pub difference_with_a_text_on_the_right : least schema (select_of (sum Minus one (column b)) (from t) None) ≡ Some WrongShape
  -- SELECT a + 1 FROM t;
  pub sum_of_integers : least schema (select_of (sum Plus (column a) one) (from t) None) ≡ None
  -- SELECT -b + 1 FROM t;
  pub sum_with_a_sign_of_a_text_on_the_left : least schema (select_of (sum Plus (signed Minus (column b)) one) (from t) None) ≡ Some WrongShape
  -- SELECT 1 + -b FROM t;
  pub sum_with_a_sign_of_a_text_on_the_right : least schema (select_of (sum Plus one (signed Minus (column b))) (from t) None) ≡ Some WrongShape
  -- SELECT a, -b FROM t;
  pub second_of_the_list : least schema (statement.Select (select.Rows (list.Values (column a ∷ signed Minus (column b) ∷ [])) (from t) None)) ≡ Some WrongShape
  -- SELECT a, b FROM t;
  pub selected_integer_and_text : least schema (statement.Select (select.Rows (list.Values (column a ∷ column b ∷ [])) (from t) None)) ≡ None
  -- SELECT * FROM t WHERE b = 1;
  pub rows_where_a_text_is_an_integer :
      least schema (statement.Select (select.Rows list.Star (from t) (Some (condition.Compare Equal (column b) one)))) ≡ Some WrongShape
  -- SELECT * FROM t WHERE b = 'x';
  pub rows_where_a_text_is_a_text : least schema (statement.Select (select.Rows list.Star (from t) (Some (condition.Compare Equal (column b) text)))) ≡ None
  -- SELECT COUNT(*) FROM t WHERE b = 1;
  pub count_where_a_text_is_an_integer : least schema (statement.Select (select.Count (from t) (Some (condition.Compare Equal (column b) one))))
      ≡ Some WrongShape
  -- SELECT COUNT(*) FROM t WHERE b = 'x';
  pub count_where_a_text_is_a_text : least schema (statement.Select (select.Count (from t) (Some (condition.Compare Equal (column b) text)))) ≡ None
  -- ---- CREATE TRIGGER
  -- CREATE TRIGGER r AFTER INSERT ON t REFERENCING NEW AS n FOR EACH ROW WHEN (n.a = 'x') SIGNAL 'x';
  pub when_an_integer_is_a_text :
      least schema (trigger_of r time.After event.Insert t (item New what.Row n ∷ []) granularity.Row (Some (condition.Compare Equal (of_range n a) text))
      (action.Signal (codes "x") ∷ [])) ≡ Some WrongShape
  -- CREATE TRIGGER r AFTER INSERT ON t REFERENCING NEW AS n FOR EACH ROW WHEN (n.b = 'x') SIGNAL 'x';
  pub when_a_text_is_a_text :
      least schema (trigger_of r time.After event.Insert t (item New what.Row n ∷ []) granularity.Row (Some (condition.Compare Equal (of_range n b) text))
      (action.Signal (codes "x") ∷ [])) ≡ None
  -- CREATE TRIGGER r AFTER INSERT ON t REFERENCING NEW AS n FOR EACH ROW INSERT INTO p VALUES (n.b);
  pub triggered_insert_of_a_text :
      least schema (trigger_of r time.After event.Insert t (item New what.Row n ∷ []) granularity.Row None (action.Insert (insert.Rows p None (source.Values ((given.Value (of_range n b) ∷ []) ∷ []))) ∷ [])) ≡ Some WrongShape
  -- CREATE TRIGGER r AFTER INSERT ON t REFERENCING NEW AS n FOR EACH ROW INSERT INTO p VALUES (n.a);
  pub triggered_insert_of_an_integer :
      least schema (trigger_of r time.After event.Insert t (item New what.Row n ∷ []) granularity.Row None (action.Insert (insert.Rows p None (source.Values ((given.Value (of_range n a) ∷ []) ∷ []))) ∷ [])) ≡ None
  -- CREATE TRIGGER r AFTER INSERT ON t REFERENCING NEW AS n FOR EACH ROW INSERT INTO p VALUES (n.a, n.a);
  pub triggered_insert_of_too_many :
      least schema (trigger_of r time.After event.Insert t (item New what.Row n ∷ []) granularity.Row None (action.Insert (insert.Rows p None (source.Values ((given.Value (of_range n a) ∷ given.Value (of_range n a) ∷ []) ∷ []))) ∷ [])) ≡ Some WrongShape
  -- CREATE TRIGGER r AFTER INSERT ON t REFERENCING NEW TABLE AS n INSERT INTO p SELECT * FROM n;
  pub transition_table_of_two_columns_into_one :
      least schema (trigger_of r time.After event.Insert t (item New what.Table n ∷ []) granularity.Statement None (action.Insert (insert.Rows p None (source.Select list.Star (from n) None)) ∷ [])) ≡ Some WrongShape
  -- CREATE TRIGGER r AFTER INSERT ON t REFERENCING NEW TABLE AS n INSERT INTO t SELECT * FROM n;
  pub transition_table_of_two_columns_into_two :
      least schema (trigger_of r time.After event.Insert t (item New what.Table n ∷ []) granularity.Statement None (action.Insert (insert.Rows t None (source.Select list.Star (from n) None)) ∷ [])) ≡ None
  -- CREATE TRIGGER r AFTER INSERT ON t REFERENCING NEW AS n FOR EACH ROW UPDATE p SET k = n.b;
  pub triggered_update_to_a_text :
      least schema (trigger_of r time.After event.Insert t (item New what.Row n ∷ []) granularity.Row None (action.Update (update_of p (sets k (given.Value (of_range n b)) ∷ []) None) ∷ [])) ≡ Some WrongShape
  -- CREATE TRIGGER r AFTER INSERT ON t REFERENCING NEW AS n FOR EACH ROW UPDATE p SET k = n.a;
  pub triggered_update_to_an_integer :
      least schema (trigger_of r time.After event.Insert t (item New what.Row n ∷ []) granularity.Row None (action.Update (update_of p (sets k (given.Value (of_range n a)) ∷ []) None) ∷ [])) ≡ None
  -- CREATE TRIGGER r AFTER INSERT ON t REFERENCING NEW AS n FOR EACH ROW DELETE FROM p WHERE k = n.b;
  pub triggered_delete_where_an_integer_is_a_text :
      least schema (trigger_of r time.After event.Insert t (item New what.Row n ∷ []) granularity.Row None (action.Delete (delete_of p (Some (condition.Compare Equal (column k) (of_range n b)))) ∷ [])) ≡ Some WrongShape
  -- CREATE TRIGGER r AFTER INSERT ON t REFERENCING NEW AS n FOR EACH ROW DELETE FROM p WHERE k = n.a;
  pub triggered_delete_where_an_integer_is_an_integer :
      least schema (trigger_of r time.After event.Insert t (item New what.Row n ∷ []) granularity.Row None (action.Delete (delete_of p (Some (condition.Compare Equal (column k) (of_range n a)))) ∷ [])) ≡ None
  -- CREATE TRIGGER r BEFORE INSERT ON t REFERENCING NEW AS n FOR EACH ROW SET n.a = 'x';
  pub new_integer_set_to_a_text :
      least schema (trigger_of r time.Before event.Insert t (item New what.Row n ∷ []) granularity.Row None (action.Set n a text ∷ [])) ≡ Some WrongShape
  -- CREATE TRIGGER r BEFORE INSERT ON t REFERENCING NEW AS n FOR EACH ROW SET n.b = n.a;
  pub new_text_set_to_an_integer :
      least schema (trigger_of r time.Before event.Insert t (item New what.Row n ∷ []) granularity.Row None (action.Set n b (of_range n a) ∷ []))
      ≡ Some WrongShape
  -- CREATE TRIGGER r BEFORE INSERT ON t REFERENCING NEW AS n FOR EACH ROW SET n.b = 'x';
  pub new_text_set_to_a_text :
      least schema (trigger_of r time.Before event.Insert t (item New what.Row n ∷ []) granularity.Row None (action.Set n b text ∷ [])) ≡ None
  -- CREATE TRIGGER r BEFORE INSERT ON t REFERENCING NEW AS n FOR EACH ROW SET n.b = NULL;
  pub new_text_set_to_null :
      least schema (trigger_of r time.Before event.Insert t (item New what.Row n ∷ []) granularity.Row None (action.Set n b expression.Null ∷ [])) ≡ None
  -- CREATE TRIGGER r BEFORE INSERT ON t REFERENCING NEW AS n FOR EACH ROW SET n.a = -n.b;
  pub new_integer_set_to_a_sign_of_a_text :
      least schema (trigger_of r time.Before event.Insert t (item New what.Row n ∷ []) granularity.Row None (action.Set n a (signed Minus (of_range n b)) ∷ [])) ≡ Some WrongShape
  -- CREATE TRIGGER r AFTER INSERT ON t BEGIN ATOMIC SIGNAL 'x'; UPDATE p SET k = 'x'; END;
  pub second_of_a_body :
      least schema (trigger_of r time.After event.Insert t [] granularity.Statement None (action.Signal (codes "x") ∷ action.Update (update_of p (sets k (given.Value text) ∷ []) None) ∷ [])) ≡ Some WrongShape
