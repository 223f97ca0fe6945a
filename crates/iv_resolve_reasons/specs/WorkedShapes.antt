-- Worked statements: what doesn't suit first in each, over the catalogue of the worked statements of `iv_resolution`. The SQL is above each.
use Rattle.std.specs.Prelude.{◌≡◌, ℕ, List, [], ◌∷◌, Option, Some, None}
use Rattle.iv_expr.specs.declared.tree.Comparison.TheVariants.{Equal}
use Rattle.iv_expr.specs.declared.tree.Side.TheVariants.{New}
use Rattle.iv_syntax.specs.declared.tree.Expression.{Expression}
use Rattle.iv_syntax.specs.declared.tree.Condition.{Condition}
use Rattle.iv_syntax.specs.declared.tree.Condition.TheVariants as condition
use Rattle.iv_syntax.specs.declared.tree.Sign.TheVariants.{Plus, Minus}
use Rattle.iv_syntax.specs.declared.table.ColumnRule.TheVariants as column_rule
use Rattle.iv_syntax.specs.declared.table.ColumnType.TheVariants as type
use Rattle.iv_syntax.specs.declared.table.TableRule.TheVariants as table_rule
use Rattle.iv_syntax.specs.declared.statement.Insert.TheVariants as insert
use Rattle.iv_syntax.specs.declared.statement.InsertSource.TheVariants as source
use Rattle.iv_syntax.specs.declared.statement.SelectList.{SelectList}
use Rattle.iv_syntax.specs.declared.statement.SelectList.TheVariants as list
use Rattle.iv_syntax.specs.declared.statement.Statement.{Statement}
use Rattle.iv_syntax.specs.declared.statement.Statement.TheVariants as statement
use Rattle.iv_syntax.specs.declared.statement.ValueOrDefault.{ValueOrDefault}
use Rattle.iv_syntax.specs.declared.statement.ValueOrDefault.TheVariants as given
use Rattle.iv_syntax.specs.declared.trigger.ActionTime.TheVariants as time
use Rattle.iv_syntax.specs.declared.trigger.TriggerEvent.TheVariants as event
use Rattle.iv_syntax.specs.declared.trigger.TransitionName.TheVariants as what
use Rattle.iv_syntax.specs.declared.trigger.TriggerAction.TheVariants as action
use Rattle.iv_syntax.specs.Trees.{signed, sum, product, group, negated, both}
use Rattle.iv_resolution.specs.Worked.{a, b, k, p, t, w, z, tables, column, of_range, one, text, from, insert_into, select_of, delete_where, any_time, defined, create, item, trigger}
use Rattle.iv_resolve_reasons.specs.Shapes.{tuple_count, query_count, value_fault, column_fault, set_fault, comparison_fault, operand_fault, shape_fault}

-- INSERT of tuples
abbrev pub insert_tuples : List ℕ → Option (List (List ℕ)) → List (List ValueOrDefault) → Statement
insert_tuples table columns tuples = statement.Insert (insert.Rows table columns (source.Values tuples))

-- INSERT of a query without WHERE
abbrev pub insert_query : List ℕ → Option (List (List ℕ)) → SelectList → List ℕ → Statement
insert_query table columns l r = statement.Insert (insert.Rows table columns (source.Select l (from r) None))

abbrev pub equal : Expression → Expression → Condition
equal e f = condition.Compare Equal e f

-- The catalogue is that of CREATE TABLE t (a INT, b VARCHAR(2)); CREATE TABLE p (k INT PRIMARY KEY);
pub record WorkedShapes : Type 0 where
  -- INSERT INTO t VALUES (1, 'x');
  pub suits : shape_fault tables (insert_into t None (one ∷ text ∷ [])) ≡ None
  -- INSERT INTO t VALUES (1);
  pub too_few : shape_fault tables (insert_into t None (one ∷ [])) ≡ Some (tuple_count t 1 2 1)
  -- INSERT INTO t (a) VALUES (1), (DEFAULT), (1, 1), ('x');
  pub third_tuple :
      shape_fault tables (insert_tuples t (Some (a ∷ [])) ((given.Value one ∷ []) ∷ (given.Default ∷ []) ∷ (given.Value one ∷ given.Value one ∷ []) ∷ (given.Value text ∷ []) ∷ []))
      ≡ Some (tuple_count t 3 1 2)
  -- INSERT INTO t VALUES (1, 1);
  pub integer_into_text : shape_fault tables (insert_into t None (one ∷ one ∷ [])) ≡ Some (value_fault t b (type.Varchar 2) one)
  -- INSERT INTO t (b, a) VALUES ('x', 'x');
  pub text_into_listed : shape_fault tables (insert_into t (Some (b ∷ a ∷ [])) (text ∷ text ∷ [])) ≡ Some (value_fault t a type.Integer text)
  -- INSERT INTO t VALUES (-'x', 1);
  pub operand_before_the_next_value :
      shape_fault tables (insert_into t None (signed Minus text ∷ one ∷ [])) ≡ Some (operand_fault text)
  -- INSERT INTO t (a, w) VALUES ('x', 'x', 1);
  pub count_before_values : shape_fault tables (insert_into t (Some (a ∷ w ∷ [])) (text ∷ text ∷ one ∷ [])) ≡ Some (tuple_count t 1 2 3)
  -- INSERT INTO t SELECT k FROM p;
  pub query_too_narrow : shape_fault tables (insert_query t None (list.Values (column k ∷ [])) p) ≡ Some (query_count t 2 1)
  -- INSERT INTO p SELECT * FROM t;
  pub star_too_wide : shape_fault tables (insert_query p None list.Star t) ≡ Some (query_count p 1 2)
  -- INSERT INTO t (b) SELECT * FROM p;
  pub star_of_another_kind : shape_fault tables (insert_query t (Some (b ∷ [])) list.Star p) ≡ Some (column_fault t b (type.Varchar 2) p k type.Integer)
  -- INSERT INTO p SELECT b FROM t;
  pub query_of_another_kind : shape_fault tables (insert_query p None (list.Values (column b ∷ [])) t) ≡ Some (value_fault p k type.Integer (column b))
  -- UPDATE t SET b = 'x', a = b;
  pub second_assignment :
      shape_fault tables (statement.Update (record { table = t; assignments = record { column = b; value = given.Value text } ∷ record { column = a; value = given.Value (column b) } ∷ []; filter = None }))
      ≡ Some (value_fault t a type.Integer (column b))
  -- DELETE FROM t WHERE a = 1 AND NOT b = 1;
  pub second_comparison :
      shape_fault tables (delete_where t (both (equal (column a) one) (negated (equal (column b) one)))) ≡ Some (comparison_fault (column b) one)
  -- SELECT 1 * (b) + 'x' FROM t;
  pub first_operand :
      shape_fault tables (select_of (sum Plus (product one (group (column b))) text) (from t) None) ≡ Some (operand_fault (group (column b)))
  -- SELECT a FROM t WHERE b = a + 'x';
  pub comparison_before_operand :
      shape_fault tables (select_of (column a) (from t) (Some (equal (column b) (sum Plus (column a) text)))) ≡ Some (comparison_fault (column b) (sum Plus (column a) text))
  -- CREATE TRIGGER r BEFORE INSERT ON t REFERENCING NEW AS z FOR EACH ROW SET z.a = 'x';
  pub set_of_another_kind :
      shape_fault tables (trigger time.Before event.Insert (item New what.Row z ∷ []) (action.Set z a text)) ≡ Some (set_fault z a type.Integer text)
  -- CREATE TRIGGER r AFTER INSERT ON t REFERENCING NEW AS z FOR EACH ROW INSERT INTO p VALUES (z.b);
  pub row_variable_of_another_kind :
      shape_fault tables (trigger time.After event.Insert (item New what.Row z ∷ []) (action.Insert (insert.Rows p None (source.Values ((given.Value (of_range z b) ∷ []) ∷ [])))))
      ≡ Some (value_fault p k type.Integer (of_range z b))
  -- CREATE TABLE w (a INT CHECK (a = 'x'));
  pub text_in_a_check : shape_fault tables (create (defined a type.Integer None (column_rule.Check (equal (column a) text) ∷ []) ∷ [])) ≡ Some (comparison_fault (column a) text)
  -- ALTER TABLE t ADD CHECK (1 = b);
  pub text_in_an_added_check :
      shape_fault tables (statement.AlterTable t (record { name = None; rule = table_rule.Check (equal one (column b)); time = any_time })) ≡ Some (comparison_fault one (column b))
