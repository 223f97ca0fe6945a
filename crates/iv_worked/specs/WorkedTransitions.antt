-- Worked scripts on AFTER triggers: transition tables, row variables, and the trigger that a
-- refusal names.
use Rattle.std.specs.Prelude.{◌≡◌, List, [], ◌∷◌}
use Rattle.iv_expr.specs.Trees.{plus}
use Rattle.iv_worked.specs.Types.{Plan}
use Rattle.iv_worked.specs.Types.side.{Old, New}
use Rattle.iv_worked.specs.Types.range.{Transition}
use Rattle.iv_worked.specs.Types.comparison.{Equal, Less}
use Rattle.iv_worked.specs.Types.cond.{Always, Compare}
use Rattle.iv_worked.specs.Types.referential_action.{NoAction, Cascade}
use Rattle.iv_worked.specs.Types.time.{Before, After}
use Rattle.iv_worked.specs.Types.event
use Rattle.iv_worked.specs.Types.granularity.{Row, Statement}
use Rattle.iv_worked.specs.Types.rule
use Rattle.iv_worked.specs.Types.cause.{Violation, Signal}
use Rattle.iv_worked.specs.WorkedPlans.{number, numbers, column, old, new, where_column, integer_column, not_deferrable, references_rule, create_table, setting, insert, insert_value, update, update_all, create_trigger, drop_trigger, inserts, inserts_from, signals, select_all, count_all}
use Rattle.iv_worked.specs.WorkedAnswers.{ok, ok_rows, rows_of, count_row, fault, refused_in, work, idle, answers, works}

-- CREATE TABLE t (a INT); CREATE TABLE u (a INT); CREATE TRIGGER q AFTER DELETE ON u SIGNAL 'stop';
-- CREATE TRIGGER r AFTER INSERT ON t BEGIN ATOMIC INSERT INTO u VALUES (1); SIGNAL 'stop'; SIGNAL
-- 'stop'; END; INSERT INTO t VALUES (1); SELECT COUNT(*) FROM u;
abbrev pub second_of_the_body : List Plan
second_of_the_body =
    create_table (integer_column ∷ []) [] ∷ create_table (integer_column ∷ []) []
    ∷ create_trigger 0 1 After event.Delete Statement Always (signals ∷ [])
    ∷ create_trigger 1 0 After event.Insert Statement Always
    (inserts 1 (numbers (1 ∷ [])) ∷ signals ∷ signals ∷ [])
    ∷ insert_value 0 (number 1) ∷ count_all 1 ∷ []

pub record WorkedTransitions : Type 0 where
  -- CREATE TABLE t (a INT); CREATE TABLE log (x INT); CREATE TRIGGER s AFTER UPDATE ON t
  -- REFERENCING OLD TABLE AS o NEW TABLE AS n BEGIN ATOMIC INSERT INTO log SELECT a FROM o; INSERT
  -- INTO log SELECT a FROM n; END; INSERT INTO t VALUES (1), (2), (7); UPDATE t SET a = a + 10
  -- WHERE a < 3; SELECT * FROM log;
  pub statement_trigger_sees_both_transition_tables : answers (
      create_table (integer_column ∷ []) [] ∷ create_table (integer_column ∷ []) []
      ∷ create_trigger 0 0 After event.Update Statement Always
      (inserts_from 1 (Transition Old) (column 0 ∷ [])
      ∷ inserts_from 1 (Transition New) (column 0 ∷ []) ∷ [])
      ∷ insert 0 (numbers (1 ∷ []) ∷ numbers (2 ∷ []) ∷ numbers (7 ∷ []) ∷ [])
      ∷ update 0 (setting 0 (plus (column 0) (number 10)) ∷ []) (where_column Less 0 3)
      ∷ select_all 1 ∷ [])
      ≡ ok ∷ ok ∷ ok ∷ ok_rows 3 ∷ ok_rows 2
      ∷ rows_of ((1 ∷ []) ∷ (2 ∷ []) ∷ (11 ∷ []) ∷ (12 ∷ []) ∷ []) ∷ []
  -- CREATE TABLE t (a INT); CREATE TABLE log (x INT); CREATE TRIGGER r AFTER INSERT ON t
  -- REFERENCING NEW TABLE AS n FOR EACH ROW INSERT INTO log SELECT a FROM n; INSERT INTO t VALUES
  -- (1), (2); SELECT * FROM log;
  pub row_trigger_sees_the_whole_transition_table : answers (
      create_table (integer_column ∷ []) [] ∷ create_table (integer_column ∷ []) []
      ∷ create_trigger 0 0 After event.Insert Row Always
      (inserts_from 1 (Transition New) (column 0 ∷ []) ∷ [])
      ∷ insert 0 (numbers (1 ∷ []) ∷ numbers (2 ∷ []) ∷ []) ∷ select_all 1 ∷ [])
      ≡ ok ∷ ok ∷ ok ∷ ok_rows 2 ∷ rows_of ((1 ∷ []) ∷ (2 ∷ []) ∷ (1 ∷ []) ∷ (2 ∷ []) ∷ []) ∷ []
  -- CREATE TABLE t (a INT); CREATE TABLE log (x INT); CREATE TRIGGER r AFTER UPDATE ON t
  -- REFERENCING OLD AS o NEW AS n FOR EACH ROW WHEN (n.a = o.a + 1) INSERT INTO log VALUES (n.a);
  -- INSERT INTO t VALUES (1), (5); UPDATE t SET a = 2; SELECT * FROM log;
  pub when_of_a_row_trigger_sees_old_and_new : answers (
      create_table (integer_column ∷ []) [] ∷ create_table (integer_column ∷ []) []
      ∷ create_trigger 0 0 After event.Update Row (Compare Equal (new 0) (plus (old 0) (number 1)))
      (inserts 1 (new 0 ∷ []) ∷ [])
      ∷ insert 0 (numbers (1 ∷ []) ∷ numbers (5 ∷ []) ∷ []) ∷ update_all 0 0 (number 2)
      ∷ select_all 1 ∷ [])
      ≡ ok ∷ ok ∷ ok ∷ ok_rows 2 ∷ ok_rows 2 ∷ rows_of ((2 ∷ []) ∷ []) ∷ []
  -- The second row changes twice in one statement: first its own key, then the key that it refers
  -- to.
  -- CREATE TABLE t (k INT PRIMARY KEY, up INT REFERENCES t ON UPDATE CASCADE); CREATE TABLE log (k
  -- INT, up INT, new_k INT, new_up INT); CREATE TRIGGER r AFTER UPDATE ON t REFERENCING OLD AS o
  -- NEW AS n FOR EACH ROW INSERT INTO log VALUES (o.k, o.up, n.k, n.up); INSERT INTO t VALUES (1,
  -- 1), (2, 1); UPDATE t SET k = k + 10; SELECT * FROM log;
  pub transitions_are_net : answers (
      create_table (integer_column ∷ integer_column ∷ [])
      (not_deferrable 0 (rule.PrimaryKey (0 ∷ []))
      ∷ not_deferrable 0 (references_rule 1 0 0 NoAction Cascade) ∷ [])
      ∷ create_table (integer_column ∷ integer_column ∷ integer_column ∷ integer_column ∷ []) []
      ∷ create_trigger 0 0 After event.Update Row Always
      (inserts 1 (old 0 ∷ old 1 ∷ new 0 ∷ new 1 ∷ []) ∷ [])
      ∷ insert 0 (numbers (1 ∷ 1 ∷ []) ∷ numbers (2 ∷ 1 ∷ []) ∷ [])
      ∷ update_all 0 0 (plus (column 0) (number 10)) ∷ select_all 1 ∷ [])
      ≡ ok ∷ ok ∷ ok ∷ ok_rows 2 ∷ ok_rows 2
      ∷ rows_of ((1 ∷ 1 ∷ 11 ∷ 11 ∷ []) ∷ (2 ∷ 1 ∷ 12 ∷ 11 ∷ []) ∷ []) ∷ []
  -- SIGNAL tells its trigger and its place in the body, from 1.
  pub signal_of_an_after_trigger : answers second_of_the_body
      ≡ ok ∷ ok ∷ ok ∷ ok ∷ refused_in 1 (Signal 1 2) ∷ count_row 0 ∷ []
  pub signal_undoes_both_levels : works second_of_the_body
      ≡ idle ∷ idle ∷ idle ∷ idle ∷ work 2 2 ∷ idle ∷ []
  -- CREATE TABLE t (a INT); CREATE TABLE u (a INT); CREATE TABLE v (a INT CHECK (a < 5)); CREATE
  -- TRIGGER first AFTER INSERT ON t INSERT INTO u VALUES (1); CREATE TRIGGER second AFTER INSERT ON
  -- u INSERT INTO v VALUES (9); CREATE TRIGGER guard BEFORE INSERT ON v FOR EACH ROW SIGNAL 'stop';
  -- INSERT INTO t VALUES (1); DROP TRIGGER guard; INSERT INTO t VALUES (1);
  pub refusal_names_the_innermost_trigger : answers (
      create_table (integer_column ∷ []) [] ∷ create_table (integer_column ∷ []) []
      ∷ create_table (integer_column ∷ []) (not_deferrable 2 (rule.Check (where_column Less 0 5)) ∷ [])
      ∷ create_trigger 0 0 After event.Insert Statement Always (inserts 1 (numbers (1 ∷ [])) ∷ [])
      ∷ create_trigger 1 1 After event.Insert Statement Always (inserts 2 (numbers (9 ∷ [])) ∷ [])
      ∷ create_trigger 2 2 Before event.Insert Row Always (signals ∷ [])
      ∷ insert_value 0 (number 1) ∷ drop_trigger 2 ∷ insert_value 0 (number 1) ∷ [])
      ≡ ok ∷ ok ∷ ok ∷ ok ∷ ok ∷ ok ∷ refused_in 2 (Signal 2 1) ∷ ok
      ∷ refused_in 1 (Violation (fault 0 3)) ∷ []
