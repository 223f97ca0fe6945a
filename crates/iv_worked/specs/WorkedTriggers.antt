-- Worked scripts on triggers. Constraints, tables and triggers have numbers from 0.
use Rattle.std.specs.Prelude.{◌≡◌, List, [], ◌∷◌, codes}
use Rattle.iv_worked.specs.Types.{Plan}
use Rattle.iv_worked.specs.Types.value.{Text}
use Rattle.iv_worked.specs.Types.side.{Old, New}
use Rattle.iv_worked.specs.Types.range.{Table, Transition}
use Rattle.iv_worked.specs.Types.expr.{Column, Variable}
use Rattle.iv_worked.specs.Types.comparison.{Equal, Less}
use Rattle.iv_worked.specs.Types.cond.{Always, Compare, IsNull}
use Rattle.iv_worked.specs.Types.mode.{Deferred}
use Rattle.iv_worked.specs.Types.time.{Before, After}
use Rattle.iv_worked.specs.Types.event
use Rattle.iv_worked.specs.Types.granularity.{Row, Statement}
use Rattle.iv_worked.specs.Types.rule
use Rattle.iv_worked.specs.Types.cause
use Rattle.iv_worked.specs.Types.body
use Rattle.iv_worked.specs.Types.data_statement
use Rattle.iv_worked.specs.Types.insert_columns
use Rattle.iv_worked.specs.Types.insert_rows
use Rattle.iv_worked.specs.Types.outputs.{Values}
use Rattle.iv_worked.specs.Types.plan.{Change}
use Rattle.iv_expr.specs.Trees.{plus, times, not_c, exists_c}
use Rattle.iv_worked.specs.WorkedPlans.{number, null, text, column, where_column, integer_column, varchar, not_deferrable, deferrable, create_table, setting, insert_statement, insert, insert_value, update, delete, create_trigger, drop_trigger, select_all, count_all, set_one, start, commit}
use Rattle.iv_worked.specs.WorkedAnswers.{ok, ok_rows, int, rows, fault, refused, refused_in, work, answers, answers_deep, works_within}

-- CREATE TABLE t (a INT CHECK (a < 5)); CREATE TRIGGER r AFTER INSERT ON t INSERT INTO t VALUES
-- (1); INSERT INTO t VALUES (0); DROP TRIGGER r; INSERT INTO t VALUES (9);
abbrev pub endless_trigger : List Plan
endless_trigger =
    create_table (integer_column ∷ []) (not_deferrable 0 (rule.Check (where_column Less 0 5)) ∷ [])
    ∷ create_trigger 0 0 After event.Insert Statement Always
    (body.Data (insert_statement 0 ((number 1 ∷ []) ∷ [])) ∷ [])
    ∷ insert_value 0 (number 0) ∷ drop_trigger 0 ∷ insert_value 0 (number 9) ∷ []

pub record WorkedTriggers : Type 0 where
  pub trigger_depth_limit : answers endless_trigger
      ≡ ok ∷ ok ∷ refused_in 0 (cause.DepthLimit 0) ∷ ok ∷ refused (cause.Violation (fault 0 1))
      ∷ []
  pub trigger_depth_limit_undoes : works_within 65536 endless_trigger
      ≡ work 0 0 ∷ work 0 0 ∷ work 16 16 ∷ work 0 0 ∷ work 1 1 ∷ []
  pub trigger_depth_limit_at_1 : answers_deep 1 endless_trigger
      ≡ ok ∷ ok ∷ refused_in 0 (cause.DepthLimit 0) ∷ ok ∷ refused (cause.Violation (fault 0 1))
      ∷ []
  pub trigger_depth_limit_at_32 : answers_deep 32 endless_trigger
      ≡ ok ∷ ok ∷ refused_in 0 (cause.DepthLimit 0) ∷ ok ∷ refused (cause.Violation (fault 0 1))
      ∷ []
  pub trigger_depth_limit_at_64 : answers_deep 64 endless_trigger
      ≡ ok ∷ ok ∷ refused_in 0 (cause.DepthLimit 0) ∷ ok ∷ refused (cause.Violation (fault 0 1))
      ∷ []
  -- CREATE TABLE t (a INT NOT NULL); CREATE TRIGGER b BEFORE INSERT ON t REFERENCING NEW AS n FOR
  -- EACH ROW WHEN (n.a IS NULL) SET n.a = 9; INSERT INTO t VALUES (NULL); SELECT * FROM t; COMMIT;
  pub before_trigger_fills_null : answers (
      create_table (integer_column ∷ []) (not_deferrable 0 (rule.NotNull 0) ∷ [])
      ∷ create_trigger 0 0 Before event.Insert Row (IsNull (Variable New 0))
      (body.Set (setting 0 (number 9)) ∷ [])
      ∷ insert_value 0 null ∷ select_all 0 ∷ commit ∷ [])
      ≡ ok ∷ ok ∷ ok_rows 1 ∷ rows ((int 9 ∷ []) ∷ []) ∷ ok ∷ []
  -- CREATE TABLE t (a INT CONSTRAINT nn NOT NULL DEFERRABLE); CREATE TRIGGER r AFTER INSERT ON t
  -- UPDATE t SET a = 9 WHERE a IS NULL; INSERT INTO t VALUES (NULL); START TRANSACTION; SET
  -- CONSTRAINTS nn DEFERRED; INSERT INTO t VALUES (NULL); COMMIT; SELECT * FROM t;
  pub check_before_after_triggers : answers (
      create_table (integer_column ∷ []) (deferrable 0 (rule.NotNull 0) ∷ [])
      ∷ create_trigger 0 0 After event.Insert Statement Always
      (body.Data (data_statement.Update 0 (setting 0 (number 9) ∷ []) (IsNull (column 0))) ∷ [])
      ∷ insert_value 0 null ∷ start ∷ set_one 0 Deferred ∷ insert_value 0 null ∷ commit ∷ select_all 0
      ∷ [])
      ≡ ok ∷ ok ∷ refused (cause.Violation (fault 0 1)) ∷ ok ∷ ok ∷ ok_rows 1 ∷ ok
      ∷ rows ((int 9 ∷ []) ∷ []) ∷ []
  -- CREATE TABLE t (a INT); CREATE TABLE log (m VARCHAR(20)); CREATE TRIGGER s AFTER UPDATE ON t
  -- REFERENCING NEW TABLE AS nt WHEN (NOT EXISTS (SELECT * FROM nt)) INSERT INTO log VALUES
  -- ('empty'); CREATE TRIGGER r AFTER UPDATE ON t FOR EACH ROW INSERT INTO log VALUES ('row');
  -- UPDATE t SET a = 1; SELECT * FROM log; COMMIT;
  pub statement_trigger_without_rows : answers (
      create_table (integer_column ∷ []) [] ∷ create_table (varchar 20 ∷ []) []
      ∷ create_trigger 0 0 After event.Update Statement (not_c (exists_c (Transition New) Always))
      (body.Data (insert_statement 1 ((text (codes "empty") ∷ []) ∷ [])) ∷ [])
      ∷ create_trigger 1 0 After event.Update Row Always
      (body.Data (insert_statement 1 ((text (codes "row") ∷ []) ∷ [])) ∷ [])
      ∷ update 0 (setting 0 (number 1) ∷ []) Always ∷ select_all 1 ∷ commit ∷ [])
      ≡ ok ∷ ok ∷ ok ∷ ok ∷ ok_rows 0 ∷ rows ((Text (codes "empty") ∷ []) ∷ []) ∷ ok ∷ []
  -- CREATE TABLE t (a INT); CREATE TABLE u (a INT CONSTRAINT small CHECK (a < 3)); CREATE TRIGGER
  -- ins AFTER INSERT ON t REFERENCING NEW AS n FOR EACH ROW INSERT INTO u VALUES (n.a); CREATE
  -- TRIGGER guard BEFORE DELETE ON t SIGNAL 'keep'; INSERT INTO t VALUES (2), (5); INSERT INTO t
  -- VALUES (2); DELETE FROM t WHERE a = 9; SELECT COUNT(*) FROM u; COMMIT;
  pub refusal_inside_trigger : answers (
      create_table (integer_column ∷ []) []
      ∷ create_table (integer_column ∷ []) (not_deferrable 1 (rule.Check (where_column Less 0 3)) ∷ [])
      ∷ create_trigger 0 0 After event.Insert Row Always
      (body.Data (insert_statement 1 ((Variable New 0 ∷ []) ∷ [])) ∷ [])
      ∷ create_trigger 1 0 Before event.Delete Statement Always (body.Signal (codes "keep") ∷ [])
      ∷ insert 0 ((number 2 ∷ []) ∷ (number 5 ∷ []) ∷ []) ∷ insert_value 0 (number 2)
      ∷ delete 0 (where_column Equal 0 9) ∷ count_all 1 ∷ commit ∷ [])
      ≡ ok ∷ ok ∷ ok ∷ ok ∷ refused_in 0 (cause.Violation (fault 0 4)) ∷ ok_rows 1
      ∷ refused_in 1 (cause.Signal 1 1) ∷ rows ((int 1 ∷ []) ∷ []) ∷ ok ∷ []
  -- CREATE TABLE t (a INT); CREATE TABLE u (a INT); CREATE TRIGGER outer AFTER INSERT ON t INSERT
  -- INTO u VALUES (1); CREATE TRIGGER inner AFTER INSERT ON u SIGNAL 'stop'; INSERT INTO t VALUES
  -- (1);
  pub innermost_trigger_is_told : answers (
      create_table (integer_column ∷ []) [] ∷ create_table (integer_column ∷ []) []
      ∷ create_trigger 0 0 After event.Insert Statement Always
      (body.Data (insert_statement 1 ((number 1 ∷ []) ∷ [])) ∷ [])
      ∷ create_trigger 1 1 After event.Insert Statement Always (body.Signal (codes "stop") ∷ [])
      ∷ insert_value 0 (number 1) ∷ [])
      ≡ ok ∷ ok ∷ ok ∷ ok ∷ refused_in 1 (cause.Signal 1 1) ∷ []
  -- CREATE TABLE t (a INT); CREATE TRIGGER b1 BEFORE UPDATE ON t REFERENCING OLD AS o NEW AS n FOR
  -- EACH ROW SET n.a = n.a + o.a; CREATE TRIGGER b2 BEFORE UPDATE ON t REFERENCING NEW AS n FOR
  -- EACH ROW SET n.a = n.a * 2; INSERT INTO t VALUES (3); INSERT INTO t SELECT a + 1 FROM t; UPDATE
  -- t SET a = 4 WHERE EXISTS (SELECT * FROM t AS z WHERE z.a = t.a + 1); SELECT * FROM t; COMMIT;
  pub before_triggers_in_order : answers (
      create_table (integer_column ∷ []) []
      ∷ create_trigger 0 0 Before event.Update Row Always
      (body.Set (setting 0 (plus (Variable New 0) (Variable Old 0))) ∷ [])
      ∷ create_trigger 1 0 Before event.Update Row Always
      (body.Set (setting 0 (times (Variable New 0) (number 2))) ∷ [])
      ∷ insert_value 0 (number 3)
      ∷ Change
      (data_statement.Insert 0 insert_columns.All
      (insert_rows.Query (Values (plus (column 0) (number 1) ∷ [])) (Table 0) Always))
      ∷ update 0 (setting 0 (number 4) ∷ [])
      (exists_c (Table 0) (Compare Equal (Column 0 0) (plus (Column 1 0) (number 1))))
      ∷ select_all 0 ∷ commit ∷ [])
      ≡ ok ∷ ok ∷ ok ∷ ok_rows 1 ∷ ok_rows 1 ∷ ok_rows 1 ∷ rows ((int 14 ∷ []) ∷ (int 4 ∷ []) ∷ [])
      ∷ ok ∷ []
  -- CREATE TABLE t (a INT, b INT); CREATE TRIGGER x BEFORE INSERT ON t REFERENCING NEW AS n FOR
  -- EACH ROW BEGIN ATOMIC SET n.a = n.a + 1; SET n.b = n.a * 2; END; INSERT INTO t VALUES (1, 0);
  -- SELECT * FROM t;
  pub later_set_sees_the_earlier : answers (
      create_table (integer_column ∷ integer_column ∷ []) []
      ∷ create_trigger 0 0 Before event.Insert Row Always
      (body.Set (setting 0 (plus (Variable New 0) (number 1)))
      ∷ body.Set (setting 1 (times (Variable New 0) (number 2))) ∷ [])
      ∷ insert 0 ((number 1 ∷ number 0 ∷ []) ∷ []) ∷ select_all 0 ∷ [])
      ≡ ok ∷ ok ∷ ok_rows 1 ∷ rows ((int 2 ∷ int 4 ∷ []) ∷ []) ∷ []
  -- CREATE TABLE t (a INT); CREATE TRIGGER r AFTER INSERT ON t REFERENCING NEW AS n FOR EACH ROW WHEN
  -- (n.a < 40) INSERT INTO t VALUES (n.a + 1); INSERT INTO t VALUES (0); SELECT COUNT(*) FROM t;
  pub forty_levels_of_64 : answers_deep 64 (
      create_table (integer_column ∷ []) []
      ∷ create_trigger 0 0 After event.Insert Row (Compare Less (Variable New 0) (number 40))
      (body.Data (insert_statement 0 ((plus (Variable New 0) (number 1) ∷ []) ∷ [])) ∷ [])
      ∷ insert_value 0 (number 0) ∷ count_all 0 ∷ [])
      ≡ ok ∷ ok ∷ ok_rows 1 ∷ rows ((int 41 ∷ []) ∷ []) ∷ []
  -- CREATE TABLE t (a INT); CREATE TABLE log (m INT); CREATE TRIGGER r AFTER INSERT ON t INSERT INTO log
  -- VALUES (1); CREATE TRIGGER s AFTER INSERT ON t INSERT INTO log VALUES (2); INSERT INTO t VALUES (5);
  -- SELECT * FROM log;
  pub after_triggers_in_order : answers (
      create_table (integer_column ∷ []) [] ∷ create_table (integer_column ∷ []) []
      ∷ create_trigger 0 0 After event.Insert Statement Always
      (body.Data (insert_statement 1 ((number 1 ∷ []) ∷ [])) ∷ [])
      ∷ create_trigger 1 0 After event.Insert Statement Always
      (body.Data (insert_statement 1 ((number 2 ∷ []) ∷ [])) ∷ [])
      ∷ insert_value 0 (number 5) ∷ select_all 1 ∷ [])
      ≡ ok ∷ ok ∷ ok ∷ ok ∷ ok_rows 1 ∷ rows ((int 1 ∷ []) ∷ (int 2 ∷ []) ∷ []) ∷ []
