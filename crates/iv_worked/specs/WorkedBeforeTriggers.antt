-- Worked scripts on BEFORE triggers: which of them run, on what tables, and what a SET stores.
use Rattle.std.specs.Prelude.{◌≡◌, List, [], ◌∷◌, codes}
use Rattle.iv_worked.specs.Types.{Plan}
use Rattle.iv_worked.specs.Types.value.{Null, Text}
use Rattle.iv_worked.specs.Types.range.{Table}
use Rattle.iv_worked.specs.Types.comparison.{Equal, Greater}
use Rattle.iv_worked.specs.Types.cond.{Always, Compare}
use Rattle.iv_worked.specs.Types.referential_action.{NoAction, SetNull}
use Rattle.iv_worked.specs.Types.time.{Before}
use Rattle.iv_worked.specs.Types.event
use Rattle.iv_worked.specs.Types.granularity.{Row, Statement}
use Rattle.iv_worked.specs.Types.rule
use Rattle.iv_worked.specs.Types.cause.{NumberOutOfRange, Signal, TextTooLong}
use Rattle.iv_expr.specs.Trees.{plus, not_c, exists_c}
use Rattle.iv_worked.specs.WorkedPlans.{number, numbers, text, column, new, where_column, integer_column, varchar, not_deferrable, references_rule, create_table, insert, insert_row, insert_value, update_all, delete_all, create_trigger, sets, signals, select_all}
use Rattle.iv_worked.specs.WorkedAnswers.{ok, ok_rows, int, rows, rows_of, refused, refused_in, work, idle, answers, works}

-- CREATE TABLE t (m VARCHAR(3)); CREATE TRIGGER r BEFORE INSERT ON t REFERENCING NEW AS n FOR EACH
-- ROW WHEN (n.m = 'x') SET n.m = 'long'; INSERT INTO t VALUES ('abc'); INSERT INTO t VALUES ('x');
-- INSERT INTO t VALUES ('long'); UPDATE t SET m = 'long'; SELECT * FROM t;
abbrev pub texts_of_four_for_three : List Plan
texts_of_four_for_three =
    create_table (varchar 3 ∷ []) []
    ∷ create_trigger 0 0 Before event.Insert Row (Compare Equal (new 0) (text (codes "x")))
    (sets 0 (text (codes "long")) ∷ [])
    ∷ insert_value 0 (text (codes "abc")) ∷ insert_value 0 (text (codes "x"))
    ∷ insert_value 0 (text (codes "long"))
    ∷ update_all 0 0 (text (codes "long")) ∷ select_all 0 ∷ []

pub record WorkedBeforeTriggers : Type 0 where
  -- CREATE TABLE t (a INT); CREATE TRIGGER d BEFORE DELETE ON t BEGIN ATOMIC SIGNAL 'stop'; SIGNAL
  -- 'stop'; END; CREATE TRIGGER i BEFORE INSERT ON t REFERENCING NEW AS n FOR EACH ROW WHEN (n.a >
  -- 5) BEGIN ATOMIC SET n.a = 0; SIGNAL 'stop'; END; CREATE TRIGGER u BEFORE UPDATE ON t FOR EACH
  -- ROW SIGNAL 'stop'; INSERT INTO t VALUES (1); INSERT INTO t VALUES (2), (9); UPDATE t SET a = 2;
  -- DELETE FROM t; SELECT * FROM t;
  pub signal_of_a_before_trigger : answers (
      create_table (integer_column ∷ []) []
      ∷ create_trigger 0 0 Before event.Delete Statement Always (signals ∷ signals ∷ [])
      ∷ create_trigger 1 0 Before event.Insert Row (Compare Greater (new 0) (number 5))
      (sets 0 (number 0) ∷ signals ∷ [])
      ∷ create_trigger 2 0 Before event.Update Row Always (signals ∷ [])
      ∷ insert_value 0 (number 1) ∷ insert 0 (numbers (2 ∷ []) ∷ numbers (9 ∷ []) ∷ [])
      ∷ update_all 0 0 (number 2)
      ∷ delete_all 0 ∷ select_all 0 ∷ [])
      ≡ ok ∷ ok ∷ ok ∷ ok ∷ ok_rows 1 ∷ refused_in 1 (Signal 1 2) ∷ refused_in 2 (Signal 2 1)
      ∷ refused_in 0 (Signal 0 1) ∷ rows_of ((1 ∷ []) ∷ []) ∷ []
  -- CREATE TABLE t (a INT); CREATE TABLE u (a INT); CREATE TRIGGER r BEFORE INSERT ON t REFERENCING
  -- NEW AS n FOR EACH ROW SET n.a = 7; INSERT INTO u VALUES (1); INSERT INTO t VALUES (1); UPDATE t
  -- SET a = a + 1; SELECT * FROM u; SELECT * FROM t;
  pub row_triggers_of_the_table_and_event : answers (
      create_table (integer_column ∷ []) [] ∷ create_table (integer_column ∷ []) []
      ∷ create_trigger 0 0 Before event.Insert Row Always (sets 0 (number 7) ∷ [])
      ∷ insert_value 1 (number 1) ∷ insert_value 0 (number 1)
      ∷ update_all 0 0 (plus (column 0) (number 1))
      ∷ select_all 1 ∷ select_all 0 ∷ [])
      ≡ ok ∷ ok ∷ ok ∷ ok_rows 1 ∷ ok_rows 1 ∷ ok_rows 1 ∷ rows_of ((1 ∷ []) ∷ [])
      ∷ rows_of ((8 ∷ []) ∷ []) ∷ []
  -- CREATE TABLE t (a INT); CREATE TRIGGER r BEFORE INSERT ON t WHEN (EXISTS (SELECT * FROM t)) SIGNAL 'stop'; INSERT
  -- INTO t VALUES (1); INSERT INTO t VALUES (2); SELECT * FROM t;
  pub statement_trigger_with_a_condition : answers (
      create_table (integer_column ∷ []) []
      ∷ create_trigger 0 0 Before event.Insert Statement (exists_c (Table 0) Always) (signals ∷ [])
      ∷ insert_value 0 (number 1) ∷ insert_value 0 (number 2) ∷ select_all 0 ∷ [])
      ≡ ok ∷ ok ∷ ok_rows 1 ∷ refused_in 0 (Signal 0 1) ∷ rows_of ((1 ∷ []) ∷ []) ∷ []
  -- A text that is too long for its column, in a SET, in VALUES and in UPDATE.
  pub text_too_long : answers texts_of_four_for_three
      ≡ ok ∷ ok ∷ ok_rows 1 ∷ refused_in 0 TextTooLong ∷ refused TextTooLong ∷ refused TextTooLong
      ∷ rows ((Text (codes "abc") ∷ []) ∷ []) ∷ []
  -- No wave was applied.
  pub text_too_long_changes_nothing : works texts_of_four_for_three
      ≡ idle ∷ idle ∷ work 1 0 ∷ idle ∷ idle ∷ idle ∷ idle ∷ []
  -- CREATE TABLE t (a INT); CREATE TRIGGER r BEFORE INSERT ON t REFERENCING NEW AS n FOR EACH ROW
  -- WHEN (NOT EXISTS (SELECT * FROM t)) SET n.a = 5; INSERT INTO t VALUES (1), (2); INSERT INTO t
  -- VALUES (3); SELECT * FROM t;
  pub tables_are_seen_before_the_wave : answers (
      create_table (integer_column ∷ []) []
      ∷ create_trigger 0 0 Before event.Insert Row (not_c (exists_c (Table 0) Always))
      (sets 0 (number 5) ∷ [])
      ∷ insert 0 (numbers (1 ∷ []) ∷ numbers (2 ∷ []) ∷ []) ∷ insert_value 0 (number 3) ∷ select_all 0
      ∷ [])
      ≡ ok ∷ ok ∷ ok_rows 2 ∷ ok_rows 1 ∷ rows_of ((5 ∷ []) ∷ (5 ∷ []) ∷ (3 ∷ []) ∷ []) ∷ []
  -- The wave of SET NULL comes after that of the DELETE: its triggers see p without its row, and c
  -- as it was.
  -- CREATE TABLE p (k INT PRIMARY KEY); CREATE TABLE c (x INT REFERENCES p ON DELETE SET NULL, y
  -- INT, z INT); CREATE TRIGGER a BEFORE UPDATE ON c REFERENCING NEW AS n FOR EACH ROW WHEN (NOT
  -- EXISTS (SELECT * FROM p)) SET n.y = 1; CREATE TRIGGER b BEFORE UPDATE ON c REFERENCING NEW AS n
  -- FOR EACH ROW WHEN (EXISTS (SELECT * FROM c WHERE x = 1)) SET n.z = 1; INSERT INTO p VALUES (1);
  -- INSERT INTO c VALUES (1, 0, 0); DELETE FROM p; SELECT * FROM c;
  pub later_waves_see_tables_before_the_wave : answers (
      create_table (integer_column ∷ []) (not_deferrable 0 (rule.PrimaryKey (0 ∷ [])) ∷ [])
      ∷ create_table (integer_column ∷ integer_column ∷ integer_column ∷ [])
      (not_deferrable 1 (references_rule 0 0 0 SetNull NoAction) ∷ [])
      ∷ create_trigger 0 1 Before event.Update Row (not_c (exists_c (Table 0) Always))
      (sets 1 (number 1) ∷ [])
      ∷ create_trigger 1 1 Before event.Update Row (exists_c (Table 1) (where_column Equal 0 1))
      (sets 2 (number 1) ∷ [])
      ∷ insert_value 0 (number 1) ∷ insert_row 1 (numbers (1 ∷ 0 ∷ 0 ∷ [])) ∷ delete_all 0
      ∷ select_all 1 ∷ [])
      ≡ ok ∷ ok ∷ ok ∷ ok ∷ ok_rows 1 ∷ ok_rows 1 ∷ ok_rows 1
      ∷ rows ((Null ∷ int 1 ∷ int 1 ∷ []) ∷ []) ∷ []
  -- CREATE TABLE t (a INT, b INT); CREATE TRIGGER r BEFORE INSERT ON t REFERENCING NEW AS n FOR
  -- EACH ROW WHEN (n.a > 0) SET n.a = 0; CREATE TRIGGER s BEFORE INSERT ON t REFERENCING NEW AS n
  -- FOR EACH ROW WHEN (n.a > 0) SET n.b = 1; INSERT INTO t VALUES (4, 0); SELECT * FROM t;
  pub later_trigger_sees_the_earlier_set : answers (
      create_table (integer_column ∷ integer_column ∷ []) []
      ∷ create_trigger 0 0 Before event.Insert Row (Compare Greater (new 0) (number 0))
      (sets 0 (number 0) ∷ [])
      ∷ create_trigger 1 0 Before event.Insert Row (Compare Greater (new 0) (number 0))
      (sets 1 (number 1) ∷ [])
      ∷ insert_row 0 (numbers (4 ∷ 0 ∷ [])) ∷ select_all 0 ∷ [])
      ≡ ok ∷ ok ∷ ok ∷ ok_rows 1 ∷ rows_of ((0 ∷ 0 ∷ []) ∷ []) ∷ []
  -- Values come first: CREATE TABLE t (a INT); CREATE TRIGGER b BEFORE INSERT ON t SIGNAL 'stop'; INSERT
  -- INTO t VALUES (9223372036854775807 + 1);
  pub values_before_statement_triggers : answers (
      create_table (integer_column ∷ []) []
      ∷ create_trigger 0 0 Before event.Insert Statement Always (signals ∷ [])
      ∷ insert_value 0 (plus (number 9223372036854775807) (number 1)) ∷ [])
      ≡ ok ∷ ok ∷ refused NumberOutOfRange ∷ []
  -- Each trigger runs on all rows before the next: CREATE TABLE t (a INT); CREATE TRIGGER r BEFORE INSERT
  -- ON t REFERENCING NEW AS n FOR EACH ROW WHEN (n.a = 2) SIGNAL 'stop'; CREATE TRIGGER s BEFORE INSERT ON
  -- t REFERENCING NEW AS n FOR EACH ROW WHEN (n.a = 1) SIGNAL 'stop'; INSERT INTO t VALUES (1), (2);
  pub each_trigger_over_all_rows : answers (
      create_table (integer_column ∷ []) []
      ∷ create_trigger 0 0 Before event.Insert Row (Compare Equal (new 0) (number 2)) (signals ∷ [])
      ∷ create_trigger 1 0 Before event.Insert Row (Compare Equal (new 0) (number 1)) (signals ∷ [])
      ∷ insert 0 (numbers (1 ∷ []) ∷ numbers (2 ∷ []) ∷ []) ∷ [])
      ≡ ok ∷ ok ∷ ok ∷ refused_in 0 (Signal 0 1) ∷ []
