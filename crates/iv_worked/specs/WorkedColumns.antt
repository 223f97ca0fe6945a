-- Worked scripts on UPDATE OF: the columns of a wave and of a level. Constraints, tables and triggers have numbers from 0.
use Rattle.std.specs.Prelude.{◌≡◌, List, [], ◌∷◌}
use Rattle.iv_worked.specs.Types.{BodyStatement, Plan}
use Rattle.iv_worked.specs.Types.value.{Null}
use Rattle.iv_worked.specs.Types.comparison.{Equal}
use Rattle.iv_worked.specs.Types.cond.{Always}
use Rattle.iv_worked.specs.Types.event
use Rattle.iv_worked.specs.Types.matching.{Simple}
use Rattle.iv_worked.specs.Types.nulls.{Distinct}
use Rattle.iv_worked.specs.Types.referential_action.{NoAction, Cascade, SetNull}
use Rattle.iv_worked.specs.Types.rule
use Rattle.iv_worked.specs.Types.cause.{Signal}
use Rattle.iv_worked.specs.Types.time.{Before, After}
use Rattle.iv_worked.specs.Types.granularity.{Row, Statement}
use Rattle.iv_worked.specs.WorkedPlans.{number, numbers, null, new, where_column, integer_column, not_deferrable, foreign_key_rule, references_rule, create_table, insert, insert_row, insert_value, update, update_all, setting, delete, select_all, create_trigger, create_update_of, inserts, sets, signals, commit}
use Rattle.iv_worked.specs.WorkedAnswers.{ok, ok_rows, rows, rows_of, int, refused_in, answers}

-- INSERT INTO log VALUES (n), in a body; log is table 2
abbrev pub logs : List BodyStatement
logs = inserts 2 (number 1 ∷ []) ∷ []

-- CREATE TABLE p (k INT PRIMARY KEY); CREATE TABLE c (x INT REFERENCES p ON UPDATE CASCADE, y INT); CREATE TABLE log (m INT);
abbrev pub parent_and_child : List Plan → List Plan
parent_and_child more =
    create_table (integer_column ∷ []) (not_deferrable 0 (rule.PrimaryKey (0 ∷ [])) ∷ [])
    ∷ create_table (integer_column ∷ integer_column ∷ []) (not_deferrable 1 (references_rule 0 0 0 NoAction Cascade) ∷ [])
    ∷ create_table (integer_column ∷ []) [] ∷ more

-- INSERT INTO p VALUES (1); INSERT INTO c VALUES (1, 5);
abbrev pub filled : List Plan → List Plan
filled more = insert_value 0 (number 1) ∷ insert_row 1 (numbers (1 ∷ 5 ∷ [])) ∷ more

-- CREATE TABLE p (k INT PRIMARY KEY); CREATE TABLE c (x INT REFERENCES p .., y INT REFERENCES p .., z INT REFERENCES p ..);
-- CREATE TABLE log (m INT);
abbrev pub three_keys : List Plan → List Plan
three_keys more =
    create_table (integer_column ∷ []) (not_deferrable 0 (rule.PrimaryKey (0 ∷ [])) ∷ [])
    ∷ create_table (integer_column ∷ integer_column ∷ integer_column ∷ [])
    (not_deferrable 1 (references_rule 0 0 0 Cascade Cascade) ∷ not_deferrable 1 (references_rule 1 0 0 SetNull Cascade)
    ∷ not_deferrable 1 (references_rule 2 0 0 SetNull Cascade) ∷ [])
    ∷ create_table (integer_column ∷ []) [] ∷ more

pub record WorkedColumns : Type 0 where
  -- CREATE TRIGGER tx AFTER UPDATE OF x ON c REFERENCING NEW AS n FOR EACH ROW INSERT INTO log VALUES (n.x); CREATE TRIGGER ty
  -- AFTER UPDATE OF y ON c INSERT INTO log VALUES (0); INSERT INTO p VALUES (1); INSERT INTO c VALUES (1, 5); UPDATE p SET k =
  -- 2; UPDATE c SET y = 6; UPDATE c SET x = 2 WHERE y = 9; SELECT * FROM log; COMMIT;
  pub update_of : answers (parent_and_child (
      create_update_of 0 1 After (0 ∷ []) Row (inserts 2 (new 0 ∷ []) ∷ [])
      ∷ create_update_of 1 1 After (1 ∷ []) Statement (inserts 2 (number 0 ∷ []) ∷ [])
      ∷ filled (update_all 0 0 (number 2) ∷ update_all 1 1 (number 6)
      ∷ update 1 (setting 0 (number 2) ∷ []) (where_column Equal 1 9) ∷ select_all 2 ∷ commit ∷ [])))
      ≡ ok ∷ ok ∷ ok ∷ ok ∷ ok ∷ ok_rows 1 ∷ ok_rows 1 ∷ ok_rows 1 ∷ ok_rows 1 ∷ ok_rows 0 ∷ rows_of ((2 ∷ []) ∷ (0 ∷ []) ∷ [])
      ∷ ok ∷ []
  -- the SET list counts with no candidates: CREATE TRIGGER r AFTER UPDATE OF x ON c INSERT INTO log VALUES (1); UPDATE c SET x =
  -- 2; UPDATE c SET y = 2; SELECT * FROM log;
  pub set_list_without_rows : answers (parent_and_child (
      create_update_of 0 1 After (0 ∷ []) Statement logs
      ∷ update_all 1 0 (number 2) ∷ update_all 1 1 (number 2) ∷ select_all 2 ∷ []))
      ≡ ok ∷ ok ∷ ok ∷ ok ∷ ok_rows 0 ∷ ok_rows 0 ∷ rows_of ((1 ∷ []) ∷ []) ∷ []
  -- CREATE TRIGGER b BEFORE UPDATE OF x ON c SIGNAL 'stop'; UPDATE c SET y = 1; UPDATE c SET x = 1; and not in a later wave:
  -- INSERT INTO p VALUES (1); INSERT INTO c VALUES (1, 5); UPDATE p SET k = 2;
  pub before_statement : answers (parent_and_child (
      create_update_of 0 1 Before (0 ∷ []) Statement (signals ∷ [])
      ∷ update_all 1 1 (number 1) ∷ update_all 1 0 (number 1) ∷ filled (update_all 0 0 (number 2) ∷ [])))
      ≡ ok ∷ ok ∷ ok ∷ ok ∷ ok_rows 0 ∷ refused_in 0 (Signal 0 1) ∷ ok_rows 1 ∷ ok_rows 1 ∷ ok_rows 1 ∷ []
  -- CREATE TRIGGER b BEFORE UPDATE OF x ON c REFERENCING NEW AS n FOR EACH ROW SET n.y = 7; INSERT INTO p VALUES (1); INSERT INTO
  -- c VALUES (1, 5); UPDATE c SET y = 6; SELECT * FROM c; UPDATE p SET k = 2; SELECT * FROM c;
  pub before_row_in_a_later_wave : answers (parent_and_child (
      create_update_of 0 1 Before (0 ∷ []) Row (sets 1 (number 7) ∷ [])
      ∷ filled (update_all 1 1 (number 6) ∷ select_all 1 ∷ update_all 0 0 (number 2) ∷ select_all 1 ∷ [])))
      ≡ ok ∷ ok ∷ ok ∷ ok ∷ ok_rows 1 ∷ ok_rows 1 ∷ ok_rows 1 ∷ rows_of ((1 ∷ 6 ∷ []) ∷ []) ∷ ok_rows 1
      ∷ rows_of ((2 ∷ 7 ∷ []) ∷ []) ∷ []
  -- equal values count: CREATE TRIGGER r AFTER UPDATE OF y ON c FOR EACH ROW INSERT INTO log VALUES (1); .. UPDATE c SET y = 5;
  -- SELECT * FROM log;
  pub equal_values_count : answers (parent_and_child (
      create_update_of 0 1 After (1 ∷ []) Row logs ∷ filled (update_all 1 1 (number 5) ∷ select_all 2 ∷ [])))
      ≡ ok ∷ ok ∷ ok ∷ ok ∷ ok_rows 1 ∷ ok_rows 1 ∷ ok_rows 1 ∷ rows_of ((1 ∷ []) ∷ []) ∷ []
  -- what a BEFORE trigger sets adds nothing: CREATE TRIGGER b BEFORE UPDATE ON c REFERENCING NEW AS n FOR EACH ROW SET n.y = 7;
  -- CREATE TRIGGER r AFTER UPDATE OF y ON c INSERT INTO log VALUES (1); .. UPDATE c SET x = 1; SELECT * FROM c; SELECT * FROM log;
  pub a_set_adds_nothing : answers (parent_and_child (
      create_trigger 0 1 Before event.Update Row Always (sets 1 (number 7) ∷ [])
      ∷ create_update_of 1 1 After (1 ∷ []) Statement logs
      ∷ filled (update_all 1 0 (number 1) ∷ select_all 1 ∷ select_all 2 ∷ [])))
      ≡ ok ∷ ok ∷ ok ∷ ok ∷ ok ∷ ok_rows 1 ∷ ok_rows 1 ∷ ok_rows 1 ∷ rows_of ((1 ∷ 7 ∷ []) ∷ []) ∷ rows_of [] ∷ []
  -- the whole key counts if one column of it changed: CREATE TABLE p (a INT, b INT, PRIMARY KEY (a, b)); CREATE TABLE c (a INT, b INT,
  -- FOREIGN KEY (a, b) REFERENCES p ON UPDATE CASCADE); CREATE TABLE log (m INT); CREATE TRIGGER r AFTER UPDATE OF b ON c INSERT INTO log
  -- VALUES (1); INSERT INTO p VALUES (1, 1); INSERT INTO c VALUES (1, 1); UPDATE p SET a = 2; SELECT * FROM log;
  pub whole_key_counts : answers (
      create_table (integer_column ∷ integer_column ∷ []) (not_deferrable 0 (rule.PrimaryKey (0 ∷ 1 ∷ [])) ∷ [])
      ∷ create_table (integer_column ∷ integer_column ∷ [])
      (not_deferrable 1 (foreign_key_rule (0 ∷ 1 ∷ []) 0 (0 ∷ 1 ∷ []) Simple NoAction Cascade) ∷ [])
      ∷ create_table (integer_column ∷ []) [] ∷ create_update_of 0 1 After (1 ∷ []) Statement logs
      ∷ insert_row 0 (numbers (1 ∷ 1 ∷ [])) ∷ insert_row 1 (numbers (1 ∷ 1 ∷ [])) ∷ update_all 0 0 (number 2) ∷ select_all 2 ∷ [])
      ≡ ok ∷ ok ∷ ok ∷ ok ∷ ok_rows 1 ∷ ok_rows 1 ∷ ok_rows 1 ∷ rows_of ((1 ∷ []) ∷ []) ∷ []
  -- a foreign key counts only if it sets values of a row that stays: ON DELETE CASCADE of x, SET NULL of y and z; CREATE TRIGGER ry AFTER
  -- UPDATE OF y ON c INSERT INTO log VALUES (2); CREATE TRIGGER rz AFTER UPDATE OF z ON c INSERT INTO log VALUES (3); INSERT INTO p VALUES
  -- (1); INSERT INTO c VALUES (1, 1, NULL), (NULL, NULL, 1); DELETE FROM p; SELECT * FROM log;
  pub deleted_rows_name_no_columns : answers (three_keys (
      create_update_of 0 1 After (1 ∷ []) Statement (inserts 2 (number 2 ∷ []) ∷ [])
      ∷ create_update_of 1 1 After (2 ∷ []) Statement (inserts 2 (number 3 ∷ []) ∷ [])
      ∷ insert_value 0 (number 1)
      ∷ insert 1 ((number 1 ∷ number 1 ∷ null ∷ []) ∷ (null ∷ null ∷ number 1 ∷ []) ∷ [])
      ∷ delete 0 Always ∷ select_all 2 ∷ []))
      ≡ ok ∷ ok ∷ ok ∷ ok ∷ ok ∷ ok_rows 1 ∷ ok_rows 2 ∷ ok_rows 1 ∷ rows_of ((3 ∷ []) ∷ []) ∷ []
  -- a trigger that fires has all transitions of its table: CREATE TRIGGER r AFTER UPDATE OF x ON c REFERENCING NEW AS n FOR EACH
  -- ROW INSERT INTO log VALUES (n.x); INSERT INTO p VALUES (1); INSERT INTO c VALUES (1, NULL, NULL), (NULL, 1, NULL); UPDATE p SET
  -- k = 2; SELECT * FROM log;
  pub all_transitions_of_the_table : answers (three_keys (
      create_update_of 0 1 After (0 ∷ []) Row (inserts 2 (new 0 ∷ []) ∷ [])
      ∷ insert_value 0 (number 1)
      ∷ insert 1 ((number 1 ∷ null ∷ null ∷ []) ∷ (null ∷ number 1 ∷ null ∷ []) ∷ [])
      ∷ update_all 0 0 (number 2) ∷ select_all 2 ∷ []))
      ≡ ok ∷ ok ∷ ok ∷ ok ∷ ok_rows 1 ∷ ok_rows 2 ∷ ok_rows 1 ∷ rows ((int 2 ∷ []) ∷ (Null ∷ []) ∷ []) ∷ []
  -- the columns of all waves count, and only those of each table: CREATE TABLE p (k INT PRIMARY KEY); CREATE TABLE c (x INT UNIQUE
  -- REFERENCES p ON UPDATE CASCADE); CREATE TABLE log (m INT); CREATE TABLE d (y INT, z INT REFERENCES c (x) ON UPDATE CASCADE); CREATE
  -- TRIGGER ry AFTER UPDATE OF y ON d INSERT INTO log VALUES (1); CREATE TRIGGER rz AFTER UPDATE OF z ON d INSERT INTO log VALUES (2);
  -- INSERT INTO p VALUES (1); INSERT INTO c VALUES (1); INSERT INTO d VALUES (5, 1); UPDATE p SET k = 2; SELECT * FROM log;
  pub columns_of_later_waves : answers (
      create_table (integer_column ∷ []) (not_deferrable 0 (rule.PrimaryKey (0 ∷ [])) ∷ [])
      ∷ create_table (integer_column ∷ [])
      (not_deferrable 1 (rule.Unique Distinct (0 ∷ [])) ∷ not_deferrable 1 (references_rule 0 0 0 NoAction Cascade) ∷ [])
      ∷ create_table (integer_column ∷ []) []
      ∷ create_table (integer_column ∷ integer_column ∷ []) (not_deferrable 3 (references_rule 1 1 0 NoAction Cascade) ∷ [])
      ∷ create_update_of 0 3 After (0 ∷ []) Statement (inserts 2 (number 1 ∷ []) ∷ [])
      ∷ create_update_of 1 3 After (1 ∷ []) Statement (inserts 2 (number 2 ∷ []) ∷ [])
      ∷ insert_value 0 (number 1) ∷ insert_value 1 (number 1) ∷ insert_row 3 (numbers (5 ∷ 1 ∷ []))
      ∷ update_all 0 0 (number 2) ∷ select_all 2 ∷ [])
      ≡ ok ∷ ok ∷ ok ∷ ok ∷ ok ∷ ok ∷ ok_rows 1 ∷ ok_rows 1 ∷ ok_rows 1 ∷ ok_rows 1 ∷ rows_of ((2 ∷ []) ∷ []) ∷ []
  -- one of the two columns is enough: CREATE TRIGGER r AFTER UPDATE OF x, y ON c INSERT INTO log VALUES (1); CREATE TRIGGER s AFTER
  -- UPDATE OF y, x ON c INSERT INTO log VALUES (1); UPDATE c SET x = 1; SELECT * FROM log;
  pub one_of_two_columns : answers (parent_and_child (
      create_update_of 0 1 After (0 ∷ 1 ∷ []) Statement logs ∷ create_update_of 1 1 After (1 ∷ 0 ∷ []) Statement logs
      ∷ update_all 1 0 (number 1) ∷ select_all 2 ∷ []))
      ≡ ok ∷ ok ∷ ok ∷ ok ∷ ok ∷ ok_rows 0 ∷ rows_of ((1 ∷ []) ∷ (1 ∷ []) ∷ []) ∷ []
  -- the first wave has the columns of the SET list: CREATE TABLE t (a INT, b INT); CREATE TRIGGER b BEFORE UPDATE OF a ON t
  -- REFERENCING NEW AS n FOR EACH ROW SET n.b = 7; INSERT INTO t VALUES (1, 5); UPDATE t SET a = 2; SELECT * FROM t;
  pub set_list_is_of_the_first_wave : answers (
      create_table (integer_column ∷ integer_column ∷ []) []
      ∷ create_update_of 0 0 Before (0 ∷ []) Row (sets 1 (number 7) ∷ [])
      ∷ insert_row 0 (numbers (1 ∷ 5 ∷ [])) ∷ update_all 0 0 (number 2) ∷ select_all 0 ∷ [])
      ≡ ok ∷ ok ∷ ok_rows 1 ∷ ok_rows 1 ∷ rows_of ((2 ∷ 7 ∷ []) ∷ []) ∷ []
  -- the columns of each foreign key that sets values count: CREATE TRIGGER ry AFTER UPDATE OF y ON c INSERT INTO log VALUES (1);
  -- INSERT INTO p VALUES (1); INSERT INTO c VALUES (1, 1, NULL); UPDATE p SET k = 2; SELECT * FROM log;
  pub columns_of_a_second_key : answers (three_keys (
      create_update_of 0 1 After (1 ∷ []) Statement logs
      ∷ insert_value 0 (number 1) ∷ insert_row 1 (number 1 ∷ number 1 ∷ null ∷ []) ∷ update_all 0 0 (number 2) ∷ select_all 2 ∷ []))
      ≡ ok ∷ ok ∷ ok ∷ ok ∷ ok_rows 1 ∷ ok_rows 1 ∷ ok_rows 1 ∷ rows_of ((1 ∷ []) ∷ []) ∷ []
